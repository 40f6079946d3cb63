use Rattle.std.proofs.Common.{◌≡◌, ℕ, ◌+◌, ◌<◌, Some, slice_get}
use Rattle.service_hall.specs.Halls.{desk_of}
use Rattle.service_lock.specs.Words.{IsOwnerOrNone}
use Rattle.service_lock.proofs.names.agrees.Given as goal

abbrev pub invariant-loop-place : goal.invariant-loop-place
invariant-loop-place g l =
    (place : ℕ) → (word : ℕ) → place < l.place → slice_get l.words place ≡ Some word → IsOwnerOrNone (desk_of l.closed.hall) (place + 1) word
