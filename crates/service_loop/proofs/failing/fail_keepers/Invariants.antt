use Rattle.std.proofs.Common.{◌≡◌, ◌<◌, ◌-◌, ℕ, true, length, get_or, None}
use Rattle.model_pool.specs.stays.Stays.{keeps_any}
use Rattle.service_loop.proofs.Common.{seats_of}
use Rattle.service_loop.specs.Attending.{number_at}
use Rattle.service_loop.specs.Keepers.{SeatFails}
use Rattle.service_loop.specs.Sendings.{Unsent}
use Rattle.service_loop.proofs.failing.fail_keepers.Given as goal

-- so many were looked at
abbrev pub invariant-loop-key : goal.invariant-loop-key
invariant-loop-key g l = record {
  fail : (i : ℕ) → i < l.key → keeps_any (number_at l.numbers i) l.stays ≡ true → SeatFails (get_or l.seats i None);
  unsent : Unsent (seats_of g.S.Stream.left g.S.Stream.gone) l.fn.seats l.seats;
}

abbrev pub decreases-loop-key : goal.decreases-loop-key
decreases-loop-key g l = length l.seats - l.key
