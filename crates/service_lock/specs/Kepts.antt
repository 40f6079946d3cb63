-- what callers keep: their accepted events, with replies and places that rise
use Rattle.std.specs.Prelude.{◌≡◌, ℕ, ◌+◌, ◌<◌, ◌≤◌, ◌==◌, List, [], ◌∷◌, ◌++◌, length, Bool, true, false, ◌&&◌, nat_le, nat_lt, sum_by, count_by, All, if◌then◌else◌, Some, slice_get}
use Rattle.model_asked.specs.declared.event.Event.{Event}
use Rattle.model_asked.specs.declared.event.Event.TheVariants.{Begin}
use Rattle.model_asked.specs.declared.exchange.Exchange.{Exchange}
use Rattle.model_asked.specs.declared.reply.Reply.TheVariants.{Ok}
use Rattle.text_worlds.specs.desk.DeskCalls.{exchange}
use Rattle.model_asked.specs.Replies.{ShownReply, is_refusal}
use Rattle.service_lock.specs.declared.kept.Kept.{Kept}
use mathlib.Core.List.{IsPrefix}
use Rattle.model_asked.specs.declared.config.Config.{Config}
use Rattle.text_worlds.specs.desk.Desk.{owner_reply}
use Rattle.service_lock.specs.Answers.{IsAnswered}
use Rattle.service_lock.specs.CallerState.{CallerState, caller_of}
use Rattle.service_hall.specs.Halls.{hall_of, desk_of, SatisfiesSpec}
use Rattle.service_lock.specs.KeptLogs.{kept_of}

-- the places rise, from the first bound on, and stay below the second
abbrev pub rises : ℕ → List Kept → ℕ → Bool
rises from [] next = nat_le from next
rises from (k ∷ ks) next = nat_le from k.place && rises (k.place + 1) ks next

-- an accepted event is kept with its reply, at a place above the others
pub record IsKept (ks : List Kept) (e : Event) (r : ShownReply) (new : List Kept) : Type 0 where
  pub place : ℕ
  pub above : All (λ k. k.place < place) ks
  pub is : new ≡ ks ++ kept_of place (exchange e r) ∷ []

abbrev pub KeepsUnless : Bool → List Kept → Event → ShownReply → List Kept → Type 0
KeepsUnless true ks e r new = new ≡ ks
KeepsUnless false ks e r new = IsKept ks e r new

-- what an event with its reply does to a caller's list: an accepted one is added, a refused one changes nothing
abbrev pub Keeps : List Kept → Event → ShownReply → List Kept → Type 0
Keeps ks e r new = KeepsUnless (is_refusal r) ks e r new

-- how often a place was kept
abbrev pub times : ℕ → List (List Kept) → ℕ
times p kepts = sum_by (λ ks. count_by (λ k. k.place == p) ks) kepts

abbrev pub Fits : List Exchange → List Kept → Type 0
Fits history ks = All (λ k. slice_get history k.place ≡ Some k.exchange) ks

-- what a clerk's type says: it has one share of its lock's count, which counts what it kept, at places that rise; and that stands in what it
-- has seen, which is a lawful history
abbrev pub IsClerk : Config → ℕ → ℕ → List Kept → ℕ → List Exchange → Type 0
IsClerk c parts amount ks next seen =
    (parts ≡ 1) × (amount ≡ length ks) × (rises 0 ks next ≡ true) × (next ≤ length seen) × Fits seen ks × SatisfiesSpec (hall_of c seen)

-- a clerk that was just opened has kept nothing, and has seen this history, which is lawful
abbrev pub IsNew : Config → List Exchange → CallerState → Type 0
IsNew c history s = (s ≡ caller_of [] history) × SatisfiesSpec (hall_of c s.seen)

-- each place of the history was kept once, with the exchange there, and no other place
pub record IsJust (history : List Exchange) (kepts : List (List Kept)) : Type 0 where
  pub once : (p : ℕ) → times p kepts ≡ (if nat_lt p (length history) then 1 else 0)
  pub fits : All (λ ks. Fits history ks) kepts
  pub counted : sum_by (λ ks. length ks) kepts ≡ length history

-- a session that has only begun, as the lock's hall let it
pub record IsOpened (c : Config) (id : ℕ) (s : CallerState) : Type 0 where
  pub place : ℕ
  pub is : s.kept ≡ kept_of place (exchange (Begin id) Ok) ∷ []
  pub answer : IsAnswered c [] (Begin id) Ok s.seen

-- One event of a caller, by one taking of the lock: the lock's hall answered it, and the caller keeps it with its reply where it was
-- accepted. All that the caller has kept stands in the history that it has seen, each at its place
pub record IsTaken (c : Config) (s : CallerState) (e : Event) (r : ShownReply) (t : CallerState) : Type 0 where
  pub answer : IsAnswered c s.seen e r t.seen
  pub kept : Keeps s.kept e r t.kept
  pub stands : Fits t.seen t.kept

-- who has a name was reported to a caller as the lock's hall tells it, whose history the caller has now seen
pub record IsReported (c : Config) (s : CallerState) (number : ℕ) (r : ShownReply) (t : CallerState) : Type 0 where
  pub lawful : SatisfiesSpec (hall_of c t.seen)
  pub longer : IsPrefix s.seen t.seen
  pub answer : r ≡ owner_reply (desk_of (hall_of c t.seen)) number
  pub same : t.kept ≡ s.kept
  pub stands : Fits t.seen t.kept

-- what a caller has seen is a lawful history of this config, in which all that it has kept stands at its place
pub record IsSound (c : Config) (s : CallerState) : Type 0 where
  pub lawful : SatisfiesSpec (hall_of c s.seen)
  pub stands : Fits s.seen s.kept
