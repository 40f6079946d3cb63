-- marks at the places of a history
use Rattle.std.specs.Prelude.{◌≡◌, ℕ, ◌+◌, ◌==◌, List, length, Bool, false, sum_by, count_by, All, if◌then◌else◌, slice_index_or}
use Rattle.model_asked.specs.declared.exchange.Exchange.{Exchange}
use Rattle.service_lock.specs.declared.kept.Kept.{Kept}
use Rattle.service_lock.specs.Kepts.{times, Fits}

abbrev pub one_if : Bool → ℕ
one_if b = if b then 1 else 0

abbrev pub mark_at : ℕ → List Bool → ℕ
mark_at p marks = one_if (slice_index_or marks p false)

-- what one list of kept events does to the marks
pub record IsMarked (history : List Exchange) (marks new : List Bool) (ks : List Kept) : Type 0 where
  pub fits : Fits history ks
  pub marked : (p : ℕ) → mark_at p new ≡ mark_at p marks + count_by (λ k. k.place == p) ks

-- what some such lists do, and how many of so many events are left after them
pub record AreMarked (history : List Exchange) (marks new : List Bool) (left after : ℕ) (kepts : List (List Kept)) : Type 0 where
  pub fits : All (λ ks. Fits history ks) kepts
  pub marked : (p : ℕ) → mark_at p new ≡ mark_at p marks + times p kepts
  pub counted : after + sum_by (λ ks. length ks) kepts ≡ left
