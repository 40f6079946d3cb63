-- What stands at the places of a log that grows.
use Rattle.std.proofs.Common.{◌≡◌, ◌<◌, ◌≤◌, ℕ, zero, suc, List, [], ◌∷◌, ◌++◌, length, ◌⊎◌, inl, inr, refl, arith, sym, subst}
use Rattle.service_log.specs.Places.{Adds, AddsFrom, IsDecidedBelow, IsTaken, Lands, stands_in}

-- the entry that was added stands behind all others
pub stands_last : (log : List (List ℕ)) (entry : List ℕ) → stands_in (log ++ entry ∷ []) (length log) entry
stands_last [] entry = refl
stands_last (first ∷ log) entry = stands_last log entry

-- what stood stands
pub stands_still : (log : List (List ℕ)) (added : List ℕ) (place : ℕ) (entry : List ℕ) → stands_in log place entry → stands_in (log ++ added ∷ []) place entry
stands_still [] added place entry h = absurd cc
stands_still (first ∷ log) added zero entry h = h
stands_still (first ∷ log) added (suc place) entry h = stands_still log added place entry h

-- and nothing else does
pub stands_of_added : (log : List (List ℕ)) (added : List ℕ) (place : ℕ) (entry : List ℕ) → stands_in (log ++ added ∷ []) place entry → stands_in log place entry ⊎ ((place ≡ length log) × (entry ≡ added))
stands_of_added [] added zero entry h = inr (refl, cc)
stands_of_added [] added (suc place) entry h = absurd cc
stands_of_added (first ∷ log) added zero entry h = inl h
stands_of_added (first ∷ log) added (suc place) entry h =
    elim (stands_of_added log added place entry h) [ inl old ↦ inl old | inr new ↦ inr (omega (arith, new.0), new.1) ]

pub adds_last : (log : List (List ℕ)) (entry : List ℕ) → Adds (stands_in log) (length log) entry (stands_in (log ++ entry ∷ []))
adds_last log entry = record {
  keeps = stands_still log entry;
  only = stands_of_added log entry;
}

-- something stands at each place before the end
pub taken_below : (log : List (List ℕ)) (place : ℕ) → place < length log → IsTaken (stands_in log) place
taken_below [] place within = absurd (omega (arith, within))
taken_below (first ∷ log) zero within = (first, refl)
taken_below (first ∷ log) (suc place) within = taken_below log place (omega (arith, within))

pub decided_below : (log : List (List ℕ)) (below : ℕ) → below ≤ length log → IsDecidedBelow (stands_in log) below
decided_below log below within = λ place less. taken_below log place (omega (arith, within, less))

-- an entry that was added came to stand at the first place that was empty
lands_last : (log : List (List ℕ)) (entry : List ℕ) (place : ℕ) → place ≤ length log → Lands (stands_in log) (stands_in (log ++ entry ∷ [])) (λ at. length log ≤ at) place entry (length log)
lands_last log entry place within = record {
  from = within;
  free = omega arith;
  passed = λ between after before. let taken = taken_below log between before in (taken.0, stands_still log entry between taken.0 taken.1);
  stood = stands_last log entry;
  adds = adds_last log entry;
}

pub lands_so : (log new : List (List ℕ)) (entry : List ℕ) (place next : ℕ) → next ≡ length log → new ≡ log ++ entry ∷ [] → place ≤ next →
    Lands (stands_in log) (stands_in new) (λ at. length log ≤ at) place entry next
lands_so log new entry place next many is within =
    subst (λ (n : ℕ). Lands (stands_in log) (stands_in new) (λ at. length log ≤ at) place entry n) (sym many)
    (subst (λ (l : List (List ℕ)). Lands (stands_in log) (stands_in l) (λ at. length log ≤ at) place entry (length log)) (sym is) (lands_last log entry place (omega (arith, many, within))))

pub lands_adds : (before after : ℕ → List ℕ → Type 0) (lacked : ℕ → Type 0) (place : ℕ) (entry : List ℕ) (at : ℕ) → Lands before after lacked place entry at → AddsFrom before place entry after
lands_adds before after lacked place entry at lands = record { at = at; from = lands.from; adds = lands.adds }
