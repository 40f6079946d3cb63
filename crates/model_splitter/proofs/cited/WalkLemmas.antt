-- walks from door to door, by how far the visit to a door has come
use Rattle.std.proofs.Common.{◌≡◌, ◌↔◌, ℕ, ◌+◌, ◌≤◌, ◌==◌, ◌⊎◌, true, false, cond, inl, inr, Option, Some, None, refl, sym, ap, arith, IsSome}
use Rattle.model_splitter.proofs.Common.{Stop, Right, Down, VisitStage, Outside, WroteX, SawClear, WroteY, Gone, DoorSatisfiesSpec, went_right, went_down, stage_after}
use Rattle.model_steps.specs.declared.note.Note.{Note}
use Rattle.model_steps.specs.declared.note.Note.TheVariants.{Quiet, Said, Ended}
use Rattle.model_steps.specs.Calls.{outcome_in}
use Rattle.model_splitter.specs.Walk.{gone_on, note_at_door, place_at_door, accesses_at}

module _ {W : Type 0} (here : VisitStage → W) (right down : W) where
  -- where a walk stands: here still, or before the next door
  pub goes_on : (s : VisitStage) →
      ((went_right s ≡ false) × (went_down s ≡ false) × (gone_on here right down s ≡ here s))
      ⊎ (((s ≡ Gone Right) × (gone_on here right down s ≡ right)) ⊎ ((s ≡ Gone Down) × (gone_on here right down s ≡ down)))
  goes_on Outside = inl (refl, refl, refl)
  goes_on WroteX = inl (refl, refl, refl)
  goes_on SawClear = inl (refl, refl, refl)
  goes_on WroteY = inl (refl, refl, refl)
  goes_on (Gone Stop) = inl (refl, refl, refl)
  goes_on (Gone Right) = inr (inl (refl, refl))
  goes_on (Gone Down) = inr (inr (refl, refl))

  -- what a walk says at door k tells the place at which it then stands, if any
  pub tells_place : (place_of : W → Option ℕ) (k : ℕ) (s : VisitStage) → place_of (here s) ≡ place_at_door k s → place_of right ≡ None → place_of down ≡ None →
      outcome_in (note_at_door k s) ≡ place_of (gone_on here right down s)
  tells_place place_of k Outside h r d = sym h
  tells_place place_of k WroteX h r d = sym h
  tells_place place_of k SawClear h r d = sym h
  tells_place place_of k WroteY h r d = sym h
  tells_place place_of k (Gone Stop) h r d = sym h
  tells_place place_of k (Gone Right) h r d = sym r
  tells_place place_of k (Gone Down) h r d = sym d

-- a note says that the program has ended where it tells an outcome
pub ended_is : {O : Type 0} (note : Note O) (x : O) → (note ≡ Ended x) ↔ (outcome_in note ≡ Some x)
ended_is Quiet x = (λ h. absurd (cc), λ h. absurd (cc))
ended_is (Said said) x = (λ h. absurd (cc), λ h. absurd (cc))
ended_is (Ended outcome) x = (λ h. let same : outcome ≡ x = cc in ap Some same, λ h. let same : outcome ≡ x = cc in ap Ended same)

-- what a place tells of the visit
pub place_is : (k : ℕ) (s : VisitStage) (place : ℕ) → place_at_door k s ≡ Some place → (s ≡ Gone Stop) × (place ≡ k)
place_is k (Gone Stop) place h = (refl, let e : k ≡ place = cc in sym e)
place_is k s place h = absurd (cc)

-- two whose visits to lawful doors have one place are one
pub one_at_place : (x_of y_of : ℕ → ℕ) (stage : ℕ → ℕ → VisitStage) → ((k : ℕ) → DoorSatisfiesSpec (x_of k) (y_of k) (stage k)) →
    (p q i j place : ℕ) → place_at_door i (stage i p) ≡ Some place → place_at_door j (stage j q) ≡ Some place → p ≡ q
one_at_place x_of y_of stage lawful p q i j place h k =
    let at_i = place_is i (stage i p) place h in
    let at_j = place_is j (stage j q) place k in
    (lawful place).one p q (rw (at_i.1, at_i.0) refl) (rw (at_j.1, at_j.0) refl)

pub few_at_door : (s : VisitStage) → accesses_at s ≤ 4
few_at_door Outside = omega arith
few_at_door s = omega arith

-- who has made four accesses at a door, and has not left it, has its place
pub fourth_places : (k : ℕ) (s : VisitStage) → 4 ≤ accesses_at s → went_right s ≡ false → went_down s ≡ false → IsSome (place_at_door k s)
fourth_places k (Gone Stop) h r d = refl
fourth_places k (Gone Right) h r d = absurd (cc)
fourth_places k (Gone Down) h r d = absurd (cc)
fourth_places k s h r d = absurd (omega arith)

-- each access of a visit that has not ended is one more
pub one_more : (p : ℕ) (s : VisitStage) (x y k : ℕ) → place_at_door k s ≡ None → went_right s ≡ false → went_down s ≡ false → (accesses_at s + 1 ≤ accesses_at (stage_after p s x y)) × (accesses_at s ≤ 3)
one_more p Outside x y k a r d = (omega arith, omega arith)
one_more p WroteX x y k a r d = (elim (y == 0) as (λ t. 1 + 1 ≤ accesses_at (cond t SawClear (Gone Right))) [ true ↦ omega arith | false ↦ omega arith ], omega arith)
one_more p SawClear x y k a r d = (omega arith, omega arith)
one_more p WroteY x y k a r d = (elim (x == p) as (λ t. 3 + 1 ≤ accesses_at (cond t (Gone Stop) (Gone Down))) [ true ↦ omega arith | false ↦ omega arith ], omega arith)
one_more p (Gone Stop) x y k a r d = absurd (cc)
one_more p (Gone Right) x y k a r d = absurd (cc)
one_more p (Gone Down) x y k a r d = absurd (cc)
