-- an invariant of one splitter, under the accesses of any visitors in any order
use Rattle.std.specs.Prelude.{◌≡◌, ◌≢◌, ℕ, true, false}
use Rattle.model_splitter.specs.declared.stage.VisitStage.{VisitStage}
use Rattle.model_splitter.specs.declared.stage.VisitStage.TheVariants.{Gone}
use Rattle.model_splitter.specs.Stage.{has_entered, has_set, is_between, has_stopped, went_right, went_down}
use Rattle.model_splitter.specs.Law.{IsSplit}

-- X, Y and the visits to one splitter agree
pub record DoorSatisfiesSpec (x y : ℕ) (stage : ℕ → VisitStage) : Type 0 where
  -- while Y is clear, no visit has set it and none has gone right
  pub unset : y ≡ 0 → (p : ℕ) → has_set (stage p) ≡ false
  pub none_right : y ≡ 0 → (p : ℕ) → went_right (stage p) ≡ false
  -- if Y is set, a visit set it
  pub setter : y ≢ 0 → (p : ℕ) × (has_set (stage p) ≡ true)
  -- once a visit has entered, X names one that has entered and has not gone down
  pub in_x : (p : ℕ) → has_entered (stage p) ≡ true → has_entered (stage x) ≡ true
  pub stays : went_down (stage x) ≡ false
  -- if one visit stopped, X names none that is between entering and its end
  pub alone : (p : ℕ) → has_stopped (stage p) ≡ true → (q : ℕ) → is_between (stage q) ≡ true → x ≢ q
  pub one : (p q : ℕ) → has_stopped (stage p) ≡ true → has_stopped (stage q) ≡ true → p ≡ q

-- the visits satisfy the specification of a splitter
abbrev pub IsSplitter : (ℕ → VisitStage) → Type 0
IsSplitter stage = IsSplit (λ p. has_entered (stage p) ≡ true) (λ p way. stage p ≡ Gone way)
