-- the specification of the splitter (Moir and Anderson 1995), by the participants that entered and the way that each
-- took
use Rattle.std.specs.Prelude.{◌≡◌, ◌≢◌, ℕ, ◌<◌, ◌≤◌, List, Option, Some, IsSome, is_some}
use Rattle.model_steps.specs.Calls.{Call, steps_of, outcome_of}
use Rattle.model_steps.specs.Due.{EndsOnce}
use Rattle.model_splitter.specs.declared.way.Way.{Way}
use Rattle.model_splitter.specs.declared.way.Way.TheVariants.{Stop, Right, Down}

-- at most one participant stopped
abbrev pub AtMostOneStopped : (ℕ → Way → Type 0) → Type 0
AtMostOneStopped Took = (p q : ℕ) → Took p Stop → Took q Stop → p ≡ q

-- if anyone entered, one of those who entered did not take this way
abbrev pub NotAllTook : Way → (ℕ → Type 0) → (ℕ → Way → Type 0) → Type 0
NotAllTook way Entered Took = (p : ℕ) → Entered p → (q : ℕ) × Entered q × (¬ Took q way)

-- at most one of the participants that entered stopped; not all of them went right, and not all of them went down
pub record IsSplit (Entered : ℕ → Type 0) (Took : ℕ → Way → Type 0) : Type 0 where
  pub one_stops : AtMostOneStopped Took
  pub not_all_right : NotAllTook Right Entered Took
  pub not_all_down : NotAllTook Down Entered Took

-- p has entered: it has made an accepted step. A visit that has not ended counts
abbrev pub HasEntered : List (Call (Option Way)) → ℕ → Type 0
HasEntered r p = 0 < steps_of p r

-- p's visit ended by this way
abbrev pub WentBy : List (Call (Option Way)) → ℕ → Way → Type 0
WentBy r p way = outcome_of p r ≡ Some way

-- The specification over calls and replies. The participants that entered are split, and one that enters alone stops. A
-- visit that goes right ends at its second step, and any other at its fourth. No participant makes a step after its
-- visit has ended
pub record SplitterSpec (r : List (Call (Option Way))) : Type 0 where
  pub split : IsSplit (HasEntered r) (WentBy r)
  pub at_most_four : (p : ℕ) → steps_of p r ≤ 4
  pub fourth_ends : (p : ℕ) → steps_of p r ≡ 4 → IsSome (outcome_of p r)
  pub right_at_two : (p : ℕ) → WentBy r p Right → steps_of p r ≡ 2
  pub else_at_four : (p : ℕ) (way : Way) → way ≢ Right → WentBy r p way → steps_of p r ≡ 4
  pub alone_stops : (p : ℕ) → ((q : ℕ) → HasEntered r q → q ≡ p) → (way : Way) → WentBy r p way → way ≡ Stop
  pub ends_once : EndsOnce is_some r
