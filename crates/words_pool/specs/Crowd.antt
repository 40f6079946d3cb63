-- Who gets a number among few gets a small one: the number of a call is at most the most calls that competed, held or
-- sought, at one moment of it (Moir and Anderson 1995, of long-lived renaming by test-and-set).
-- A moment is reported by how many comings and goings of calls were before it. Who competed at a moment is reported by when calls
-- came and went, which stays in the views of their seats.
use Rattle.std.specs.Prelude.{◌≡◌, ◌≤◌, ◌+◌, ◌-◌, ℕ, zero, suc, max, List, [], ◌∷◌}
use mathlib.Core.Option.{some}
use lib.ListN.{get_elem?}
use Rattle.words_pool.specs.declared.pool_view.CallStage.{CallStage}
use Rattle.words_pool.specs.declared.pool_view.CallStage.TheVariants.{AtRest, Seeking, Holding, Ended}
use Rattle.words_pool.specs.declared.pool_view.Call.{Call}
use Rattle.words_pool.specs.declared.pool_view.PoolView.{PoolView}
use Rattle.words_pool.specs.Tally.{tally}

-- one of four numbers
abbrev pub by_each : CallStage → ℕ → ℕ → ℕ → ℕ → ℕ
by_each AtRest rests seeks holds ended = rests
by_each Seeking rests seeks holds ended = seeks
by_each Holding rests seeks holds ended = holds
by_each Ended rests seeks holds ended = ended

-- 1 where this call competes
abbrev pub competes : Call → ℕ
competes c = by_each c.stage 0 1 1 0

-- 1 where it competes at the place or further on
abbrev pub beyond : ℕ → Call → ℕ
beyond place c = by_each c.stage 0 (1 - (place - c.place)) (1 - (place - c.place)) 0

-- how often it has come and gone
abbrev pub moves : Call → ℕ
moves c = by_each c.stage 0 1 1 2

-- the present moment
abbrev pub now : List PoolView → ℕ
now views = tally moves views

-- 1 where it competed at this moment
abbrev pub competed : ℕ → Call → ℕ
competed t c = by_each c.stage 0 (1 - (c.came - t)) (1 - (c.came - t)) ((1 - (c.came - t)) - (1 - (c.went - t)))

-- how often it had come and gone by this moment
abbrev pub moved_by : ℕ → Call → ℕ
moved_by t c = by_each c.stage 0 (1 - (c.came - t)) (1 - (c.came - t)) ((1 - (c.came - t)) + (1 - (c.went - t)))

-- the log: how many competed at each of so many moments from the first on, the newest first
abbrev pub log_of : List PoolView → ℕ → ℕ → List ℕ
log_of views first zero = []
log_of views first (suc n) = tally (competed (first + n)) views ∷ log_of views first n

-- the part of the log from a call's coming to its taking of the number
abbrev pub log_of_call : List PoolView → Call → List ℕ
log_of_call views c = log_of views c.came (suc c.took - c.came)

-- the greatest of some numbers
abbrev pub greatest : List ℕ → ℕ
greatest [] = 0
greatest (n ∷ ns) = max n (greatest ns)

-- the number of a call is at most the most that competed at one of its moments, as its view has kept them
abbrev pub IsSmall : Call → Type 0
IsSmall c = suc c.place ≤ greatest c.crowds

-- at some moment since this one as many competed as stand at the place or further on, and `place` more
pub record WasCrowded (views : List PoolView) (since place : ℕ) : Type 0 where
  pub moment : ℕ
  pub after : since ≤ moment
  pub before : moment ≤ now views
  pub many : tally (beyond place) views + place ≤ tally (competed moment) views

abbrev pub crowded_at : CallStage → List PoolView → Call → Type 0
crowded_at AtRest views c = Unit {0}
crowded_at Seeking views c = (c.came ≤ now views) × ((place : ℕ) → place ≤ c.place → WasCrowded views c.came place)
crowded_at Holding views c = (c.came ≤ now views) × (c.took ≤ now views) × (c.crowds ≡ log_of_call views c) × IsSmall c
crowded_at Ended views c = Unit {0}

abbrev pub Each : (Call → Type 0) → List Call → Type 0
Each P [] = Unit {0}
Each P (c ∷ cs) = P c × Each P cs

pub record KeepsCrowd (views : List PoolView) : Type 0 where
  -- by moment t there were t comings and goings, or all if there are fewer: so each moment is of one call
  pub clock : (t : ℕ) → tally (moved_by t) views ≡ t - (t - now views)
  -- who competes now is who competed at the last moment
  pub present : (t : ℕ) → now views ≤ t → tally (competed t) views ≡ tally competes views
  pub crowd : (seat : ℕ) (v : PoolView) → get_elem? views seat ≡ some v → Each (λ c. crowded_at c.stage views c) v.calls
