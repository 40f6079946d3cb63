-- sums over the calls of all seats
use Rattle.std.specs.Prelude.{◌+◌, ◌==◌, ℕ, List, [], ◌∷◌, Bool, true, false, zero, suc}
use Rattle.words_pool.specs.declared.pool_view.CallStage.{CallStage}
use Rattle.words_pool.specs.declared.pool_view.CallStage.TheVariants.{Holding}
use Rattle.words_pool.specs.declared.pool_view.Call.{Call}
use Rattle.words_pool.specs.declared.pool_view.PoolView.{PoolView}

-- the sum of f over some calls
abbrev pub sum_of : (Call → ℕ) → List Call → ℕ
sum_of f [] = 0
sum_of f (c ∷ cs) = f c + sum_of f cs

-- the sum of f over the calls of a seat, those that have ended among them
abbrev pub own : (Call → ℕ) → PoolView → ℕ
own f v = sum_of f v.calls + sum_of f v.past

-- the sum of f over the calls of all seats
abbrev pub tally : (Call → ℕ) → List PoolView → ℕ
tally f [] = 0
tally f (v ∷ vs) = own f v + tally f vs

abbrev pub one_if : Bool → ℕ
one_if true = 1
one_if false = 0

abbrev pub if_holding : CallStage → ℕ → ℕ
if_holding Holding n = n
if_holding s n = 0

-- 1 where this call holds the place
abbrev pub holding : ℕ → Call → ℕ
holding place c = if_holding c.stage (one_if (c.place == place))

-- the sum of f over the numbers from 0 that are less than this
abbrev pub sum_below : (ℕ → ℕ) → ℕ → ℕ
sum_below f zero = 0
sum_below f (suc n) = sum_below f n + f n
