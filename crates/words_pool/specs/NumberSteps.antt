-- what a rule of the words of so many numbers has to let every pool do, whatever else it says
use Rattle.std.specs.Prelude.{◌≡◌, ◌<◌, ℕ, List, [], ◌∷◌, ◌++◌, length, replicate}
use Rattle.atomic_table.specs.Table.{State, Step, Allows, Joins, Splits, opening}
use Rattle.words_pool.specs.declared.pool_view.CallStage.TheVariants.{Seeking, Holding}
use Rattle.words_pool.specs.declared.pool_view.Call.{Call}
use Rattle.words_pool.specs.declared.pool_view.PoolView.{PoolView}
use Rattle.words_pool.specs.PoolView.{lone, no_call, united, view_of}
use Rattle.words_pool.specs.PoolSteps.{Looks, Frees, LooksOn}
use Rattle.words_pool.specs.PoolRule.{word_of}

pub record KeepsSteps (holds : ℕ → State ℕ PoolView → Type 0) (first : ℕ → PoolView) : Type 0 where
  -- no word is set at first
  pub opens : (count : ℕ) → holds count (opening (replicate (word_of count) 0) [] (first count))
  -- a call looks at its place
  pub looks : (count slots seat place : ℕ) (c : Call) (past : List Call) (s : Step ℕ) → place < count → c.stage ≡ Seeking → c.place ≡ place →
      Allows (holds count) slots seat (lone c past, []) (word_of place) (λ n. n) (Looks s (lone c past, []))
  -- a call gives its place back
  pub frees : (count slots seat place : ℕ) (c : Call) (past : List Call) (s : Step ℕ) → place < count → c.stage ≡ Holding → c.place ≡ place →
      Allows (holds count) slots seat (lone c past, []) (word_of place) (λ _. 0) (λ _. Frees s (lone c past, []) 0)
  -- two seats meet, look at a word, and part
  pub unites : (count seat other : ℕ) (v w : PoolView) → Joins (holds count) seat v other w (united v w) no_call
  pub looks_on : (count slots seat : ℕ) (v : PoolView) (s : Step ℕ) → length v.calls ≡ 2 →
      Allows (holds count) slots seat (v, []) 0 (λ n. n) (LooksOn s (v, []))
  pub severs : (count seat : ℕ) (c d : Call) (past others : List Call) →
      Splits (holds count) seat (view_of (c ∷ d ∷ []) (past ++ others)) (lone c (past ++ others)) (lone d [])
