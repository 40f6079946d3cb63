-- The rule of a pool whose numbers are sought from 1 upward by as many tickets as there are numbers (Moir and Anderson 1995):
-- that of a pool; of the tickets at most `count - place` stand at a place with `place` others below it, or further on; and
-- whoever holds a number is one of a crowd that was as large.
use Rattle.std.specs.Prelude.{◌≡◌, ◌≤◌, ◌<◌, ◌-◌, ℕ, zero, suc, List, [], ◌∷◌, set}
use mathlib.Core.Option.{some}
use lib.ListN.{get_elem?}
use Rattle.atomic_table.specs.Table.{State, Me, Step}
use Rattle.words_pool.specs.declared.pool_view.CallStage.{CallStage}
use Rattle.words_pool.specs.declared.pool_view.CallStage.TheVariants.{AtRest, Seeking, Holding, Ended}
use Rattle.words_pool.specs.declared.pool_view.Call.{Call}
use Rattle.words_pool.specs.declared.pool_view.PoolView.{PoolView}
use Rattle.words_pool.specs.PoolView.{at_rest, lone, call_of}
use Rattle.words_pool.specs.PoolSteps.{ComesBySwap, Takes}
use Rattle.words_pool.specs.Tally.{own, tally}
use Rattle.words_pool.specs.PoolRule.{KeepsPool}
use Rattle.words_pool.specs.Crowd.{competes, now, log_of_call, IsSmall, KeepsCrowd}

-- one of two numbers: for a call that rests, and for one that competes; 0 for one that has ended
abbrev pub by_stage : CallStage → ℕ → ℕ → ℕ
by_stage AtRest rests competes = rests
by_stage Seeking rests competes = competes
by_stage Holding rests competes = competes
by_stage Ended rests competes = 0

-- 1 where this call stands at the place or further on; who rests stands at the first
abbrev pub from : ℕ → Call → ℕ
from place c = by_stage c.stage (1 - place) (1 - (place - c.place))

-- 1 where this call rests
abbrev pub rests : Call → ℕ
rests c = by_stage c.stage 1 0

-- so many calls that have not begun
abbrev pub undealt : ℕ → List Call
undealt zero = []
undealt (suc count) = at_rest ∷ undealt count

pub record KeepsLine (count : ℕ) (words : List ℕ) (views : List PoolView) : Type 0 where
  pub pool : KeepsPool count words views
  pub line : (place : ℕ) → tally (from place) views ≤ count - place
  pub crowd : KeepsCrowd views

abbrev pub KeepsLineRule : {S : Type 0} → ℕ → State S PoolView → Type 0
KeepsLineRule count s = KeepsLine count s.words s.views

-- where the rule is kept, a seat one of whose calls stands at a place or further on has one of the numbers, or seeks one: so
-- no seat has met all numbers held
abbrev pub StandsInLine : Type 0
StandsInLine =
    (count : ℕ) (words : List ℕ) (views : List PoolView) (place seat : ℕ) (v : PoolView) → KeepsLine count words views →
    get_elem? views seat ≡ some v → 1 ≤ own (from place) v → place < count

-- a step that no seat can make
abbrev pub NeverComes : {S : Type 0} → Step S → Me S PoolView → ℕ → Me S PoolView → Type 0
NeverComes s before found after = ⊥

-- this view is a seat's in a table that keeps the rule of a line
pub record IsInLine (v : PoolView) : Type 0 where
  pub count : ℕ
  pub words : List ℕ
  pub views : List PoolView
  pub kept : KeepsLine count words views
  pub seat : ℕ
  pub there : get_elem? views seat ≡ some v

-- a call of a line swaps 1 into the word of its place: where it has taken it, its number is small
abbrev pub TakesInLine : {S : Type 0} → Step S → Me S PoolView → ℕ → Me S PoolView → Type 0
TakesInLine s before found after = Takes s before found after × (found ≡ 0 → IsSmall (call_of after.0)) × IsInLine after.0

-- a call of a line comes by such a swap at the first place
abbrev pub ComesBySwapInLine : {S : Type 0} → Step S → Me S PoolView → ℕ → Me S PoolView → Type 0
ComesBySwapInLine s before found after = ComesBySwap s before found after × (found ≡ 0 → IsSmall (call_of after.0)) × IsInLine after.0

-- where the rule is kept, what a call that holds a number has kept in its view is how many competed, held or sought, at each
-- moment from its coming to its taking of the number, and its number is at most the most of them
abbrev pub IsSmallAmongFew : Type 0
IsSmallAmongFew =
    (count : ℕ) (words : List ℕ) (views : List PoolView) (seat : ℕ) (c : Call) (past : List Call) → KeepsLine count words views →
    get_elem? views seat ≡ some (lone c past) → c.stage ≡ Holding → (c.crowds ≡ log_of_call views c) × IsSmall c

-- where the rule is kept before and after, a call that rested and then competes has come at the moment after the last
abbrev pub ComesAtTheNext : Type 0
ComesAtTheNext =
    (count : ℕ) (words next : List ℕ) (views : List PoolView) (seat : ℕ) (c d : Call) (past : List Call) → KeepsLine count words views →
    get_elem? views seat ≡ some (lone c past) → c.stage ≡ AtRest → competes d ≡ 1 → KeepsLine count next (set views seat (lone d past)) →
    d.came ≡ suc (now views)
