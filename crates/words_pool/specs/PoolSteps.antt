-- what each kind of step tells the seat that makes it. Each is one access, and its call counts it.
use Rattle.std.specs.Prelude.{◌≡◌, ◌≤◌, ℕ, List, ◌∷◌, drop, length}
use mathlib.Core.Option.{some}
use lib.ListN.{get_elem?}
use Rattle.atomic_table.specs.Table.{Me, Step}
use Rattle.words_pool.specs.declared.pool_view.PoolView.{PoolView}
use Rattle.words_pool.specs.PoolView.{at_rest, lone, call_of, coming, looked, looked_aside, swapped, swapped_hint, going, read_at, view_of}
use Rattle.words_pool.specs.Tally.{own, holding}
use Rattle.words_pool.specs.PoolRule.{KeepsPool, word_of}

-- a call comes, by a look at the first place
abbrev pub Comes : {S : Type 0} → Step S → Me S PoolView → ℕ → Me S PoolView → Type 0
Comes s before found after = (moment : ℕ) × (after ≡ (lone (looked found (coming moment (call_of before.0))) before.0.past, before.1))

-- a call comes, by a swap of 1 into the word of the first place
abbrev pub ComesBySwap : {S : Type 0} → Step S → Me S PoolView → ℕ → Me S PoolView → Type 0
ComesBySwap s before found after =
    (came : ℕ) × (moment : ℕ) × (crowds : List ℕ) ×
    (after ≡ (lone (swapped moment crowds found (coming came (call_of before.0))) before.0.past, before.1))

-- a call looks at its place
abbrev pub Looks : {S : Type 0} → Step S → Me S PoolView → ℕ → Me S PoolView → Type 0
Looks s before found after = after ≡ (lone (looked found (call_of before.0)) before.0.past, before.1)

-- a call swaps 1 into the word of its place
abbrev pub Takes : {S : Type 0} → Step S → Me S PoolView → ℕ → Me S PoolView → Type 0
Takes s before found after =
    (moment : ℕ) × (crowds : List ℕ) × (after ≡ (lone (swapped moment crowds found (call_of before.0)) before.0.past, before.1))

-- a call at rest looks at the place of a hint
abbrev pub LooksAside : {S : Type 0} → Step S → Me S PoolView → ℕ → Me S PoolView → Type 0
LooksAside s before found after =
    (place : ℕ) × (s.word ≡ word_of place) × (after ≡ (lone (looked_aside place found (call_of before.0)) before.0.past, before.1))

-- a call at rest swaps 1 into the word of the place of a hint
abbrev pub TakesAside : {S : Type 0} → Step S → Me S PoolView → ℕ → Me S PoolView → Type 0
TakesAside s before found after =
    (place : ℕ) × (s.word ≡ word_of place) × (moment : ℕ) ×
    (after ≡ (lone (swapped_hint place moment found (call_of before.0)) before.0.past, before.1))

-- a call stores 0 into the word of its place: it has ended, and the seat may begin another
abbrev pub Frees : {S : Type 0} → Step S → Me S PoolView → ℕ → Me S PoolView → Type 0
Frees s before found after = (moment : ℕ) × (after ≡ (lone at_rest (going moment (call_of before.0) ∷ before.0.past), before.1))

-- this view is a seat's in a table that keeps the rule
pub record IsUnderRule (v : PoolView) : Type 0 where
  pub count : ℕ
  pub words : List ℕ
  pub views : List PoolView
  pub kept : KeepsPool count words views
  pub seat : ℕ
  pub there : get_elem? views seat ≡ some v

-- a load by a seat with two calls, that changes nothing, and shows what the seat holds under the rule; a seat with one call has
-- no such step, so it makes no access that is not counted
abbrev pub LooksOn : {S : Type 0} → Step S → Me S PoolView → ℕ → Me S PoolView → Type 0
LooksOn s before found after = (after ≡ before) × IsUnderRule after.0 × (length before.0.calls ≡ 2)

-- a word is 0 or 1, and 1 where the seat that looks holds its place
abbrev pub IsWordFor : ℕ → PoolView → ℕ → Type 0
IsWordFor place v found = (found ≤ 1) × (1 ≤ own (holding place) v → found ≡ 1)

-- the pool ends: one call more begins, in front of those of the seat, by a look at a place
abbrev pub ReadsFirst : {S : Type 0} → Step S → Me S PoolView → ℕ → Me S PoolView → Type 0
ReadsFirst s before found after =
    (place : ℕ) × (s.word ≡ word_of place) × IsWordFor place before.0 found ×
    (after ≡ (view_of (read_at place found at_rest ∷ before.0.calls) before.0.past, before.1))

-- and it looks at one place more
abbrev pub ReadsOn : {S : Type 0} → Step S → Me S PoolView → ℕ → Me S PoolView → Type 0
ReadsOn s before found after =
    (place : ℕ) × (s.word ≡ word_of place) × IsWordFor place before.0 found ×
    (after ≡ (view_of (read_at place found (call_of before.0) ∷ drop 1 before.0.calls) before.0.past, before.1))
