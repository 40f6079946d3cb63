-- The rule of a pool over shared atomic words: the word of each place is the number of calls that hold it, and no place is held twice.
-- So a word is 1 exactly where one seat's view holds its place, else 0 (long-lived renaming by test-and-set, Moir and
-- Anderson 1995; that the words of a table and the views of its seats agree so is this project's profile).
use Rattle.std.specs.Prelude.{◌≡◌, ◌≤◌, ◌<◌, ◌*◌, ℕ, List, length, slice_index}
use mathlib.Core.Option.{some}
use lib.ListN.{get_elem?}
use Rattle.atomic_table.specs.Table.{State}
use Rattle.words_pool.specs.declared.pool_view.PoolView.{PoolView}
use Rattle.words_pool.specs.Tally.{holding, own, tally}

-- the word of a place: eight words apart, so that no two places share a cache line
abbrev pub word_of : ℕ → ℕ
word_of place = place * 8

-- The rule, of a pool of so many places
pub record KeepsPool (count : ℕ) (words : List ℕ) (views : List PoolView) : Type 0 where
  pub as_many : length words ≡ word_of count
  pub held : (place : ℕ) → place < count → slice_index words (word_of place) ≡ tally (holding place) views
  pub lone : (place : ℕ) → tally (holding place) views ≤ 1

abbrev pub KeepsPoolRule : {S : Type 0} → ℕ → State S PoolView → Type 0
KeepsPoolRule count s = KeepsPool count s.words s.views

-- this seat holds the place
pub record IsHolder (views : List PoolView) (place seat : ℕ) : Type 0 where
  pub view : PoolView
  pub there : get_elem? views seat ≡ some view
  pub holds : 1 ≤ own (holding place) view

-- where the rule is kept, no two seats hold one place
abbrev pub HasOneHolder : Type 0
HasOneHolder =
    (count : ℕ) (words : List ℕ) (views : List PoolView) (place one other : ℕ) → KeepsPool count words views →
    IsHolder views place one → IsHolder views place other → one ≡ other

-- where the rule is kept, the word of a place is 1 where a seat holds it
abbrev pub IsSetByHolder : Type 0
IsSetByHolder =
    (count : ℕ) (words : List ℕ) (views : List PoolView) (place seat : ℕ) → KeepsPool count words views →
    place < count → IsHolder views place seat → slice_index words (word_of place) ≡ 1

-- and where it is not 0 some seat holds it: so a place that a walk met held was held, at that moment
abbrev pub HasHolderWhereSet : Type 0
HasHolderWhereSet =
    (count : ℕ) (words : List ℕ) (views : List PoolView) (place : ℕ) → KeepsPool count words views →
    place < count → ¬ (slice_index words (word_of place) ≡ 0) → (seat : ℕ) × IsHolder views place seat
