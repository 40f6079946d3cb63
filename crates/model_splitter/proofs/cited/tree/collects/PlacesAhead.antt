-- what the law of the places gives to walks of collects
use Rattle.std.proofs.Common.{◌≡◌, ℕ, ◌+◌, ◌-◌, ◌*◌, ◌≤◌, ◌==◌, true, Option, Some, inr, refl, ap, ◌∙◌, arith}
use Rattle.model_splitter.proofs.tree_lemmas.Common.{Decides-eqb, MemorySteps, Write, Record, TreeRegister, Mark, Contents, TreeValue, Held, Walker, CollectWalk, IsTreeMemory, mark_at, word_in, next_access, place_by, IsConsistent, IsTree, was_made, count_to, first_walk, count_le}
use Rattle.model_splitter.specs.tree.Ahead.{marked_in, found_by, Sees, HasGrown, HasRead, IsPathMarked, IsAhead}
use Rattle.model_splitter.proofs.tree_lemmas.nodes.Numbers.{small_fits}
use Rattle.model_splitter.proofs.cited.tree.collects.WalkLemmas.{ahead_at_first}
use Rattle.model_splitter.proofs.cited.tree.collects.ReadCount.{reads_few, nodes_few}
use Rattle.model_splitter.proofs.cited.tree.nodes.ConsistentKept.{marks}
use Rattle.model_splitter.proofs.cited.tree.nodes.TreeLaw.{tree_law}

module _ {S : Type 0} (memory : MemorySteps S TreeRegister TreeValue) where
  marked_is : (s : S) (k : ℕ) → mark_at memory s k ≡ 1 → marked_in memory s k ≡ true
  marked_is s k h = (Decides-eqb (mark_at memory s k) 1).1 h

  mark_is : (s : S) (k : ℕ) → marked_in memory s k ≡ true → mark_at memory s k ≡ 1
  mark_is s k h = (Decides-eqb (mark_at memory s k) 1).0 h

  -- what a walk reads in a mark is whether its node is marked
  pub sees : (s : S) (w : CollectWalk) → Sees (marked_in memory s) w (found_by memory s w)
  sees s w = λ e. rw e refl

  -- the write of a segment takes no mark back
  pub marks_spared : (s : S) (k : ℕ) (segment : Option Record) → IsTreeMemory memory → HasGrown (marked_in memory s) (marked_in memory (memory.after s (Write (Contents k) (Held segment))))
  marks_spared s k segment tree = λ j h. ap (λ x. word_in x.0 == 1) (tree.others s (Write (Contents k) (Held segment)) (Mark j) (λ e. absurd (cc))) ∙ h

  module _ (most b : ℕ) (s : S) (walker : ℕ → Option Walker) (c : IsConsistent memory most b s walker) where
    law : IsTree memory b s walker
    law = tree_law memory most b s walker c

    -- every node from the root down to a place is marked
    pub path_marked : (p k : ℕ) → place_by (walker p) ≡ Some k → IsPathMarked (marked_in memory s) k
    path_marked p k h =
        let within = law.within p k h in
        let few : b ≤ 64 = (let f = c.few in let r = c.room in omega arith) in
        record {
          node = within.node;
          fits = small_fits b k few within.within;
          path = λ j node under. marked_is s j (law.ancestors k j (law.placed p k h) under node);
        }

    -- so each place is ahead of a walk that begins
    pub place_ahead : (p k : ℕ) → place_by (walker p) ≡ Some k → IsAhead (marked_in memory s) first_walk k
    place_ahead p k h = ahead_at_first (marked_in memory s) k (path_marked p k h)

    -- few nodes are marked
    pub marked_few : (n : ℕ) → count_to (marked_in memory s) n ≤ 2 * b - 1
    marked_few n =
        let le : count_to (marked_in memory s) n ≤ count_to (was_made memory s) n = count_le (marked_in memory s) (was_made memory s) (λ k h. let one : mark_at memory s k ≡ 1 = mark_is s k h in rw one refl) n in
        omega (arith, le, law.few_made n)

    -- and so are the reads
    pub walk_few : (w : CollectWalk) (nodes reads : ℕ) → HasRead (marked_in memory s) w nodes reads → reads + 1 ≤ 3 * (2 * b - 1) + 1
    walk_few w nodes reads r =
        let some = nodes_few (marked_in memory s) w nodes reads (2 * b - 1) r marked_few in
        let few = reads_few (marked_in memory s) w nodes reads r in
        omega (arith, some, few)

    -- a walk to a place takes no mark back
    pub marks_grow : IsTreeMemory memory → (p : ℕ) (u : Walker) → walker p ≡ Some u → HasGrown (marked_in memory s) (marked_in memory (memory.after s (next_access u)))
    marks_grow tree p u is = λ k h. marked_is (memory.after s (next_access u)) k ((marks memory most b s walker c tree p u is k).1 (inr (mark_is s k h)))
