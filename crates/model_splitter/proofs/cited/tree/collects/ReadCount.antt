-- how many reads a walk makes
use Rattle.std.proofs.Common.{◌≡◌, ℕ, suc, ◌+◌, ◌*◌, ◌≤◌, Bool, true, false, cond, Some, inl, inr, refl, sym, ap, subst, ◌∙◌, arith}
use Rattle.model_splitter.proofs.tree_lemmas.Common.{eqb_tells, set_at, TreeValue, CollectWalk, first_walk, place_read, walk_at, node_after, finds_mark, walk_resumed, walk_is_over, count_to, IsUnder, IsRightOf, IsFrom, Sees, HasGrown, HasRead, IsUpcoming, open_at, count_none, count_le, count_more}
use Rattle.model_splitter.proofs.tree_lemmas.collects.OrderLemmas.{under_itself, follows, left_from, not_from_left, not_right_of_itself}
use Rattle.model_splitter.proofs.tree_lemmas.collects.OpenLemmas.{open_child, open_after}
use Rattle.model_splitter.proofs.cited.tree.collects.WalkLemmas.{place_from, goes, after_is_node}

-- a walk that has read nothing
pub read_at_first : (marked : ℕ → Bool) → HasRead marked first_walk 0 0
read_at_first marked = record {
  goes_on = omega arith;
  found = λ k. false;
  above_all = 0;
  counted = λ n h. count_none n;
  marks = λ k h. absurd (cc);
  passed = λ k h f. absurd (cc);
  missed = 0;
  reads_are = refl;
  children = omega arith;
}

pub read_kept : (marked later : ℕ → Bool) (w : CollectWalk) (nodes reads : ℕ) → HasGrown marked later → HasRead marked w nodes reads → HasRead later w nodes reads
read_kept marked later w nodes reads grown r = record {
  goes_on = r.goes_on;
  found = r.found;
  above_all = r.above_all;
  counted = r.counted;
  marks = λ k h. grown k (r.marks k h);
  passed = r.passed;
  missed = r.missed;
  reads_are = r.reads_are;
  children = r.children;
}

-- a mark was found
read_mark : (marked : ℕ → Bool) (w : CollectWalk) (nodes reads : ℕ) → marked w.at ≡ true → w.is_reading_contents ≡ false → HasRead marked w nodes reads → HasRead marked (walk_at w.at true) (nodes + 1) (reads + 1)
read_mark marked w nodes reads is mark r =
    let none : r.found w.at ≡ false = elim (r.found w.at) as (λ b. r.found w.at ≡ b → b ≡ false) [
      | true ↦ λ e. let p = r.passed w.at e (inl (under_itself w.at)) in let never : true ≡ false = sym p.0 ∙ mark in absurd (cc)
      | false ↦ λ e. refl
    ] refl in
    let reads_are : reads + 0 ≡ 2 * nodes + r.missed = rw mark at r.reads_are in
    let children : r.missed + open_at w.at + 0 ≤ nodes = rw mark at r.children in
    record {
      goes_on = r.goes_on;
      found = set_at r.found w.at true;
      above_all = r.above_all + suc w.at;
      counted = λ n h. let more : count_to (set_at r.found w.at true) n ≡ count_to r.found n + 1 = count_more r.found w.at n none (omega arith) in more ∙ ap (λ x. x + 1) (r.counted n (omega arith));
      marks = λ k h. elim (eqb_tells k w.at) [ inl e ↦ ap marked e.1 ∙ is | inr e ↦ r.marks k (rw e.0 at h) ];
      passed = λ k h f. elim (eqb_tells k w.at) [
        | inl e ↦ (refl, e.1)
        | inr e ↦ let p = r.passed k (rw e.0 at h) f in let never : true ≡ false = sym p.0 ∙ mark in absurd (cc)
      ];
      missed = r.missed;
      reads_are = omega (arith, reads_are);
      children = omega (arith, children);
    }

-- the children are next
read_contents : (marked : ℕ → Bool) (w : CollectWalk) (nodes reads : ℕ) → w.is_reading_contents ≡ true → HasRead marked w nodes reads → HasRead marked (walk_at (w.at * 2) false) (nodes + 0) (reads + 1)
read_contents marked w nodes reads contents r =
    let reads_are : reads + 1 ≡ 2 * nodes + r.missed = rw contents at r.reads_are in
    let children : r.missed + open_at w.at + 1 ≤ nodes = rw contents at r.children in
    let siblings : open_at (w.at * 2) ≡ suc (open_at w.at) = open_child w.at r.goes_on in
    record {
      goes_on = omega (arith, r.goes_on);
      found = r.found;
      above_all = r.above_all;
      counted = λ n h. r.counted n h ∙ omega arith;
      marks = r.marks;
      passed = λ k h f.
          let p = r.passed k h (left_from w.at k r.goes_on f) in
          absurd (not_from_left w.at r.goes_on (subst (λ (x : ℕ). IsFrom (w.at * 2) x) p.1 f));
      missed = r.missed;
      reads_are = omega (arith, reads_are);
      children = omega (arith, children, siblings);
    }

-- the subtree is left, after a segment or after a mark that was not found
read_past : (marked : ℕ → Bool) (w : CollectWalk) (nodes reads n missed : ℕ) → node_after w.at ≡ Some n → reads + 1 ≡ 2 * nodes + missed → missed + open_at n ≤ nodes → HasRead marked w nodes reads → HasRead marked (walk_at n false) (nodes + 0) (reads + 1)
read_past marked w nodes reads n missed e reads_are children r = record {
  goes_on = after_is_node w.at n e;
  found = r.found;
  above_all = r.above_all;
  counted = λ m h. r.counted m h ∙ omega arith;
  marks = r.marks;
  passed = λ k h f.
      let right = (follows w.at).to n e k f in
      let p = r.passed k h (inr right) in
      absurd (not_right_of_itself w.at (subst (λ (x : ℕ). IsRightOf w.at x) p.1 right));
  missed = missed;
  reads_are = omega (arith, reads_are);
  children = omega (arith, children);
}

pub read_resumed : (marked : ℕ → Bool) (w : CollectWalk) (got : TreeValue) (nodes reads : ℕ) → Sees marked w got → HasRead marked w nodes reads → walk_is_over w got ≡ false → HasRead marked (walk_resumed w got) (nodes + cond (finds_mark w got) 1 0) (reads + 1)
read_resumed marked w got nodes reads sees r = goes w got (λ finds over next. over ≡ false → HasRead marked next (nodes + cond finds 1 0) (reads + 1)) (record {
  reads = λ mark e _. read_mark marked w nodes reads (sym (sees mark) ∙ e) mark r;
  descends = λ contents room _. read_contents marked w nodes reads contents r;
  passes = λ n why e _.
      let siblings : suc (open_at n) ≡ open_at w.at = open_after w.at n e in
      elim why [
        | inl c ↦
            let reads_are : reads + 1 ≡ 2 * nodes + r.missed = rw c.0 at r.reads_are in
            let children : r.missed + open_at w.at + 1 ≤ nodes = rw c.0 at r.children in
            read_past marked w nodes reads n r.missed e (omega (arith, reads_are)) (omega (arith, children, siblings)) r
        | inr c ↦
            let reads_are : reads + 0 ≡ 2 * nodes + r.missed = rw c.0 at r.reads_are in
            let children : r.missed + open_at w.at + 0 ≤ nodes = rw c.0 at r.children in
            read_past marked w nodes reads n (r.missed + 1) e (omega (arith, reads_are)) (omega (arith, children, siblings)) r
      ];
  ends = λ why e never. absurd (cc);
})

-- the segment that is read now was not read before
pub read_here : (marked : ℕ → Bool) (w : CollectWalk) (nodes reads q : ℕ) → HasRead marked w nodes reads → place_read w ≡ Some q → IsUpcoming w q
read_here marked w nodes reads q r h = record { goes_on = r.goes_on; is = inl (subst (λ (x : ℕ). IsUnder w.at x) (place_from w q h).1 (under_itself w.at)) }

-- so the reads are few
pub reads_few : (marked : ℕ → Bool) (w : CollectWalk) (nodes reads : ℕ) → HasRead marked w nodes reads → reads + 1 ≤ 3 * nodes + 1
reads_few marked w nodes reads r = let all = r.reads_are in let few = r.children in grind arith

-- the nodes found are at most those marked
pub nodes_few : (marked : ℕ → Bool) (w : CollectWalk) (nodes reads most : ℕ) → HasRead marked w nodes reads → ((n : ℕ) → count_to marked n ≤ most) → nodes ≤ most
nodes_few marked w nodes reads most r few =
    let is : count_to r.found r.above_all ≡ nodes = r.counted r.above_all (omega arith) in
    let le : count_to r.found r.above_all ≤ count_to marked r.above_all = count_le r.found marked r.marks r.above_all in
    omega (arith, few r.above_all)
