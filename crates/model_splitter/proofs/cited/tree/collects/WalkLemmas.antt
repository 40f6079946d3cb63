-- a walk comes to every node ahead of it, and reads no segment twice
use Rattle.std.proofs.Common.{◌≡◌, ℕ, suc, ◌+◌, ◌*◌, ◌<◌, ◌≤◌, Bool, true, false, cond, Some, None, inl, inr, refl, sym, ap, subst, ◌∙◌, arith, ◌⊎◌, ◌&&◌, not, is_some}
use Rattle.model_splitter.proofs.tree_lemmas.Common.{eqb_tells, leb_tells, Contents, TreeValue, CollectWalk, IsRightOf, IsFrom, Sees, HasGrown, IsPathMarked, IsUpcoming, IsAhead}
use Rattle.model_splitter.specs.tree.CollectWalk.{numbers, first_walk, walk_at, register_read, place_read, is_mark, node_after, child_or, goes_to, finds_mark, walk_resumed, walk_is_over}
use Rattle.model_splitter.proofs.tree_lemmas.collects.OrderLemmas.{under_le, under_child, under_root, not_right_of_itself, follows, from_left, left_from, not_from_left}

-- a walk begins before every node
pub ahead_at_first : (marked : ℕ → Bool) (q : ℕ) → IsPathMarked marked q → IsAhead marked first_walk q
ahead_at_first marked q marks = record {
  upcoming = record { goes_on = omega arith; is = inl (under_root q q marks.node (omega arith)) };
  marks = marks;
}

pub path_kept : (marked later : ℕ → Bool) (q : ℕ) → HasGrown marked later → IsPathMarked marked q → IsPathMarked later q
path_kept marked later q grown marks = record { node = marks.node; fits = marks.fits; path = λ p node under. grown p (marks.path p node under) }

pub ahead_kept : (marked later : ℕ → Bool) (w : CollectWalk) (q : ℕ) → HasGrown marked later → IsAhead marked w q → IsAhead later w q
ahead_kept marked later w q grown a = record { upcoming = a.upcoming; marks = path_kept marked later q grown a.marks }

-- a walk that finds no mark, or no number for a child, leaves the subtree of its node
abbrev pub Leaves : CollectWalk → Bool → Type 0
Leaves w marked = ((w.is_reading_contents ≡ true) × (numbers ≤ w.at * 2)) ⊎ ((w.is_reading_contents ≡ false) × (marked ≡ false))

-- the ways on of a walk, with what it finds and whether it is over: to the segment of a marked node, to the left child
-- after that, to what follows the subtree, and to the end
pub record GoesOn (w : CollectWalk) (marked : Bool) (P : Bool → Bool → CollectWalk → Type 0) : Type 0 where
  pub reads : w.is_reading_contents ≡ false → marked ≡ true → P true false (walk_at w.at true)
  pub descends : w.is_reading_contents ≡ true → w.at * 2 < numbers → P false false (walk_at (w.at * 2) false)
  pub passes : (n : ℕ) → Leaves w marked → node_after w.at ≡ Some n → P false false (walk_at n false)
  pub ends : Leaves w marked → node_after w.at ≡ None → P false true (walk_at 0 false)

leaves : (w : CollectWalk) (marked : Bool) (P : Bool → Bool → CollectWalk → Type 0) → GoesOn w marked P → Leaves w marked → P false (not (is_some (node_after w.at))) (goes_to (node_after w.at))
leaves w marked P g why = elim (node_after w.at) as (λ o. node_after w.at ≡ o → P false (not (is_some o)) (goes_to o)) [
  | None ↦ λ e. g.ends why e
  | Some n ↦ λ e. g.passes n why e
] refl

goes_by : (w : CollectWalk) (marked contents : Bool) (P : Bool → Bool → CollectWalk → Type 0) → GoesOn w marked P → w.is_reading_contents ≡ contents →
    P (not contents && marked) (cond (not contents && marked) false (not (is_some (cond contents (child_or w.at (node_after w.at)) (node_after w.at))))) (cond (not contents && marked) (walk_at w.at true) (goes_to (cond contents (child_or w.at (node_after w.at)) (node_after w.at))))
goes_by w true false P g e = g.reads e refl
goes_by w false false P g e = leaves w false P g (inr (e, refl))
goes_by w marked true P g e = elim (leb_tells (suc (w.at * 2)) numbers) [
  | inl l ↦ rw l.0 (g.descends e l.1)
  | inr l ↦ rw l.0 (leaves w marked P g (inl (e, omega (arith, l.1))))
]

pub goes : (w : CollectWalk) (got : TreeValue) (P : Bool → Bool → CollectWalk → Type 0) → GoesOn w (is_mark got) P → P (finds_mark w got) (walk_is_over w got) (walk_resumed w got)
goes w got P g = goes_by w (is_mark got) w.is_reading_contents P g refl

place_is : (w : CollectWalk) → w.is_reading_contents ≡ true → place_read w ≡ Some w.at
place_is w e = rw e refl

pub place_from : (w : CollectWalk) (q : ℕ) → place_read w ≡ Some q → (w.is_reading_contents ≡ true) × (w.at ≡ q)
place_from w q h = elim w.is_reading_contents as (λ b. w.is_reading_contents ≡ b → cond b (Some w.at) None ≡ Some q → (w.is_reading_contents ≡ true) × (w.at ≡ q)) [
  | true ↦ λ e k. (e, cc)
  | false ↦ λ e k. absurd (cc)
] refl h

pub register_is : (w : CollectWalk) (q : ℕ) → place_read w ≡ Some q → register_read w ≡ Contents q
register_is w q h = let p = place_from w q h in rw (p.0, p.1) refl

-- where a walk leaves a subtree, no node ahead of it is left behind
right_or_read : (marked : ℕ → Bool) (w : CollectWalk) (got : TreeValue) (q : ℕ) → Sees marked w got → Leaves w (is_mark got) → IsAhead marked w q → (place_read w ≡ Some q) ⊎ IsRightOf w.at q
right_or_read marked w got q sees why a = elim a.upcoming.is [
  | inr r ↦ inr r
  | inl u ↦ elim why [
    | inl c ↦ elim (eqb_tells q w.at) [
      | inl e ↦ inl (place_is w c.0 ∙ ap Some (sym e.1))
      | inr e ↦ elim (under_child w.at q u e.1) [
        | inl v ↦ let h : w.at * 2 ≤ q = under_le (w.at * 2) q v in absurd (omega (arith, c.1, a.marks.fits))
        | inr v ↦ let h : w.at * 2 + 1 ≤ q = under_le (w.at * 2 + 1) q v in absurd (omega (arith, c.1, a.marks.fits))
      ]
    ]
    | inr c ↦ let is : false ≡ true = sym c.1 ∙ sees c.0 ∙ a.marks.path w.at a.upcoming.goes_on u in absurd (cc)
  ]
]

pub after_is_node : (p n : ℕ) → node_after p ≡ Some n → 1 ≤ n
after_is_node p n e = let s = (follows p).sibling n e in omega (arith, s.2)

-- a read is of the segment of a node ahead, or that node stays ahead and the walk is not over
pub ahead_resumed : (marked : ℕ → Bool) (w : CollectWalk) (got : TreeValue) (q : ℕ) → Sees marked w got → IsAhead marked w q → (place_read w ≡ Some q) ⊎ ((walk_is_over w got ≡ false) × IsAhead marked (walk_resumed w got) q)
ahead_resumed marked w got q sees a = goes w got (λ finds over next. (place_read w ≡ Some q) ⊎ ((over ≡ false) × IsAhead marked next q)) (record {
  reads = λ e m. inr (refl, record { upcoming = record { goes_on = a.upcoming.goes_on; is = a.upcoming.is }; marks = a.marks });
  descends = λ e room. elim (eqb_tells q w.at) [
    | inl t ↦ inl (place_is w e ∙ ap Some (sym t.1))
    | inr t ↦ inr (refl, record { upcoming = record { goes_on = omega (arith, a.upcoming.goes_on); is = from_left w.at q a.upcoming.goes_on a.upcoming.is t.1 }; marks = a.marks })
  ];
  passes = λ n why e. elim (right_or_read marked w got q sees why a) [
    | inl is ↦ inl is
    | inr r ↦ inr (refl, record { upcoming = record { goes_on = after_is_node w.at n e; is = (follows w.at).from n e q r }; marks = a.marks })
  ];
  ends = λ why e. elim (right_or_read marked w got q sees why a) [ inl is ↦ inl is | inr r ↦ absurd ((follows w.at).last e q r) ];
})

right_is_from : (w : CollectWalk) (q : ℕ) → IsRightOf w.at q → IsUpcoming w q
right_is_from w q r = let h : r.node ≤ w.at = under_le r.node w.at r.above_it in record { goes_on = omega (arith, r.child); is = inr r }

-- what comes after a read would have come before it
pub upcoming_before : (w : CollectWalk) (got : TreeValue) (q : ℕ) → IsUpcoming (walk_resumed w got) q → IsUpcoming w q
upcoming_before w got q = goes w got (λ finds over next. IsUpcoming next q → IsUpcoming w q) (record {
  reads = λ e m u. record { goes_on = u.goes_on; is = u.is };
  descends = λ e room u. let node : 1 ≤ w.at = omega (arith, u.goes_on) in record { goes_on = node; is = left_from w.at q node u.is };
  passes = λ n why e u. right_is_from w q ((follows w.at).to n e q u.is);
  ends = λ why e u. absurd (omega (arith, u.goes_on));
})

-- no segment is read twice
pub read_once : (w : CollectWalk) (got : TreeValue) (q : ℕ) → place_read w ≡ Some q → IsUpcoming (walk_resumed w got) q → ⊥
read_once w got q h = let p = place_from w q h in goes w got (λ finds over next. IsUpcoming next q → ⊥) (record {
  reads = λ e m u. let never : true ≡ false = sym p.0 ∙ e in absurd (cc);
  descends = λ e room u. let node : 1 ≤ w.at = omega (arith, u.goes_on) in not_from_left w.at node (subst (λ (x : ℕ). IsFrom (w.at * 2) x) (sym p.1) u.is);
  passes = λ n why e u. let r : IsRightOf w.at q = (follows w.at).to n e q u.is in not_right_of_itself w.at (subst (λ (x : ℕ). IsRightOf w.at x) (sym p.1) r);
  ends = λ why e u. absurd (omega (arith, u.goes_on));
})
