-- the order of the nodes
use Rattle.std.proofs.Common.{◌≡◌, ◌≢◌, ℕ, zero, suc, ◌+◌, ◌-◌, ◌*◌, ◌/◌, ◌%◌, ◌<◌, ◌≤◌, Option, Some, None, inl, inr, refl, sym, ap, subst, ◌∙◌, arith, ◌⊎◌}
use Rattle.model_splitter.proofs.tree_lemmas.Common.{eqb_tells, leb_tells, climbed_in, climbed, node_after, above, IsUnder, IsRightOf, IsFrom}
use Rattle.model_splitter.proofs.tree_lemmas.collects.Climbing.{climbs_tells}

-- from the parent one level less
pub above_half : (n q : ℕ) → above n (q / 2) ≡ above (suc n) q
above_half zero q = refl
above_half (suc n) q = ap (λ x. x / 2) (above_half n q)

above_add : (n m q : ℕ) → above n (above m q) ≡ above (n + m) q
above_add zero m q = let e : 0 + m ≡ m = omega arith in rw e refl
above_add (suc n) m q = let e : suc n + m ≡ suc (n + m) = omega arith in rw e (ap (λ x. x / 2) (above_add n m q))

above_le : (n q : ℕ) → above n q ≤ q
above_le zero q = omega arith
above_le (suc n) q = let h : above n q ≤ q = above_le n q in omega arith

-- higher up numbers are at most half
above_less : (i j q : ℕ) → i < j → above j q ≤ above i q / 2
above_less i j q h =
    let e : (j - suc i) + suc i ≡ j = omega arith in
    let le : above (j - suc i) (above (suc i) q) ≤ above (suc i) q = above_le (j - suc i) (above (suc i) q) in
    let same : above (j - suc i) (above (suc i) q) ≡ above j q = above_add (j - suc i) (suc i) q ∙ ap (λ n. above n q) e in
    subst (λ (x : ℕ). x ≤ above i q / 2) same le

pub under_itself : (p : ℕ) → IsUnder p p
under_itself p = record { levels = 0; is = refl }

pub under_le : (p q : ℕ) → IsUnder p q → p ≤ q
under_le p q u = let h : above u.levels q ≤ q = above_le u.levels q in omega (arith, u.is)

-- what lies under a node lies under its parent
pub under_parent : (p q : ℕ) → IsUnder p q → IsUnder (p / 2) q
under_parent p q u = record { levels = suc u.levels; is = ap (λ x. x / 2) u.is }

-- what a parent lies under, its children lie under
pub under_from_parent : (p q : ℕ) → IsUnder p (q / 2) → IsUnder p q
under_from_parent p q u = record { levels = suc u.levels; is = sym (above_half u.levels q) ∙ u.is }

-- what lies under a node is this node, or its parent lies there
pub under_by_parent : (p q : ℕ) → IsUnder p q → (q ≡ p) ⊎ IsUnder p (q / 2)
under_by_parent p q u =
    elim u.levels as (λ (n : ℕ). above n q ≡ p → (q ≡ p) ⊎ IsUnder p (q / 2)) [
      | zero ↦ λ e. inl e
      | suc n ↦ λ e. inr (record { levels = n; is = above_half n q ∙ e })
    ] u.is

-- what lies below a node lies under one of its children
pub under_child : (p q : ℕ) → IsUnder p q → q ≢ p → IsUnder (p * 2) q ⊎ IsUnder (p * 2 + 1) q
under_child p q u other =
    elim u.levels as (λ (n : ℕ). above n q ≡ p → IsUnder (p * 2) q ⊎ IsUnder (p * 2 + 1) q) [
      | zero ↦ λ e. absurd (other e)
      | suc n ↦ λ e. elim (eqb_tells (above n q % 2) 0) [
        | inl t ↦ inl (record { levels = n; is = omega (arith, t.1, e) })
        | inr t ↦ inr (record { levels = n; is = omega (arith, t.1, e) })
      ]
    ] u.is

-- nothing lies under a left child and under its sibling
apart : (a p : ℕ) → 1 < a → a % 2 ≡ 0 → IsUnder a p → IsUnder (a + 1) p → ⊥
apart a p child left u v =
    let lower : u.levels < v.levels → above v.levels p ≤ above u.levels p / 2 = above_less u.levels v.levels p in
    let higher : v.levels < u.levels → above u.levels p ≤ above v.levels p / 2 = above_less v.levels u.levels p in
    let level : u.levels ≡ v.levels → above u.levels p ≡ above v.levels p = ap (λ n. above n p) in
    let one = u.is in
    let other = v.is in
    grind arith

-- nothing lies to the right of itself
pub not_right_of_itself : (p : ℕ) → IsRightOf p p → ⊥
not_right_of_itself p r = apart r.node p r.child r.left r.above_it r.under

-- to the right of a left child: its sibling's subtree, and what lies to the right of the parent
pub right_of_even : (p q : ℕ) → p % 2 ≡ 0 → 1 < p → IsRightOf p q → IsFrom (p + 1) q
right_of_even p q even child r = elim (under_by_parent r.node p r.above_it) [
  | inl e ↦ inl (subst (λ (x : ℕ). IsUnder (x + 1) q) (sym e) r.under)
  | inr u ↦
      let half : (p + 1) / 2 ≡ p / 2 = omega arith in
      inr (record { node = r.node; above_it = under_from_parent r.node (p + 1) (rw half u); child = r.child; left = r.left; under = r.under })
]

pub even_right_of : (p q : ℕ) → p % 2 ≡ 0 → 1 < p → IsFrom (p + 1) q → IsRightOf p q
even_right_of p q even child (inl u) = record { node = p; above_it = under_itself p; child = child; left = even; under = u }
even_right_of p q even child (inr r) = elim (under_by_parent r.node (p + 1) r.above_it) [
  | inl e ↦ absurd (omega (arith, r.left, e))
  | inr u ↦
      let half : (p + 1) / 2 ≡ p / 2 = omega arith in
      let above_p : IsUnder r.node (p / 2) = subst (λ (x : ℕ). IsUnder r.node x) half u in
      record { node = r.node; above_it = under_from_parent r.node p above_p; child = r.child; left = r.left; under = r.under }
]

-- to the right of a right child is what lies to the right of its parent
right_of_odd : (p q : ℕ) → p % 2 ≡ 1 → IsRightOf p q → IsRightOf (p / 2) q
right_of_odd p q odd r = elim (under_by_parent r.node p r.above_it) [
  | inl e ↦ absurd (omega (arith, r.left, e))
  | inr u ↦ record { node = r.node; above_it = u; child = r.child; left = r.left; under = r.under }
]

pub right_of_parent : (p q : ℕ) → IsRightOf (p / 2) q → IsRightOf p q
right_of_parent p q r = record { node = r.node; above_it = under_from_parent r.node p r.above_it; child = r.child; left = r.left; under = r.under }

-- to the right of the root there is nothing
right_of_root : (p q : ℕ) → p ≤ 1 → IsRightOf p q → ⊥
right_of_root p q few r = let h : r.node ≤ p = under_le r.node p r.above_it in omega (arith, r.child)

-- a climb changes nothing of what lies to the right
right_of_climbed : (n p q : ℕ) → IsRightOf p q → IsRightOf (climbed_in n p) q
right_of_climbed zero p q r = r
right_of_climbed (suc n) p q r = elim (climbs_tells p) [
  | inl e ↦ rw e.0 (right_of_climbed n (p / 2) q (right_of_odd p q e.1 r))
  | inr e ↦ rw e.0 r
]

climbed_right_of : (n p q : ℕ) → IsRightOf (climbed_in n p) q → IsRightOf p q
climbed_right_of zero p q r = r
climbed_right_of (suc n) p q r = elim (climbs_tells p) [
  | inl e ↦ right_of_parent p q (climbed_right_of n (p / 2) q (rw e.0 at r))
  | inr e ↦ rw e.0 at r
]

-- a climb ends at a left child or at the root
climbed_ends : (n p : ℕ) → p ≤ n → (climbed_in n p ≤ 1) ⊎ ((climbed_in n p % 2 ≡ 0) × (1 < climbed_in n p))
climbed_ends zero p h = inl (omega arith)
climbed_ends (suc n) p h = elim (climbs_tells p) [
  | inl e ↦ rw e.0 (climbed_ends n (p / 2) (omega arith))
  | inr e ↦ rw e.0 e.1
]

-- the node that follows a subtree
pub record Follows (p : ℕ) (next : Option ℕ) : Type 0 where
  -- where there is none, nothing lies to the right
  pub last : next ≡ None → (q : ℕ) → IsRightOf p q → ⊥
  -- else it is what comes from there on
  pub sibling : (n : ℕ) → next ≡ Some n → (1 < climbed p) × (climbed p % 2 ≡ 0) × (n ≡ climbed p + 1)
  pub from : (n : ℕ) → next ≡ Some n → (q : ℕ) → IsRightOf p q → IsFrom n q
  pub to : (n : ℕ) → next ≡ Some n → (q : ℕ) → IsFrom n q → IsRightOf p q

pub follows : (p : ℕ) → Follows p (node_after p)
follows p = elim (leb_tells (climbed p) 1) [
  | inl l ↦ rw l.0 (record {
    last = λ _ q r. right_of_root (climbed p) q l.1 (right_of_climbed p p q r);
    sibling = λ n e. absurd (cc);
    from = λ n e q r. absurd (cc);
    to = λ n e q r. absurd (cc);
  })
  | inr l ↦
      let ends : (climbed p ≤ 1) ⊎ ((climbed p % 2 ≡ 0) × (1 < climbed p)) = climbed_ends p p (omega arith) in
      let even : climbed p % 2 ≡ 0 = elim ends [ inl t ↦ absurd (omega (arith, l.1, t)) | inr t ↦ t.0 ] in
      rw l.0 (record {
        last = λ e q r. absurd (cc);
        sibling = λ n e. let is : climbed p + 1 ≡ n = cc in (omega (arith, l.1), even, sym is);
        from = λ n e q r. let is : climbed p + 1 ≡ n = cc in subst (λ (x : ℕ). IsFrom x q) is (right_of_even (climbed p) q even (omega (arith, l.1)) (right_of_climbed p p q r));
        to = λ n e q f. let is : climbed p + 1 ≡ n = cc in climbed_right_of p p q (even_right_of (climbed p) q even (omega (arith, l.1)) (subst (λ (x : ℕ). IsFrom x q) (sym is) f));
      })
]

-- what comes from a node on, it aside, comes from its left child on
pub from_left : (p q : ℕ) → 1 ≤ p → IsFrom p q → q ≢ p → IsFrom (p * 2) q
from_left p q node (inl u) other = elim (under_child p q u other) [
  | inl v ↦ inl v
  | inr v ↦ inr (record { node = p * 2; above_it = under_itself (p * 2); child = omega arith; left = omega arith; under = v })
]
from_left p q node (inr r) other =
    let half : p * 2 / 2 ≡ p = omega arith in
    inr (right_of_parent (p * 2) q (rw half r))

-- and nothing else does
pub left_from : (p q : ℕ) → 1 ≤ p → IsFrom (p * 2) q → IsFrom p q
left_from p q node (inl u) = let half : p * 2 / 2 ≡ p = omega arith in inl (subst (λ (x : ℕ). IsUnder x q) half (under_parent (p * 2) q u))
left_from p q node (inr r) = elim (right_of_even (p * 2) q (omega arith) (omega arith) r) [
  | inl u ↦ let half : (p * 2 + 1) / 2 ≡ p = omega arith in inl (subst (λ (x : ℕ). IsUnder x q) half (under_parent (p * 2 + 1) q u))
  | inr s ↦
      let half : (p * 2 + 1) / 2 ≡ p = omega arith in
      inr (subst (λ (x : ℕ). IsRightOf x q) half (right_of_odd (p * 2 + 1) q (omega arith) s))
]

pub not_from_left : (p : ℕ) → 1 ≤ p → IsFrom (p * 2) p → ⊥
not_from_left p node (inl u) = let h : p * 2 ≤ p = under_le (p * 2) p u in omega arith
not_from_left p node (inr r) = elim (right_of_even (p * 2) p (omega arith) (omega arith) r) [
  | inl u ↦ let h : p * 2 + 1 ≤ p = under_le (p * 2 + 1) p u in absurd (omega arith)
  | inr s ↦
      let half : (p * 2 + 1) / 2 ≡ p = omega arith in
      not_right_of_itself p (subst (λ (x : ℕ). IsRightOf x p) half (right_of_odd (p * 2 + 1) p (omega arith) s))
]

-- every node comes from the root on
pub under_root : (n q : ℕ) → 1 ≤ q → q ≤ n → IsUnder 1 q
under_root zero q node h = absurd (omega arith)
under_root (suc n) q node h = elim (leb_tells q 1) [
  | inl l ↦ let one : 1 ≡ q = omega (arith, l.1) in subst (λ (x : ℕ). IsUnder 1 x) one (under_itself 1)
  | inr l ↦ under_from_parent 1 q (under_root n (q / 2) (omega (arith, l.1)) (omega arith))
]
