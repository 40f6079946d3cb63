-- nodes and walks that agree keep the law of the tree
use Rattle.std.proofs.Common.{◌≡◌, ◌≢◌, ℕ, zero, suc, ◌+◌, ◌-◌, ◌*◌, ◌/◌, ◌<◌, ◌≤◌, Bool, true, false, cond, not, ◌==◌, inl, inr, Option, Some, None, refl, sym, ap, subst, ◌∙◌, arith, IsSome}
use Rattle.model_splitter.proofs.tree_lemmas.Common.{cases_Bool, eqb_tells, Answer, count_to, MemorySteps, VisitStage, has_entered, TreeRegister, TreeValue, Walker, mark_at, x_at, y_at, left_child, right_child, reported, walker_at, visit_on, walked_to, walker_after, place_of, place_by, above, depth_of, IsNodeWithin}
use Rattle.std.proofs.lemmas.Option.{option_and_then_some}
use Rattle.model_splitter.specs.Visitor.{stage_by, value_in}
use Rattle.model_splitter.specs.Walk.{place_at_door, accesses_at}
use Rattle.model_splitter.proofs.cited.WalkLemmas.{goes_on, place_is, one_at_place, few_at_door, fourth_places, one_more}
use Rattle.model_splitter.specs.tree.Invariant.{was_made, accesses_of, accesses_by, IsConsistent, IsTree}
use Rattle.model_splitter.proofs.tree_lemmas.nodes.DepthBound.{shallow, below_power, few_met, small_place, depth_left, depth_right}
use Rattle.model_splitter.proofs.cited.tree.nodes.ConsistentKept.{parent_marked}

test_not_zero : (x : ℕ) → not (x == 0) ≡ true → x ≢ 0
test_not_zero x h e = absurd (let k : not (0 == 0) ≡ true = rw e at h in cc)

module _ {S : Type 0} (memory : MemorySteps S TreeRegister TreeValue) (most b : ℕ) (s : S) (walker : ℕ → Option Walker) (c : IsConsistent memory most b s walker) where
  node_within : (k p : ℕ) → c.agree.came k p ≡ true → IsNodeWithin b k
  node_within k p h =
      let low = shallow b (mark_at memory s) (x_at memory s) (y_at memory s) walker c.agree k p h in
      record { node = c.agree.node k p h; deep = low; within = below_power b k low }

  made : (k : ℕ) → mark_at memory s k ≢ 0 → IsNodeWithin b k
  made k some = let x = c.agree.marker k some in node_within k x.0 x.1

  few_made : (n : ℕ) → count_to (was_made memory s) n ≤ 2 * b - 1
  few_made n = few_met b (mark_at memory s) (x_at memory s) (y_at memory s) walker c.agree (was_made memory s) (λ k h. c.agree.marker k (test_not_zero (mark_at memory s k) h)) n

  -- a walk that has a place stopped at its node
  visited : (p place : ℕ) (u : Walker) → walker p ≡ Some u → place_of u ≡ Some place → place_at_door u.place (c.agree.stage u.place p) ≡ Some place
  visited p place u is placed = rw ((c.agree.walks p u is).here) placed

  distinct : (p q place : ℕ) → place_by (walker p) ≡ Some place → place_by (walker q) ≡ Some place → p ≡ q
  distinct p q place h k = option_and_then_some place_of (walker p) place h (λ u is_u at_u. option_and_then_some place_of (walker q) place k (λ v is_v at_v.
      one_at_place (x_at memory s) (y_at memory s) c.agree.stage c.agree.splitters p q u.place v.place place (visited p place u is_u at_u) (visited q place v is_v at_v)))

  within : (p place : ℕ) → place_by (walker p) ≡ Some place → IsNodeWithin b place
  within p place h = option_and_then_some place_of (walker p) place h (λ u is placed.
      node_within place p (subst (λ (i : ℕ). c.agree.came i p ≡ true) (sym (place_is u.place u.visitor.stage place placed).1) (c.agree.walks p u is).arrived))

  placed : (p place : ℕ) → place_by (walker p) ≡ Some place → mark_at memory s place ≡ 1
  placed p place h = option_and_then_some place_of (walker p) place h (λ u is placed.
      let at = place_is u.place u.visitor.stage place placed in
      let stopped : has_entered (c.agree.stage place p) ≡ true = ap (λ i. has_entered (c.agree.stage i p)) at.1 ∙ ap has_entered ((c.agree.walks p u is).here ∙ at.0) in
      c.agree.marked place p stopped)

  parents : (k : ℕ) → mark_at memory s k ≢ 0 → 2 ≤ k → mark_at memory s (k / 2) ≡ 1
  parents k some l = let x = c.agree.marker k some in parent_marked b (mark_at memory s) (x_at memory s) (y_at memory s) walker c.agree k x.0 l x.1

  ancestors_by : (levels k : ℕ) → mark_at memory s k ≡ 1 → 1 ≤ above levels k → mark_at memory s (above levels k) ≡ 1
  ancestors_by zero k some l = some
  ancestors_by (suc levels) k some l =
      let before = ancestors_by levels k some (omega arith) in
      parents (above levels k) (λ e. absurd (omega arith)) (omega arith)

  at_most : (p : ℕ) → accesses_by (walker p) ≤ 5 * b
  at_most p = elim (walker p) as (λ o. walker p ≡ o → accesses_by o ≤ 5 * b) [
    | None ↦ λ _. omega arith
    | Some u ↦ λ is.
        let low = (node_within u.place p (c.agree.walks p u is).arrived).deep in
        let few = few_at_door u.visitor.stage in
        elim (cases_Bool u.is_marking) [ inl m ↦ rw m (omega arith) | inr m ↦ rw m (omega arith) ]
  ] refl

  last_places : (p : ℕ) → 0 < accesses_by (walker p) → accesses_by (walker p) ≡ 5 * b → IsSome (place_by (walker p))
  last_places p some all = elim (walker p) as (λ o. walker p ≡ o → 0 < accesses_by o → accesses_by o ≡ 5 * b → IsSome (place_by o)) [
    | None ↦ λ _ never _. absurd (omega arith)
    | Some u ↦ λ is _ five.
        let walk = c.agree.walks p u is in
        let low = (node_within u.place p walk.arrived).deep in
        elim (cases_Bool u.is_marking) [
          | inl m ↦ absurd (let none = rw m at five in omega arith)
          | inr m ↦ fourth_places u.place u.visitor.stage (let more = rw m at five in omega arith) walk.not_right walk.not_down
        ]
  ] refl some all

  pub tree_law : IsTree memory b s walker
  tree_law = record {
    distinct = distinct;
    within = within;
    placed = placed;
    made = made;
    few_made = few_made;
    ancestors = λ k a some under l. subst (λ (i : ℕ). 1 ≤ i → mark_at memory s i ≡ 1) under.is (ancestors_by under.levels k some) l;
    at_most = at_most;
    last_places = last_places;
  }

-- five accesses at a node that was passed are one more than those of a visit there
five_more : (d e a : ℕ) → e ≡ suc d → a ≤ 3 → 5 * d + (a + 1) + 1 ≤ 5 * e + 0
five_more d e a h l = omega arith

-- a walk whose visit was here has gone on, by its visit to this stage
counted : (u : Walker) → depth_of (left_child u.place) ≡ suc (depth_of u.place) → depth_of (right_child u.place) ≡ suc (depth_of u.place) →
    (s : VisitStage) → u.is_marking ≡ false → accesses_at u.visitor.stage + 1 ≤ accesses_at s → accesses_at u.visitor.stage ≤ 3 → accesses_of u + 1 ≤ accesses_of (walked_to u s)
counted u left right s m l k = elim (goes_on (visit_on u) (walker_at u.visitor.identity (right_child u.place)) (walker_at u.visitor.identity (left_child u.place)) s) [
  | inl e ↦ rw (e.2, m) (omega arith)
  | inr o ↦ elim o [
    | inl e ↦ rw (e.1, m) (five_more (depth_of u.place) (depth_of (right_child u.place)) (accesses_at u.visitor.stage) right k)
    | inr e ↦ rw (e.1, m) (five_more (depth_of u.place) (depth_of (left_child u.place)) (accesses_at u.visitor.stage) left k)
  ]
]

-- an access of a walk that has no place yet brings it nearer to one
pub nearer : {S : Type 0} (memory : MemorySteps S TreeRegister TreeValue) (most b : ℕ) (s : S) (walker : ℕ → Option Walker) → IsConsistent memory most b s walker → (p : ℕ) (u : Walker) → walker p ≡ Some u → place_of u ≡ None → (got : Answer TreeValue) → accesses_of u + 1 ≤ accesses_of (walker_after u got)
nearer memory most b s walker c p u is on got =
    let walk = c.agree.walks p u is in
    let some = c.agree.node u.place p walk.arrived in
    let few : b ≤ 64 = (let f = c.few in let r = c.room in omega arith) in
    let small = small_place b few (mark_at memory s) (x_at memory s) (y_at memory s) walker c.agree u.place p walk.arrived in
    let more = one_more u.visitor.identity u.visitor.stage (value_in (reported got)) (value_in (reported got)) u.place on walk.not_right walk.not_down in
    let left : depth_of (left_child u.place) ≡ suc (depth_of u.place) = ap depth_of (sym small.0) ∙ depth_left u.place some in
    let right : depth_of (right_child u.place) ≡ suc (depth_of u.place) = ap depth_of (sym small.1) ∙ depth_right u.place some in
    elim (cases_Bool u.is_marking) [
      | inl m ↦ rw m (omega arith)
      | inr m ↦
          let reached : VisitStage = stage_by u.visitor (reported got) in
          let after_is : walker_after u got ≡ walked_to u reached = ap (λ (t : Bool). cond t (record u { is_marking = false }) (walked_to u reached)) m in
          subst (λ (w : Walker). accesses_of u + 1 ≤ accesses_of w) (sym after_is) (counted u left right reached m more.0 more.1)
    ]

-- a walk that has no place yet has accesses left
pub unplaced : {S : Type 0} (memory : MemorySteps S TreeRegister TreeValue) (most b : ℕ) (s : S) (walker : ℕ → Option Walker) → IsConsistent memory most b s walker → (p : ℕ) (u : Walker) → walker p ≡ Some u → place_of u ≡ None → accesses_of u + 1 ≤ 5 * b
unplaced memory most b s walker c p u is on =
    let law = tree_law memory most b s walker c in
    let listed = c.agree.listed u.place p (c.agree.walks p u is).arrived in
    let inside = listed.1 in
    let many = c.agree.many in
    let all = law.at_most p in
    let few : accesses_of u ≤ 5 * b = rw is at all in
    elim (eqb_tells (accesses_of u) (5 * b)) [
      | inl e ↦
          let last : IsSome (place_by (walker p)) = law.last_places p (rw is (let same = e.1 in omega arith)) (rw is e.1) in
          let lost : IsSome (let nowhere : Option ℕ = None in nowhere) = rw (is, on) at last in
          absurd (cc)
      | inr e ↦ let other = e.1 in omega arith
    ]
