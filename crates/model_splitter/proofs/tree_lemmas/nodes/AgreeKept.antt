-- what each access of a walk, and each beginning, keeps of the nodes and the walks of a tree
use Rattle.std.proofs.Common.{◌≡◌, ◌≢◌, ℕ, zero, suc, ◌+◌, ◌*◌, ◌<◌, ◌≤◌, Bool, true, false, ◌⊎◌, inl, inr, [], ◌∷◌, Option, Some, None, refl, sym, ap, subst, ◌∙◌, arith}
use Rattle.model_splitter.proofs.tree_lemmas.Common.{eqb_tells, set_at, set_at-same, set_at-other, set_at-cases, Right, Down, VisitStage, Outside, Gone, has_entered, went_right, went_down, x_after, y_after, stage_after, Walker, walker_at, walk_of, visit_on}
use Rattle.model_splitter.specs.Invariant.{DoorSatisfiesSpec}
use Rattle.model_splitter.proofs.cited.DoorKept.{kept, lawful_new}
use Rattle.model_splitter.specs.tree.Invariant.{IsWalkOf, NodesAgree}
use Rattle.model_splitter.proofs.tree_lemmas.nodes.VisitsKept.{with_visit, with_visit-node, with_visit-other_node, with_visit-own, with_visit-other, with_comer, with_comer-has, with_comer-keeps, with_comer-cases}

pub right_entered : (s : VisitStage) → went_right s ≡ true → has_entered s ≡ true
right_entered (Gone Right) h = refl
right_entered s h = absurd (cc)

pub down_entered : (s : VisitStage) → went_down s ≡ true → has_entered s ≡ true
down_entered (Gone Down) h = refl
down_entered s h = absurd (cc)

-- a walk agrees with visits still where its own are as before, and no mark and nobody's coming is lost
walk_still : (mark mark' : ℕ → ℕ) (stage stage' : ℕ → ℕ → VisitStage) (came came' : ℕ → ℕ → Bool) (p : ℕ) (u : Walker) →
    ((k : ℕ) → mark k ≡ 1 → mark' k ≡ 1) → ((k : ℕ) → stage' k p ≡ stage k p) → ((k : ℕ) → came k p ≡ true → came' k p ≡ true) →
    IsWalkOf mark stage came p u → IsWalkOf mark' stage' came' p u
walk_still mark mark' stage stage' came came' p u marks stages comes w = record {
  identity = w.identity;
  x = w.x;
  y = w.y;
  here = stages u.place ∙ w.here;
  arrived = comes u.place w.arrived;
  marking = w.marking;
  marked = λ m. marks u.place (w.marked m);
  not_right = w.not_right;
  not_down = w.not_down;
  below = λ k l. stages k ∙ w.below k l;
}

module _ (b : ℕ) (mark x_of y_of : ℕ → ℕ) (walker : ℕ → Option Walker) (g : NodesAgree b mark x_of y_of walker) (p : ℕ) (v : Walker) (is : walker p ≡ Some v) where
  abbrev at : ℕ
  at = v.place

  positive : 1 ≤ v.place
  positive = g.node v.place p (g.walks p v is).arrived

  -- p writes the mark of its node
  abbrev marked_on : Walker
  marked_on = record v { is_marking = false }

  abbrev mark' : ℕ → ℕ
  mark' = set_at mark at 1

  mark_still : (k : ℕ) → mark k ≡ 1 → mark' k ≡ 1
  mark_still k h = set_at-cases mark at 1 (λ m. m ≡ 1) k (λ _. refl) (λ _. h)

  walks_marked : (q : ℕ) (u : Walker) → set_at walker p (Some marked_on) q ≡ Some u → IsWalkOf mark' g.stage g.came q u
  walks_marked q u = set_at-cases walker p (Some marked_on) (λ o. o ≡ Some u → IsWalkOf mark' g.stage g.came q u) q
      (λ e h. let own : marked_on ≡ u = cc in subst (λ (w : Walker). IsWalkOf mark' g.stage g.came q w) own (rw e (let old = g.walks p v is in record {
        identity = old.identity;
        x = old.x;
        y = old.y;
        here = old.here;
        arrived = old.arrived;
        marking = λ h. absurd (cc);
        marked = λ _. set_at-same mark at 1;
        not_right = old.not_right;
        not_down = old.not_down;
        below = old.below;
      })))
      (λ _ h. walk_still mark mark' g.stage g.stage g.came g.came q u mark_still (λ k. refl) (λ k c. c) (g.walks q u h))

  not_nobody : 0 ≢ p
  not_nobody e = absurd (let k : Some v ≡ None = sym is ∙ ap walker (sym e) ∙ g.nobody in cc)

  pub marked_node : NodesAgree b mark' x_of y_of (set_at walker p (Some marked_on))
  marked_node = record {
    stage = g.stage;
    came = g.came;
    identities = g.identities;
    many = g.many;
    nobody = set_at-other walker p (Some marked_on) 0 not_nobody ∙ g.nobody;
    walks = walks_marked;
    absent = λ q. set_at-cases walker p (Some marked_on) (λ o. o ≡ None → (k : ℕ) → g.stage k q ≡ Outside) q (λ _ h. absurd (cc)) (λ _ h. g.absent q h);
    splitters = g.splitters;
    entered = g.entered;
    listed = g.listed;
    node = g.node;
    came_down = g.came_down;
    came_right = g.came_right;
    marked = λ k q h. mark_still k (g.marked k q h);
    marker = λ k. set_at-cases mark at 1 (λ m. m ≢ 0 → (q : ℕ) × (g.came k q ≡ true)) k (λ e _. (p, rw e (g.walks p v is).arrived)) (λ _ h. g.marker k h);
  }

  -- p takes an access of its visit
  module _ (visits : v.is_marking ≡ false) where
    abbrev after : VisitStage
    after = stage_after p v.visitor.stage (x_of at) (y_of at)

    abbrev stage' : ℕ → ℕ → VisitStage
    stage' = with_visit g.stage at p after

    abbrev x_of' : ℕ → ℕ
    x_of' = set_at x_of at (x_after p v.visitor.stage (x_of at))

    abbrev y_of' : ℕ → ℕ
    y_of' = set_at y_of at (y_after v.visitor.stage (y_of at))

    splitters_after : (j : ℕ) → DoorSatisfiesSpec (x_of' j) (y_of' j) (stage' j)
    splitters_after j = elim (eqb_tells j at) [
      | inl e ↦ subst (λ (i : ℕ). DoorSatisfiesSpec (x_of' i) (y_of' i) (stage' i)) (sym e.1)
          (rw (set_at-same x_of at (x_after p v.visitor.stage (x_of at)), set_at-same y_of at (y_after v.visitor.stage (y_of at)), with_visit-node g.stage at p after)
          (kept (x_of at) (y_of at) (g.stage at) p (g.splitters at) v.visitor.stage (g.walks p v is).here))
      | inr e ↦ rw (set_at-other x_of at (x_after p v.visitor.stage (x_of at)) j e.1, set_at-other y_of at (y_after v.visitor.stage (y_of at)) j e.1, with_visit-other_node g.stage at p after j e.1) (g.splitters j)
    ]

    -- the stage of q's visit to node j is as before, or these are p and its node
    stage_cases : (j q : ℕ) → ((j ≡ at) × (q ≡ p)) ⊎ (stage' j q ≡ g.stage j q)
    stage_cases j q = elim (eqb_tells q p) [
      | inr n ↦ inr (with_visit-other g.stage at p after j q n.1)
      | inl e ↦ elim (eqb_tells j at) [
        | inr n ↦ inr (ap (λ (w : ℕ → VisitStage). w q) (with_visit-other_node g.stage at p after j n.1))
        | inl k ↦ inl (k.1, e.1)
      ]
    ]

    -- p goes on as v', at this node
    module _ (v' : Walker) (walk : IsWalkOf mark stage' (with_comer g.came v'.place p) p v') (positive' : 1 ≤ v'.place)
        (down : (k : ℕ) → 1 ≤ k → 2 * k ≡ v'.place → went_down (stage' k p) ≡ true)
        (right : (k : ℕ) → 1 ≤ k → 2 * k + 1 ≡ v'.place → went_right (stage' k p) ≡ true) where
      abbrev walker' : ℕ → Option Walker
      walker' = set_at walker p (Some v')

      abbrev came' : ℕ → ℕ → Bool
      came' = with_comer g.came v'.place p

      still : (j q : ℕ) → g.came j q ≡ true → came' j q ≡ true
      still = with_comer-keeps g.came v'.place p

      cases : (j q : ℕ) → came' j q ≡ true → ((j ≡ v'.place) × (q ≡ p)) ⊎ (g.came j q ≡ true)
      cases = with_comer-cases g.came v'.place p

      walks_after : (q : ℕ) (u : Walker) → walker' q ≡ Some u → IsWalkOf mark stage' came' q u
      walks_after q u = set_at-cases walker p (Some v') (λ o. o ≡ Some u → IsWalkOf mark stage' came' q u) q
          (λ e h. let own : v' ≡ u = cc in subst (λ (w : Walker). IsWalkOf mark stage' came' q w) own (rw e walk))
          (λ n h. walk_still mark mark g.stage stage' g.came came' q u (λ k m. m) (λ k. with_visit-other g.stage at p after k q n) (λ k. still k q) (g.walks q u h))

      entered_after : (k q : ℕ) → has_entered (stage' k q) ≡ true → came' k q ≡ true
      entered_after k q h = elim (stage_cases k q) [
        | inl e ↦ still k q (rw (e.0, e.1) (g.walks p v is).arrived)
        | inr e ↦ still k q (g.entered k q (ap has_entered (sym e) ∙ h))
      ]

      marked_after : (k q : ℕ) → has_entered (stage' k q) ≡ true → mark k ≡ 1
      marked_after k q h = elim (stage_cases k q) [
        | inl e ↦ rw e.0 ((g.walks p v is).marked visits)
        | inr e ↦ g.marked k q (ap has_entered (sym e) ∙ h)
      ]

      -- who comes to a child has left its parent on that side
      child_after : (went : VisitStage → Bool) (child : ℕ → ℕ) → ((k q : ℕ) → 1 ≤ k → g.came (child k) q ≡ true → went (g.stage k q) ≡ true) → went v.visitor.stage ≡ false →
          ((k : ℕ) → 1 ≤ k → child k ≡ v'.place → went (stage' k p) ≡ true) → (k q : ℕ) → 1 ≤ k → came' (child k) q ≡ true → went (stage' k q) ≡ true
      child_after went child before stays here k q l h = elim (cases (child k) q h) [
        | inl e ↦ rw e.1 (here k l e.0)
        | inr old ↦ elim (stage_cases k q) [
          | inr e ↦ ap went e ∙ before k q l old
          | inl e ↦ absurd (
              let was : went (g.stage at p) ≡ true = subst (λ (i : ℕ). went (g.stage at i) ≡ true) e.1 (subst (λ (i : ℕ). went (g.stage i q) ≡ true) e.0 (before k q l old)) in
              let not : went (g.stage at p) ≡ false = ap went (g.walks p v is).here ∙ stays in
              cc)
        ]
      ]

      stepped : NodesAgree b mark x_of' y_of' walker'
      stepped = record {
        stage = stage';
        came = came';
        identities = g.identities;
        many = g.many;
        nobody = set_at-other walker p (Some v') 0 not_nobody ∙ g.nobody;
        walks = walks_after;
        absent = λ q. set_at-cases walker p (Some v') (λ o. o ≡ None → (k : ℕ) → stage' k q ≡ Outside) q (λ _ h. absurd (cc)) (λ n h k. with_visit-other g.stage at p after k q n ∙ g.absent q h k);
        splitters = splitters_after;
        entered = entered_after;
        listed = λ k q h. elim (cases k q h) [
          | inl e ↦ let old = g.listed at p (g.walks p v is).arrived in (old.0, old.1, old.2 ∙ sym e.1)
          | inr old ↦ g.listed k q old
        ];
        node = λ k q h. elim (cases k q h) [ inl e ↦ rw e.0 positive' | inr old ↦ g.node k q old ];
        came_down = child_after went_down (λ k. 2 * k) g.came_down (g.walks p v is).not_down down;
        came_right = child_after went_right (λ k. 2 * k + 1) g.came_right (g.walks p v is).not_right right;
        marked = marked_after;
        marker = λ k h. let old = g.marker k h in (old.0, still k old.0 old.1);
      }

    -- a visit that goes on, or stops
    abbrev staying : Walker
    staying = visit_on v after

    -- who came to a child left its parent before, so the parent is another node than p's
    stage_above : (k j : ℕ) → at ≡ j → k < j → stage' k p ≡ g.stage k p
    stage_above k j e l = ap (λ (w : ℕ → VisitStage). w p) (with_visit-other_node g.stage at p after k (λ h. absurd (omega arith)))

    pub stayed : went_right after ≡ false → went_down after ≡ false → NodesAgree b mark x_of' y_of' (set_at walker p (Some staying))
    stayed r d =
        let old = g.walks p v is in
        stepped staying
        (record {
          identity = old.identity;
          x = old.x;
          y = old.y;
          here = with_visit-own g.stage at p after;
          arrived = with_comer-has g.came v.place p;
          marking = λ h. absurd (cc);
          marked = old.marked;
          not_right = r;
          not_down = d;
          below = λ k l. ap (λ (w : ℕ → VisitStage). w p) (with_visit-other_node g.stage at p after k (λ h. absurd (omega arith))) ∙ old.below k l;
        })
        positive
        (λ k l e. ap went_down (stage_above k (2 * k) (sym e) (omega arith)) ∙ g.came_down k p l (subst (λ (i : ℕ). g.came i p ≡ true) (sym e) old.arrived))
        (λ k l e. ap went_right (stage_above k (2 * k + 1) (sym e) (omega arith)) ∙ g.came_right k p l (subst (λ (i : ℕ). g.came i p ≡ true) (sym e) old.arrived))

    -- a visit that leads on, to a child
    module _ (child : ℕ) (larger : at < child)
        (down : (k : ℕ) → 1 ≤ k → 2 * k ≡ child → went_down (stage' k p) ≡ true)
        (right : (k : ℕ) → 1 ≤ k → 2 * k + 1 ≡ child → went_right (stage' k p) ≡ true) where
      below_child : (k : ℕ) → at < k → stage' k p ≡ Outside
      below_child k l = ap (λ (w : ℕ → VisitStage). w p) (with_visit-other_node g.stage at p after k (λ h. absurd (omega arith))) ∙ (g.walks p v is).below k l

      pub moved_on : NodesAgree b mark x_of' y_of' (set_at walker p (Some (walker_at p child)))
      moved_on = stepped (walker_at p child)
          (record {
            identity = refl;
            x = refl;
            y = refl;
            here = below_child child larger;
            arrived = with_comer-has g.came child p;
            marking = λ _. refl;
            marked = λ h. absurd (cc);
            not_right = refl;
            not_down = refl;
            below = λ k l. below_child k (omega arith);
          })
          (omega arith) down right

    own_stage : (k : ℕ) → k ≡ at → stage' k p ≡ after
    own_stage k e = ap (λ (i : ℕ). stage' i p) e ∙ with_visit-own g.stage at p after

    pub moved_down : went_down after ≡ true → NodesAgree b mark x_of' y_of' (set_at walker p (Some (walker_at p (2 * v.place))))
    moved_down d = let above = positive in moved_on (2 * v.place) (omega arith)
        (λ k l e. ap went_down (own_stage k (omega arith)) ∙ d)
        (λ k l e. absurd (omega arith))

    pub moved_right : went_right after ≡ true → NodesAgree b mark x_of' y_of' (set_at walker p (Some (walker_at p (2 * v.place + 1))))
    moved_right r = let above = positive in moved_on (2 * v.place + 1) (omega arith)
        (λ k l e. absurd (omega arith))
        (λ k l e. ap went_right (own_stage k (omega arith)) ∙ r)

-- one more participant, before the root
pub joined : (b : ℕ) (mark x_of y_of : ℕ → ℕ) (walker : ℕ → Option Walker) → NodesAgree b mark x_of y_of walker → (p : ℕ) → p ≢ 0 → walker p ≡ None → NodesAgree (suc b) mark x_of y_of (set_at walker p (Some (walk_of p)))
joined b mark x_of y_of walker g p some absent = record {
  stage = g.stage;
  came = with_comer g.came 1 p;
  identities = p ∷ g.identities;
  many = ap suc g.many;
  nobody = set_at-other walker p (Some (walk_of p)) 0 (λ e. some (sym e)) ∙ g.nobody;
  walks = λ q u. set_at-cases walker p (Some (walk_of p)) (λ o. o ≡ Some u → IsWalkOf mark g.stage (with_comer g.came 1 p) q u) q
      (λ e h. let own : walk_of p ≡ u = cc in subst (λ (w : Walker). IsWalkOf mark g.stage (with_comer g.came 1 p) q w) own (rw e (record {
        identity = refl;
        x = refl;
        y = refl;
        here = g.absent p absent 1;
        arrived = with_comer-has g.came 1 p;
        marking = λ _. refl;
        marked = λ never. absurd (cc);
        not_right = refl;
        not_down = refl;
        below = λ k _. g.absent p absent k;
      })))
      (λ _ h. walk_still mark mark g.stage g.stage g.came (with_comer g.came 1 p) q u (λ k m. m) (λ k. refl) (λ k. with_comer-keeps g.came 1 p k q) (g.walks q u h));
  absent = λ q. set_at-cases walker p (Some (walk_of p)) (λ o. o ≡ None → (k : ℕ) → g.stage k q ≡ Outside) q (λ _ h. absurd (cc)) (λ _ h. g.absent q h);
  splitters = g.splitters;
  entered = λ k q h. with_comer-keeps g.came 1 p k q (g.entered k q h);
  listed = λ k q h. elim (with_comer-cases g.came 1 p k q h) [
    | inl e ↦ (zero, omega arith, sym e.1)
    | inr old ↦ let at = g.listed k q old in (suc at.0, (let l = at.1 in omega arith), at.2)
  ];
  node = λ k q h. elim (with_comer-cases g.came 1 p k q h) [ inl e ↦ rw e.0 (omega arith) | inr old ↦ g.node k q old ];
  came_down = λ k q l h. elim (with_comer-cases g.came 1 p (2 * k) q h) [ inl e ↦ absurd (let x = e.0 in omega arith) | inr old ↦ g.came_down k q l old ];
  came_right = λ k q l h. elim (with_comer-cases g.came 1 p (2 * k + 1) q h) [ inl e ↦ absurd (let x = e.0 in omega arith) | inr old ↦ g.came_right k q l old ];
  marked = g.marked;
  marker = λ k h. let old = g.marker k h in (old.0, with_comer-keeps g.came 1 p k old.0 old.1);
}

-- a tree of no nodes
pub agree_new : (mark x_of y_of : ℕ → ℕ) → ((k : ℕ) → mark k ≡ 0) → ((k : ℕ) → y_of k ≡ 0) → NodesAgree 0 mark x_of y_of (λ p. None)
agree_new mark x_of y_of unmarked clear = record {
  stage = λ k p. Outside;
  came = λ k p. false;
  identities = [];
  many = refl;
  nobody = refl;
  walks = λ p u h. absurd (cc);
  absent = λ p h k. refl;
  splitters = λ k. rw (clear k) (lawful_new (x_of k));
  entered = λ k p h. absurd (cc);
  listed = λ k p h. absurd (cc);
  node = λ k p h. absurd (cc);
  came_down = λ k p l h. absurd (cc);
  came_right = λ k p l h. absurd (cc);
  marked = λ k p h. absurd (cc);
  marker = λ k some. absurd (some (unmarked k));
}
