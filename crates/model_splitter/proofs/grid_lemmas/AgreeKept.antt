-- what each access of a walk, and each beginning, keeps of the doors and the walks of a grid
use Rattle.std.proofs.Common.{◌≡◌, ◌≢◌, ℕ, zero, suc, ◌<◌, ◌≤◌, Bool, true, false, cond, ◌==◌, ◌⊎◌, inl, inr, [], ◌∷◌, length, get_or, Option, Some, None, refl, sym, ap, subst, ◌∙◌, arith}
use Rattle.model_splitter.proofs.grid_lemmas.Common.{eqb_tells, set_at, VisitStage, Outside, WroteX, SawClear, WroteY, Gone, has_entered, went_right, went_down, x_after, y_after, stage_after, Walker, door_number, number_of, door_at, walker_at, walk_of, visit_on}
use Rattle.model_steps.proofs.cited.SetAtLemmas.{set_at-same, set_at-other, set_at-cases}
use Rattle.model_splitter.specs.declared.way.Way.TheVariants.{Stop, Right, Down}
use Rattle.model_splitter.specs.Invariant.{DoorSatisfiesSpec}
use Rattle.model_splitter.proofs.cited.DoorKept.{kept, lawful_new}
use Rattle.model_splitter.specs.grid.Invariant.{StandsAt, IsWalkOf, DoorsAgree}
use Rattle.model_splitter.proofs.grid_lemmas.DepthBound.{tightened}
use Rattle.model_splitter.proofs.cited.grid.Numbers.{number_depth, number_column}

-- one more door that was reached
pub with_door : (ℕ → ℕ → Bool) → ℕ → ℕ → ℕ → ℕ → Bool
with_door seen d c = set_at seen d (set_at (seen d) c true)

with_door-keeps : (seen : ℕ → ℕ → Bool) (d c e f : ℕ) → seen e f ≡ true → with_door seen d c e f ≡ true
unfolding with_door
with_door-keeps seen d c e f h = set_at-cases seen d (set_at (seen d) c true) (λ (w : ℕ → Bool). w f ≡ true) e
    (λ x. set_at-cases (seen d) c true (λ w. w ≡ true) f (λ _. refl) (λ _. rw x at h)) (λ _. h)

with_door-has : (seen : ℕ → ℕ → Bool) (d c : ℕ) → with_door seen d c d c ≡ true
unfolding with_door
with_door-has seen d c = ap (λ (w : ℕ → Bool). w c) (set_at-same seen d (set_at (seen d) c true)) ∙ set_at-same (seen d) c true

with_door-cases : (seen : ℕ → ℕ → Bool) (d c e f : ℕ) → with_door seen d c e f ≡ true → ((e ≡ d) × (f ≡ c)) ⊎ (seen e f ≡ true)
unfolding with_door
with_door-cases seen d c e f = set_at-cases seen d (set_at (seen d) c true) (λ (w : ℕ → Bool). w f ≡ true → ((e ≡ d) × (f ≡ c)) ⊎ (seen e f ≡ true)) e
    (λ x. set_at-cases (seen d) c true (λ w. w ≡ true → ((e ≡ d) × (f ≡ c)) ⊎ (seen e f ≡ true)) f (λ y _. inl (x, y)) (λ _ h. inr (rw x h))) (λ _ h. inr h)

-- one visit further
pub visited : (ℕ → ℕ → VisitStage) → ℕ → ℕ → VisitStage → ℕ → ℕ → VisitStage
visited stage k p s = set_at stage k (set_at (stage k) p s)

visit_own : (stage : ℕ → ℕ → VisitStage) (k p : ℕ) (s : VisitStage) → visited stage k p s k p ≡ s
unfolding visited
visit_own stage k p s = ap (λ (w : ℕ → VisitStage). w p) (set_at-same stage k (set_at (stage k) p s)) ∙ set_at-same (stage k) p s

visit_door : (stage : ℕ → ℕ → VisitStage) (k p : ℕ) (s : VisitStage) (j q : ℕ) → j ≢ k → visited stage k p s j q ≡ stage j q
unfolding visited
visit_door stage k p s j q n = ap (λ (w : ℕ → VisitStage). w q) (set_at-other stage k (set_at (stage k) p s) j n)

visit_person : (stage : ℕ → ℕ → VisitStage) (k p : ℕ) (s : VisitStage) (j q : ℕ) → q ≢ p → visited stage k p s j q ≡ stage j q
unfolding visited
visit_person stage k p s j q n = set_at-cases stage k (set_at (stage k) p s) (λ (w : ℕ → VisitStage). w q ≡ stage j q) j
    (λ x. set_at-other (stage k) p s q n ∙ ap (λ (i : ℕ). stage i q) (sym x)) (λ _. refl)

entered_after : (p : ℕ) (s : VisitStage) (x y : ℕ) → has_entered (stage_after p s x y) ≡ true
entered_after p WroteX x y = elim (y == 0) as (λ b. has_entered (cond b SawClear (Gone Right)) ≡ true) [ true ↦ refl | false ↦ refl ]
entered_after p WroteY x y = elim (x == p) as (λ b. has_entered (cond b (Gone Stop) (Gone Down)) ≡ true) [ true ↦ refl | false ↦ refl ]
entered_after p s x y = refl

pub x_own : (p : ℕ) (s : VisitStage) (x : ℕ) → (x_after p s x ≡ p) ⊎ (x_after p s x ≡ x)
x_own p Outside x = inl refl
x_own p s x = inr refl

module _ (b : ℕ) (x_of y_of : ℕ → ℕ) (walker : ℕ → Option Walker) (g : DoorsAgree b b x_of y_of walker) (p : ℕ) (v : Walker) (is : walker p ≡ Some v) where
  abbrev at : ℕ
  at = number_of v.door

  abbrev after : VisitStage
  after = stage_after p v.visitor.stage (x_of at) (y_of at)

  abbrev stage' : ℕ → ℕ → VisitStage
  stage' = visited g.stage at p after

  -- the doors after the step
  doors_after : (j : ℕ) → DoorSatisfiesSpec (set_at x_of at (x_after p v.visitor.stage (x_of at)) j) (set_at y_of at (y_after v.visitor.stage (y_of at)) j) (stage' j)
  unfolding visited
  doors_after j = elim (eqb_tells j at) [
    | inl e ↦ subst (λ (i : ℕ). DoorSatisfiesSpec (set_at x_of at (x_after p v.visitor.stage (x_of at)) i) (set_at y_of at (y_after v.visitor.stage (y_of at)) i) (set_at g.stage at (set_at (g.stage at) p after) i)) (sym e.1)
        (rw (set_at-same x_of at (x_after p v.visitor.stage (x_of at)), set_at-same y_of at (y_after v.visitor.stage (y_of at)), set_at-same g.stage at (set_at (g.stage at) p after))
        (kept (x_of at) (y_of at) (g.stage at) p (g.doors at) v.visitor.stage (g.walks p v is).here))
    | inr e ↦ rw (set_at-other x_of at (x_after p v.visitor.stage (x_of at)) j e.1, set_at-other y_of at (y_after v.visitor.stage (y_of at)) j e.1, set_at-other g.stage at (set_at (g.stage at) p after) j e.1) (g.doors j)
  ]

  -- p goes on as v', before the door at (d2, c2)
  module _ (v' : Walker) (walk : IsWalkOf stage' (with_door g.reached v'.door.depth v'.door.column) p v')
      (leaves : StandsAt (set_at walker p (Some v')) p v.door.depth v.door.column ⊎ (((went_right after ≡ true) × (with_door g.reached v'.door.depth v'.door.column (suc v.door.depth) v.door.column ≡ true)) ⊎ ((went_down after ≡ true) × (with_door g.reached v'.door.depth v'.door.column (suc v.door.depth) (suc v.door.column) ≡ true))))
      (comes : (e : ℕ) → v'.door.depth ≡ suc e → (f : ℕ) × (f ≤ e) × (g.reached e f ≡ true))
      (deep : v'.door.depth < suc b) where
    abbrev walker' : ℕ → Option Walker
    walker' = set_at walker p (Some v')

    abbrev reached' : ℕ → ℕ → Bool
    reached' = with_door g.reached v'.door.depth v'.door.column

    stands_still : (q d c : ℕ) → q ≢ p → StandsAt walker q d c → StandsAt walker' q d c
    stands_still q d c n s = record { walk = s.walk; is = set_at-other walker p (Some v') q n ∙ s.is; depth_is = s.depth_is; column_is = s.column_is }

    -- where p stood it stood at its door
    was_at : (d c : ℕ) → StandsAt walker p d c → (v.door.depth ≡ d) × (v.door.column ≡ c)
    was_at d c s = let own : s.walk ≡ v = (let both : Some s.walk ≡ Some v = sym s.is ∙ is in cc) in (ap (λ w. w.door.depth) (sym own) ∙ s.depth_is, ap (λ w. w.door.column) (sym own) ∙ s.column_is)

    -- p stands here, or has left by a way that leads to a door that was reached
    abbrev Goes : ℕ → ℕ → ℕ → Type 0
    Goes d c q = StandsAt walker' q d c ⊎ (((went_right (stage' (door_number d c) q) ≡ true) × (reached' (suc d) c ≡ true)) ⊎ ((went_down (stage' (door_number d c) q) ≡ true) × (reached' (suc d) (suc c) ≡ true)))

    goes_own : Goes v.door.depth v.door.column p
    goes_own =
        let own : stage' at p ≡ after = visit_own g.stage at p after in
        elim leaves [ inl s ↦ inl s | inr o ↦ inr (elim o [ inl r ↦ inl (ap went_right own ∙ r.0, r.1) | inr r ↦ inr (ap went_down own ∙ r.0, r.1) ]) ]

    goes_as_before : (d c q : ℕ) → c ≤ d → stage' (door_number d c) q ≡ g.stage (door_number d c) q → (StandsAt walker q d c → Goes d c q) → has_entered (stage' (door_number d c) q) ≡ true → Goes d c q
    goes_as_before d c q l same stood h = elim (g.left d c q l (rw same at h)) [
      | inl s ↦ stood s
      | inr o ↦ inr (elim o [ inl r ↦ inl (ap went_right same ∙ r.0, with_door-keeps g.reached v'.door.depth v'.door.column (suc d) c r.1) | inr r ↦ inr (ap went_down same ∙ r.0, with_door-keeps g.reached v'.door.depth v'.door.column (suc d) (suc c) r.1) ])
    ]

    entered_still : (j q : ℕ) → has_entered (g.stage j q) ≡ true → has_entered (stage' j q) ≡ true
    entered_still j q h = elim (eqb_tells q p) [
      | inr n ↦ ap has_entered (visit_person g.stage at p after j q n.1) ∙ h
      | inl e ↦ elim (eqb_tells j at) [
        | inr n ↦ ap has_entered (visit_door g.stage at p after j q n.1) ∙ h
        | inl k ↦ subst (λ (i : ℕ). has_entered (stage' i q) ≡ true) (sym k.1) (subst (λ (i : ℕ). has_entered (stage' at i) ≡ true) (sym e.1) (ap has_entered (visit_own g.stage at p after) ∙ entered_after p v.visitor.stage (x_of at) (y_of at)))
      ]
    ]

    entered_own : (x : ℕ) → (x ≡ p) ⊎ (x ≡ x_of at) → x ≢ 0 → has_entered (stage' at x) ≡ true
    entered_own x own some = elim own [
      | inl e ↦ subst (λ (i : ℕ). has_entered (stage' at i) ≡ true) (sym e) (ap has_entered (visit_own g.stage at p after) ∙ entered_after p v.visitor.stage (x_of at) (y_of at))
      | inr e ↦ entered_still at x (subst (λ (i : ℕ). has_entered (g.stage at i) ≡ true) (sym e) (g.entered at (λ none. some (e ∙ none))))
    ]

    in_x_after : (k : ℕ) → set_at x_of at (x_after p v.visitor.stage (x_of at)) k ≢ 0 → has_entered (stage' k (set_at x_of at (x_after p v.visitor.stage (x_of at)) k)) ≡ true
    in_x_after k = set_at-cases x_of at (x_after p v.visitor.stage (x_of at)) (λ x. x ≢ 0 → has_entered (stage' k x) ≡ true) k
        (λ e some. subst (λ (i : ℕ). has_entered (stage' i (x_after p v.visitor.stage (x_of at))) ≡ true) (sym e) (entered_own (x_after p v.visitor.stage (x_of at)) (x_own p v.visitor.stage (x_of at)) some))
        (λ _ some. entered_still k (x_of k) (g.entered k some))

    same_number : (d c : ℕ) → v.door.depth ≡ d → v.door.column ≡ c → at ≡ door_number d c
    same_number d c e f = ap (λ i. door_number i v.door.column) e ∙ ap (λ i. door_number d i) f

    left_after : (d c q : ℕ) → c ≤ d → has_entered (stage' (door_number d c) q) ≡ true → Goes d c q
    left_after d c q l h = elim (eqb_tells q p) [
      | inr n ↦ goes_as_before d c q l (visit_person g.stage at p after (door_number d c) q n.1) (λ s. inl (stands_still q d c n.1 s)) h
      | inl e ↦ elim (eqb_tells (door_number d c) at) [
        | inr n ↦ goes_as_before d c q l (visit_door g.stage at p after (door_number d c) q n.1)
            (λ s. absurd (let w = was_at d c (subst (λ (i : ℕ). StandsAt walker i d c) e.1 s) in n.1 (sym (same_number d c w.0 w.1)))) h
        | inl k ↦
            let column = (g.walks p v is).inside in
            let depth_same : v.door.depth ≡ d = number_depth v.door.depth v.door.column d c column l (sym k.1) in
            let column_same : v.door.column ≡ c = number_column v.door.depth v.door.column d c column l (sym k.1) in
            subst (λ (i : ℕ). Goes d c i) (sym e.1) (subst (λ (i : ℕ). Goes d i p) column_same (subst (λ (i : ℕ). Goes i v.door.column p) depth_same goes_own))
      ]
    ]

    here_after : (d c : ℕ) → reached' d c ≡ true → ((q : ℕ) × StandsAt walker' q d c) ⊎ ((q : ℕ) × (has_entered (stage' (door_number d c) q) ≡ true))
    here_after d c h = elim (with_door-cases g.reached v'.door.depth v'.door.column d c h) [
      | inl e ↦ inl (p, record { walk = v'; is = set_at-same walker p (Some v'); depth_is = sym e.0; column_is = sym e.1 })
      | inr old ↦ elim (g.here d c old) [
        | inl s ↦ elim (eqb_tells s.0 p) [
          | inr n ↦ inl (s.0, stands_still s.0 d c n.1 s.1)
          | inl e ↦
              let w = was_at d c (subst (λ (i : ℕ). StandsAt walker i d c) e.1 s.1) in
              inr (p, subst (λ (i : ℕ). has_entered (stage' i p) ≡ true) (same_number d c w.0 w.1) (ap has_entered (visit_own g.stage at p after) ∙ entered_after p v.visitor.stage (x_of at) (y_of at)))
        ]
        | inr e ↦ inr (e.0, entered_still (door_number d c) e.0 e.1)
      ]
    ]

    walks_after : (q : ℕ) (u : Walker) → walker' q ≡ Some u → IsWalkOf stage' reached' q u
    walks_after q u = set_at-cases walker p (Some v') (λ o. o ≡ Some u → IsWalkOf stage' reached' q u) q
        (λ e h. let own : v' ≡ u = cc in subst (λ (w : Walker). IsWalkOf stage' reached' q w) own (rw e walk))
        (λ n h. let old = g.walks q u h in record {
          identity = old.identity;
          x = old.x;
          y = old.y;
          inside = old.inside;
          here = visit_person g.stage at p after (door_number u.door.depth u.door.column) q n ∙ old.here;
          arrived = with_door-keeps g.reached v'.door.depth v'.door.column u.door.depth u.door.column old.arrived;
          not_right = old.not_right;
          not_down = old.not_down;
          below = λ d c k m. visit_person g.stage at p after (door_number d c) q n ∙ old.below d c k m;
        })

    pub stepped : DoorsAgree (suc b) b (set_at x_of at (x_after p v.visitor.stage (x_of at))) (set_at y_of at (y_after v.visitor.stage (y_of at))) walker'
    stepped = record {
      stage = stage';
      reached = reached';
      identities = g.identities;
      many = g.many;
      listed = λ q u. set_at-cases walker p (Some v') (λ o. o ≡ Some u → (i : ℕ) × (i < length g.identities) × (get_or g.identities i 0 ≡ q)) q (λ e _. let old = g.listed p v is in (old.0, old.1, old.2 ∙ sym e)) (λ _ h. g.listed q u h);
      nobody = set_at-other walker p (Some v') 0 (λ e. absurd (let k : Some v ≡ None = sym is ∙ ap walker (sym e) ∙ g.nobody in cc)) ∙ g.nobody;
      walks = walks_after;
      absent = λ q. set_at-cases walker p (Some v') (λ o. o ≡ None → (k : ℕ) → stage' k q ≡ Outside) q (λ _ h. absurd (cc)) (λ n h k. visit_person g.stage at p after k q n ∙ g.absent q h k);
      doors = doors_after;
      entered = in_x_after;
      left = left_after;
      here = here_after;
      comes = λ d c l h. elim (with_door-cases g.reached v'.door.depth v'.door.column (suc d) c h) [
        | inl e ↦ let f = comes d (sym e.0) in (f.0, f.1, with_door-keeps g.reached v'.door.depth v'.door.column d f.0 f.2)
        | inr old ↦ let f = g.comes d c l old in (f.0, f.1, with_door-keeps g.reached v'.door.depth v'.door.column d f.0 f.2)
      ];
      inside = λ d c h. elim (with_door-cases g.reached v'.door.depth v'.door.column d c h) [
        | inl e ↦ let k = walk.inside in omega arith
        | inr old ↦ g.inside d c old
      ];
      within = λ d c h. elim (with_door-cases g.reached v'.door.depth v'.door.column d c h) [
        | inl e ↦ omega arith
        | inr old ↦ let k = g.within d c old in omega arith
      ];
      root = λ some. with_door-keeps g.reached v'.door.depth v'.door.column 0 0 (g.root some);
    }

module _ (b : ℕ) (x_of y_of : ℕ → ℕ) (walker : ℕ → Option Walker) (g : DoorsAgree b b x_of y_of walker) (p : ℕ) (v : Walker) (is : walker p ≡ Some v) where
  abbrev door : ℕ
  door = number_of v.door

  abbrev next_stage : VisitStage
  next_stage = stage_after p v.visitor.stage (x_of door) (y_of door)

  deeper_door : (d c : ℕ) → c ≤ d → v.door.depth < d → door_number d c ≢ door
  deeper_door d c l m e = let same = number_depth d c v.door.depth v.door.column l (g.walks p v is).inside e in omega arith

  -- a visit that goes on, or stops
  abbrev staying : Walker
  staying = visit_on v next_stage

  pub stayed : went_right next_stage ≡ false → went_down next_stage ≡ false → DoorsAgree b b (set_at x_of door (x_after p v.visitor.stage (x_of door))) (set_at y_of door (y_after v.visitor.stage (y_of door))) (set_at walker p (Some staying))
  stayed r d =
      let old = g.walks p v is in
      let deep = g.within v.door.depth v.door.column old.arrived in
      let new = stepped b x_of y_of walker g p v is staying
      (record {
        identity = old.identity;
        x = old.x;
        y = old.y;
        inside = old.inside;
        here = visit_own g.stage door p next_stage;
        arrived = with_door-has g.reached v.door.depth v.door.column;
        not_right = r;
        not_down = d;
        below = λ e f l m. visit_door g.stage door p next_stage (door_number e f) p (deeper_door e f l m) ∙ old.below e f l m;
      })
      (inl (record { walk = staying; is = set_at-same walker p (Some staying); depth_is = refl; column_is = refl }))
      (λ e same. let c : v.door.column ≤ suc e = (let k = old.inside in omega arith) in g.comes e v.door.column c (subst (λ (i : ℕ). g.reached i v.door.column ≡ true) same old.arrived))
      (omega arith) in
      tightened (suc b) b (set_at x_of door (x_after p v.visitor.stage (x_of door))) (set_at y_of door (y_after v.visitor.stage (y_of door))) (set_at walker p (Some staying)) new (omega arith)

  -- a visit that leads on, to the next diagonal
  pub moved_on : (column : ℕ) → ((went_right next_stage ≡ true) × (column ≡ v.door.column)) ⊎ ((went_down next_stage ≡ true) × (column ≡ suc v.door.column)) → DoorsAgree b b (set_at x_of door (x_after p v.visitor.stage (x_of door))) (set_at y_of door (y_after v.visitor.stage (y_of door))) (set_at walker p (Some (walker_at p (door_at (suc v.door.depth) column))))
  moved_on column way =
      let old = g.walks p v is in
      let deep = g.within v.door.depth v.door.column old.arrived in
      let inside : column ≤ suc v.door.depth = (let k = old.inside in elim way [ inl r ↦ let e = r.1 in omega arith | inr d ↦ let e = d.1 in omega arith ]) in
      let new = stepped b x_of y_of walker g p v is (walker_at p (door_at (suc v.door.depth) column))
      (record {
        identity = refl;
        x = refl;
        y = refl;
        inside = inside;
        here = visit_door g.stage door p next_stage (door_number (suc v.door.depth) column) p (deeper_door (suc v.door.depth) column inside (omega arith)) ∙ old.below (suc v.door.depth) column inside (omega arith);
        arrived = with_door-has g.reached (suc v.door.depth) column;
        not_right = refl;
        not_down = refl;
        below = λ e f l m. visit_door g.stage door p next_stage (door_number e f) p (deeper_door e f l (omega arith)) ∙ old.below e f l (omega arith);
      })
      (inr (elim way [
        | inl r ↦ inl (r.0, subst (λ (i : ℕ). with_door g.reached (suc v.door.depth) column (suc v.door.depth) i ≡ true) r.1 (with_door-has g.reached (suc v.door.depth) column))
        | inr d ↦ inr (d.0, subst (λ (i : ℕ). with_door g.reached (suc v.door.depth) column (suc v.door.depth) i ≡ true) d.1 (with_door-has g.reached (suc v.door.depth) column))
      ]))
      (λ e same. let depth : v.door.depth ≡ e = omega arith in (v.door.column, (let k = old.inside in omega arith), subst (λ (i : ℕ). g.reached i v.door.column ≡ true) depth old.arrived))
      (omega arith) in
      tightened (suc b) b (set_at x_of door (x_after p v.visitor.stage (x_of door))) (set_at y_of door (y_after v.visitor.stage (y_of door))) (set_at walker p (Some (walker_at p (door_at (suc v.door.depth) column)))) new (omega arith)

-- one more participant, before the first door
pub joined : (b : ℕ) (x_of y_of : ℕ → ℕ) (walker : ℕ → Option Walker) → DoorsAgree b b x_of y_of walker → (p : ℕ) → p ≢ 0 → walker p ≡ None → DoorsAgree (suc b) (suc b) x_of y_of (set_at walker p (Some (walk_of p)))
joined b x_of y_of walker g p some absent =
    let stands : (q d c : ℕ) → StandsAt walker q d c → StandsAt (set_at walker p (Some (walk_of p))) q d c = λ q d c s.
    record { walk = s.walk; is = set_at-other walker p (Some (walk_of p)) q (λ e. absurd (let k : Some s.walk ≡ None = sym s.is ∙ ap walker e ∙ absent in cc)) ∙ s.is; depth_is = s.depth_is; column_is = s.column_is } in
    record {
      stage = g.stage;
      reached = with_door g.reached 0 0;
      identities = p ∷ g.identities;
      many = ap suc g.many;
      listed = λ q u. set_at-cases walker p (Some (walk_of p)) (λ o. o ≡ Some u → (i : ℕ) × (i < length (p ∷ g.identities)) × (get_or (p ∷ g.identities) i 0 ≡ q)) q
          (λ e _. (zero, omega arith, sym e)) (λ _ h. let old = g.listed q u h in (suc old.0, (let l = old.1 in omega arith), old.2));
      nobody = set_at-other walker p (Some (walk_of p)) 0 (λ e. some (sym e)) ∙ g.nobody;
      walks = λ q u. set_at-cases walker p (Some (walk_of p)) (λ o. o ≡ Some u → IsWalkOf g.stage (with_door g.reached 0 0) q u) q
          (λ e h. let own : walk_of p ≡ u = cc in subst (λ (w : Walker). IsWalkOf g.stage (with_door g.reached 0 0) q w) own (record {
            identity = sym e;
            x = refl;
            y = refl;
            inside = omega arith;
            here = ap (g.stage (door_number 0 0)) e ∙ g.absent p absent (door_number 0 0);
            arrived = with_door-has g.reached 0 0;
            not_right = refl;
            not_down = refl;
            below = λ d c l m. ap (g.stage (door_number d c)) e ∙ g.absent p absent (door_number d c);
          }))
          (λ _ h. let old = g.walks q u h in record { identity = old.identity; x = old.x; y = old.y; inside = old.inside; here = old.here; arrived = with_door-keeps g.reached 0 0 u.door.depth u.door.column old.arrived; not_right = old.not_right; not_down = old.not_down; below = old.below });
      absent = λ q. set_at-cases walker p (Some (walk_of p)) (λ o. o ≡ None → (k : ℕ) → g.stage k q ≡ Outside) q (λ _ h. absurd (cc)) (λ _ h. g.absent q h);
      doors = g.doors;
      entered = g.entered;
      left = λ d c q l h. elim (g.left d c q l h) [ inl s ↦ inl (stands q d c s) | inr o ↦ inr (elim o [ inl r ↦ inl (r.0, with_door-keeps g.reached 0 0 (suc d) c r.1) | inr r ↦ inr (r.0, with_door-keeps g.reached 0 0 (suc d) (suc c) r.1) ]) ];
      here = λ d c h. elim (with_door-cases g.reached 0 0 d c h) [
        | inl e ↦ inl (p, record { walk = walk_of p; is = set_at-same walker p (Some (walk_of p)); depth_is = sym e.0; column_is = sym e.1 })
        | inr old ↦ elim (g.here d c old) [ inl s ↦ inl (s.0, stands s.0 d c s.1) | inr e ↦ inr e ]
      ];
      comes = λ d c l h. elim (with_door-cases g.reached 0 0 (suc d) c h) [ inl e ↦ absurd (let z = e.0 in omega arith) | inr old ↦ let f = g.comes d c l old in (f.0, f.1, with_door-keeps g.reached 0 0 d f.0 f.2) ];
      inside = λ d c h. elim (with_door-cases g.reached 0 0 d c h) [ inl e ↦ let y = e.1 in omega arith | inr old ↦ g.inside d c old ];
      within = λ d c h. elim (with_door-cases g.reached 0 0 d c h) [ inl e ↦ let z = e.0 in omega arith | inr old ↦ let k = g.within d c old in omega arith ];
      root = λ _. with_door-has g.reached 0 0;
    }

-- a grid that no one has entered
pub agree_new : (x_of y_of : ℕ → ℕ) → ((k : ℕ) → x_of k ≡ 0) → ((k : ℕ) → y_of k ≡ 0) → DoorsAgree 0 0 x_of y_of (λ p. None)
agree_new x_of y_of unnamed clear = record {
  stage = λ k p. Outside;
  reached = λ d c. false;
  identities = [];
  many = refl;
  listed = λ p u h. absurd (cc);
  nobody = refl;
  walks = λ p u h. absurd (cc);
  absent = λ p h k. refl;
  doors = λ k. rw (clear k) (lawful_new (x_of k));
  entered = λ k some. absurd (some (unnamed k));
  left = λ d c p l h. absurd (cc);
  here = λ d c h. absurd (cc);
  comes = λ d c l h. absurd (cc);
  inside = λ d c h. absurd (cc);
  within = λ d c h. absurd (cc);
  root = λ some. absurd (omega arith);
}
