-- a state in which one seat has another spot at its own level, and another program
use Rattle.std.proofs.Common.{◌≡◌, ◌≢◌, ℕ, suc, ◌<◌, ◌≤◌, inl, inr, Bool, true, false, ◌&&◌, Option, Some, None, refl, sym, ap, subst, ◌∙◌, arith, if◌then◌else◌}
use Rattle.std.proofs.Math.Path.{fun_ext}
use Rattle.std.proofs.lemmas.Bool.{cases_Bool}
use Rattle.std.proofs.lemmas.Bool.Decides.{eqb_tells}
use Rattle.model_steps.specs.SetAt.{set_at}
use Rattle.model_steps.specs.Count.{count_to}
use Rattle.model_steps.proofs.cited.CountLemmas.{count_to-mono}
use Rattle.model_steps.proofs.cited.SetAtLemmas.{set_at-other, set_at-cases}
use Rattle.model_recursion.specs.Program.{Phase, phase_of}
use Rattle.model_recursion.specs.Spot.{Spot, has_written, was_full, has_turned, is_in}
use Rattle.model_recursion.specs.Spot.Fate.{Absent, Reading, Named}
use Rattle.model_recursion.specs.Ranges.{IsTurn}
use Rattle.model_recursion.specs.Levels.{Level, CameFrom}
use Rattle.model_recursion.specs.Invariant.{rank, is_up_to, members_of, HasGreater, HasRead, StandsAt, Stands, Stays, IsConsistent}
use Rattle.model_recursion.specs.declared.namer.Survey.{Survey}
use Rattle.model_recursion.specs.declared.namer.Doing.{Doing}
use Rattle.model_recursion.specs.Program.Phase.{Entering, Collecting, Over}
use Rattle.model_recursion.specs.declared.namer.Namer.{Namer}
use Rattle.model_recursion.proofs.Levelling.{in_tells}
use Rattle.model_recursion.proofs.Putting.{put, put_level, put_person, put_cases, put_other}

-- more members
pub both_more : (a b c : Bool) → (a ≡ true → b ≡ true) → a && c ≡ true → b && c ≡ true
both_more true b c h k = rw (h refl) k
both_more false b c h k = absurd (cc)

pub greater_more : (m : ℕ) (ids : ℕ → ℕ) (there more : ℕ → Bool) (p : ℕ) → ((q : ℕ) → there q ≡ true → more q ≡ true) → HasGreater m ids there p → HasGreater m ids more p
greater_more m ids there more p grows h = record { seat = h.seat; low = h.low; inside = grows h.seat h.inside; more = h.more }

pub read_more : (m : ℕ) (ids : ℕ → ℕ) (there more : ℕ → Bool) (p : ℕ) (c : Survey) → ((q : ℕ) → there q ≡ true → more q ≡ true) → HasRead m ids there p c → HasRead m ids more p c
read_more m ids there more p c grows h = record {
  from = h.from;
  to = h.to;
  low = let low = h.low in let mono = count_to-mono there more c.at (λ q _. grows q) in omega arith;
  under = λ g. let under = h.under g in let mono = count_to-mono (λ q. there q && is_up_to ids p q) (λ q. more q && is_up_to ids p q) c.at (λ q _. both_more (there q) (more q) (is_up_to ids p q) (grows q)) in omega arith;
  over = λ g. greater_more m ids there more p grows (h.over g);
  own = h.own;
}

pub stands_more : (m : ℕ) (ids : ℕ → ℕ) (there more : ℕ → Bool) (s : Spot) (u : Namer) (phase : Phase) → ((q : ℕ) → there q ≡ true → more q ≡ true) → StandsAt m ids there s u phase → StandsAt m ids more s u phase
stands_more m ids there more s u Entering grows h = h
stands_more m ids there more s u (Collecting c) grows h = (h.0, h.1, read_more m ids there more u.seat c grows h.2)
stands_more m ids there more s u (Over name) grows h = h

-- a seat stands on at its level, whatever it does there next, where its spots at the other levels are as they were
pub stands_on : (m : ℕ) (ids : ℕ → ℕ) (rows rows' : ℕ → Level) (p : ℕ) (u : Namer) (doing : Doing) (survey : Survey) (name : ℕ) → Stands m ids rows p u → ((y : ℕ) → y ≢ u.level → rows' y p ≡ rows y p)
    → StandsAt m ids (members_of rows' u.level u.first) (rows' u.level p) (record u { doing = doing; survey = survey; name = name }) (phase_of (record u { doing = doing; survey = survey; name = name }))
    → Stands m ids rows' p (record u { doing = doing; survey = survey; name = name })
stands_on m ids rows rows' p u doing survey name st same at = record {
  own = st.own;
  some = st.some;
  few = st.few;
  most = st.most;
  id_is = st.id_is;
  some_id = st.some_id;
  from = st.from;
  to = st.to;
  lower = λ y l. ap (λ (t : Spot). t.fate) (same y (λ e. omega arith)) ∙ st.lower y l;
  came = λ l. subst (λ (t : Spot). CameFrom u.level t (record { fate = Reading; first = u.first })) (sym (same (suc u.level) (λ e. omega arith))) (st.came l);
  top = st.top;
  at = at;
}

module _ (m : ℕ) (ids : ℕ → ℕ) (word : ℕ → ℕ → ℕ → ℕ) (who : ℕ → Option Namer) (g : IsConsistent m ids word who) (p : ℕ) (u : Namer) (is : who p ≡ Some u) (s : Spot) (next : Namer) (word' : ℕ → ℕ → ℕ → ℕ) where
  abbrev x : ℕ
  x = u.level

  abbrev pub rows' : ℕ → Level
  rows' = put g.rows u.level p s

  abbrev pub who' : ℕ → Option Namer
  who' = set_at who p (Some next)

  module _ (written : has_written s.fate ≡ true) (first : s.first ≡ u.first) (same : (f : ℕ) → is_in f (g.rows u.level p) ≡ true → is_in f s ≡ true) where
    -- who is there stays there
    pub grows : (y f q : ℕ) → members_of g.rows y f q ≡ true → members_of rows' y f q ≡ true
    grows y f q = put_cases g.rows u.level p s (λ t. is_in f (g.rows y q) ≡ true → is_in f t ≡ true) y q
        (λ e d h. same f (subst (λ (i : ℕ). is_in f (g.rows i p) ≡ true) e (subst (λ (i : ℕ). is_in f (g.rows y i) ≡ true) d h)))
        (λ _ h. h)

    pub more : (y f n : ℕ) → count_to (members_of g.rows y f) n ≤ count_to (members_of rows' y f) n
    more y f n = count_to-mono (members_of g.rows y f) (members_of rows' y f) n (λ q _. grows y f q)

    -- and nobody else is in another instance
    elsewhere : (y f : ℕ) → (y ≡ u.level → f ≡ s.first → ⊥) → members_of rows' y f ≡ members_of g.rows y f
    elsewhere y f other = fun_ext (λ q. put_cases g.rows u.level p s (λ t. is_in f t ≡ is_in f (g.rows y q)) y q
        (λ e d.
        let not_new : is_in f s ≡ false = elim (cases_Bool (is_in f s)) [ inl h ↦ absurd (other e (sym (in_tells f s h).1)) | inr h ↦ h ] in
        let not_old : is_in f (g.rows y q) ≡ false = elim (cases_Bool (is_in f (g.rows y q))) [
          | inl h ↦ absurd (let old : is_in f (g.rows u.level p) ≡ true = subst (λ (i : ℕ). is_in f (g.rows i p) ≡ true) e (subst (λ (i : ℕ). is_in f (g.rows y i) ≡ true) d h) in let new = same f old in cc)
          | inr h ↦ h
        ] in
        not_new ∙ sym not_old)
        (λ _. refl))

    still : (y f q : ℕ) → (y ≡ u.level → f ≡ s.first → ⊥) → members_of g.rows y f q ≡ true → rows' y q ≡ g.rows y q
    still y f q other h = put_other g.rows u.level p s y q (λ e d.
        let old : is_in f (g.rows u.level p) ≡ true = subst (λ (i : ℕ). is_in f (g.rows i p) ≡ true) e (subst (λ (i : ℕ). is_in f (g.rows y i) ≡ true) d h) in
        other e (sym (in_tells f s (same f old)).1))

    -- who stays at an instance, other than p
    pub stays_still : (y f : ℕ) (w : Stays m g.rows who y f) → (count_to (members_of rows' y f) ≡ count_to (members_of g.rows y f)) → w.seat ≢ p → Stays m rows' who' y f
    stays_still y f w as_many n = record {
      seat = w.seat;
      low = w.low;
      inside = grows y f w.seat w.inside;
      so = elim w.so [
        | inl full ↦ inl (ap (λ (t : Spot). was_full t.fate) (put_person g.rows u.level p s y w.seat n) ∙ full)
        | inr r ↦ inr (r.0, r.1, set_at-other who p (Some next) w.seat n ∙ r.2, r.3, r.4, r.5, let all = r.6 in let even = ap (λ (h : ℕ → ℕ). h r.1.at) as_many in omega arith)
      ];
    }

    stays_elsewhere : (y f : ℕ) → (y ≡ u.level → f ≡ s.first → ⊥) → Stays m g.rows who y f → Stays m rows' who' y f
    stays_elsewhere y f other w = elim (eqb_tells w.seat p) [
      | inr n ↦ stays_still y f w (ap count_to (elsewhere y f other)) n.1
      | inl e ↦ record {
        seat = w.seat;
        low = w.low;
        inside = grows y f w.seat w.inside;
        so = elim w.so [
          | inl full ↦ inl (ap (λ (t : Spot). was_full t.fate) (still y f w.seat other w.inside) ∙ full)
          | inr r ↦ absurd (
              let own : u ≡ r.0 = (let k : Some u ≡ Some r.0 = sym is ∙ ap who (sym e.1) ∙ r.2 in cc) in
              other (sym r.3 ∙ ap (λ (v : Namer). v.level) (sym own)) (sym r.4 ∙ ap (λ (v : Namer). v.first) (sym own) ∙ sym first))
        ];
      }
    ]

    module _ (words : (y f q : ℕ) → word' y f q ≡ (if members_of rows' y f q then ids q else 0)) (stands : Stands m ids rows' p next)
        (full : was_full s.fate ≡ true → u.level ≤ count_to (members_of rows' u.level s.first) (suc m))
        (turned : has_turned s.fate ≡ true → HasGreater m ids (members_of rows' u.level s.first) p)
        (named : s.fate ≡ Named → (q : ℕ) → members_of rows' u.level s.first q ≡ true → rank ids q ≤ rank ids p)
        (joins : (q : ℕ) → q ≢ p → (g.rows u.level q).fate ≡ Named → (g.rows u.level q).first ≡ s.first → rank ids p ≤ rank ids q)
        (stays : u.level ≤ count_to (members_of rows' u.level s.first) (suc m) → Stays m rows' who' u.level s.first) where
      abbrev Full : ℕ → Spot → Type 0
      Full k t = was_full t.fate ≡ true → suc k ≤ count_to (members_of rows' (suc k) t.first) (suc m)

      full_now : (k q : ℕ) → k < m → Full k (rows' (suc k) q)
      full_now k q l = put_cases g.rows u.level p s (Full k) (suc k) q
          (λ e d h. subst (λ (y : ℕ). y ≤ count_to (members_of rows' y s.first) (suc m)) (sym e) (full h))
          (λ _ h. let old = g.full k q l h in let grown = more (suc k) (g.rows (suc k) q).first (suc m) in omega arith)

      stays_now : (k f : ℕ) → k < m → suc k ≤ count_to (members_of rows' (suc k) f) (suc m) → Stays m rows' who' (suc k) f
      stays_now k f l many = elim (eqb_tells (suc k) u.level) [
        | inl e ↦ elim (eqb_tells f s.first) [
          | inl d ↦ subst (λ (y : ℕ). Stays m rows' who' y f) (sym e.1) (subst (λ (i : ℕ). Stays m rows' who' u.level i) (sym d.1)
              (stays (subst (λ (y : ℕ). y ≤ count_to (members_of rows' y s.first) (suc m)) e.1 (subst (λ (i : ℕ). suc k ≤ count_to (members_of rows' (suc k) i) (suc m)) d.1 many))))
          | inr d ↦ stays_apart (λ _ b. d.1 b)
        ]
        | inr e ↦ stays_apart (λ a _. e.1 a)
      ]
        where
          stays_apart : (suc k ≡ u.level → f ≡ s.first → ⊥) → Stays m rows' who' (suc k) f
          stays_apart other = stays_elsewhere (suc k) f other (g.stays k f l (subst (λ (h : ℕ → Bool). suc k ≤ count_to h (suc m)) (elsewhere (suc k) f other) many))

      abbrev Turned_at : ℕ → ℕ → Spot → Type 0
      Turned_at k q t = has_turned t.fate ≡ true → HasGreater m ids (members_of rows' (suc k) t.first) q

      turned_now : (k q : ℕ) → k < m → Turned_at k q (rows' (suc k) q)
      turned_now k q l = put_cases g.rows u.level p s (Turned_at k q) (suc k) q
          (λ e d h. subst (λ (y : ℕ). HasGreater m ids (members_of rows' y s.first) q) (sym e) (subst (λ (i : ℕ). HasGreater m ids (members_of rows' u.level s.first) i) (sym d) (turned h)))
          (λ _ h. greater_more m ids (members_of g.rows (suc k) (g.rows (suc k) q).first) (members_of rows' (suc k) (g.rows (suc k) q).first) q (grows (suc k) (g.rows (suc k) q).first) (g.turned k q l h))

      named_now : (k q r : ℕ) → k < m → (rows' (suc k) q).fate ≡ Named → members_of rows' (suc k) (rows' (suc k) q).first r ≡ true → rank ids r ≤ rank ids q
      named_now k q r l = put_cases g.rows u.level p s (λ t. t.fate ≡ Named → members_of rows' (suc k) t.first r ≡ true → rank ids r ≤ rank ids q) (suc k) q
          (λ e d h i. subst (λ (a : ℕ). rank ids r ≤ rank ids a) (sym d) (named h r (subst (λ (y : ℕ). members_of rows' y s.first r ≡ true) e i)))
          (λ n h. put_cases g.rows u.level p s (λ w. is_in (g.rows (suc k) q).first w ≡ true → rank ids r ≤ rank ids q) (suc k) r
          (λ e d i.
          let one : (g.rows u.level q).first ≡ s.first = ap (λ (y : ℕ). (g.rows y q).first) (sym e) ∙ sym (in_tells (g.rows (suc k) q).first s i).1 in
          let there : (g.rows u.level q).fate ≡ Named = ap (λ (y : ℕ). (g.rows y q).fate) (sym e) ∙ h in
          subst (λ (a : ℕ). rank ids a ≤ rank ids q) (sym d) (joins q (λ same. n e same) there one))
          (λ _ i. g.named k q r l h i))

      came_s : u.level < m → CameFrom u.level (g.rows (suc u.level) p) s
      came_s l = record { way = elim ((g.stands p u is).came l).way [ inl a ↦ inl (a.0, first ∙ a.1) | inr a ↦ inr (a.0, subst (λ (f : ℕ). IsTurn u.level (g.rows (suc u.level) p).first f) (sym first) a.1) ] }

      chain_now : (k q : ℕ) → k < m → has_written (rows' k q).fate ≡ true → CameFrom k (rows' (suc k) q) (rows' k q)
      chain_now k q l = put_cases g.rows u.level p s (λ t. has_written t.fate ≡ true → CameFrom k (rows' (suc k) q) t) k q
          (λ e d h.
          let above : rows' (suc k) q ≡ g.rows (suc k) q = put_level g.rows u.level p s (suc k) q (λ a. omega arith) in
          let here : CameFrom k (g.rows (suc k) q) s =
          subst (λ (y : ℕ). CameFrom y (g.rows (suc y) q) s) (sym e) (subst (λ (i : ℕ). CameFrom u.level (g.rows (suc u.level) i) s) (sym d) (came_s (subst (λ (y : ℕ). y < m) e l))) in
          subst (λ (t : Spot). CameFrom k t s) (sym above) here)
          (λ n h.
          let above : rows' (suc k) q ≡ g.rows (suc k) q = put_other g.rows u.level p s (suc k) q (λ e d.
          let below : (g.rows k p).fate ≡ Absent = (g.stands p u is).lower k (omega arith) in
          let gone : has_written (g.rows k q).fate ≡ false = ap (λ (i : ℕ). has_written (g.rows k i).fate) d ∙ ap has_written below in
          (let both : true ≡ false = sym h ∙ gone in cc)) in
          subst (λ (t : Spot). CameFrom k t (g.rows k q)) (sym above) (g.chain k q l h))

      top_now : (q : ℕ) → has_written (rows' m q).fate ≡ true → (rows' m q).first ≡ 1
      top_now q = put_cases g.rows u.level p s (λ t. has_written t.fate ≡ true → t.first ≡ 1) m q (λ e d h. first ∙ (g.stands p u is).top (sym e)) (λ _ h. g.top q h)

      stands_now : (q : ℕ) (v : Namer) → who' q ≡ Some v → Stands m ids rows' q v
      stands_now q v = set_at-cases who p (Some next) (λ o. o ≡ Some v → Stands m ids rows' q v) q
          (λ e h. let own : next ≡ v = cc in subst (λ (w : Namer). Stands m ids rows' q w) own (subst (λ (i : ℕ). Stands m ids rows' i next) (sym e) stands))
          (λ n h.
          let old = g.stands q v h in
          let spot : (y : ℕ) → rows' y q ≡ g.rows y q = (λ y. put_person g.rows u.level p s y q n) in
          stands_on m ids g.rows rows' q v v.doing v.survey v.name old (λ y _. spot y) (stands_more m ids (members_of g.rows v.level v.first) (members_of rows' v.level v.first) (rows' v.level q) v (phase_of v) (grows v.level v.first)
          (subst (λ (t : Spot). StandsAt m ids (members_of g.rows v.level v.first) t v (phase_of v)) (sym (spot v.level)) old.at)))

      pub moved : IsConsistent m ids word' who'
      moved = record {
        rows = rows';
        few = g.few;
        words = words;
        stands = stands_now;
        absent = λ q. set_at-cases who p (Some next) (λ o. o ≡ None → (y : ℕ) → (rows' y q).fate ≡ Absent) q (λ _ h. absurd (cc)) (λ n h y. ap (λ (t : Spot). t.fate) (put_person g.rows u.level p s y q n) ∙ g.absent q h y);
        full = full_now;
        stays = stays_now;
        turned = turned_now;
        named = named_now;
        chain = chain_now;
        top = top_now;
      }
