-- what a read keeps that decides how a seat leaves an instance
use Rattle.std.proofs.Common.{◌≡◌, ℕ, zero, suc, ◌+◌, ◌-◌, ◌*◌, ◌<◌, ◌≤◌, inl, inr, Bool, true, false, ◌&&◌, ◌==◌, nat_le, nat_lt, Option, Some, refl, sym, ap, subst, ◌∙◌, arith, if◌then◌else◌}
use Rattle.std.proofs.Math.Path.{fun_ext}
use Rattle.std.proofs.lemmas.Bool.{cases_Bool}
use Rattle.std.proofs.lemmas.Bool.Decides.{eqb_tells, leb_tells, nat_tests}
use Rattle.model_steps.specs.SetAt.{set_at}
use Rattle.model_steps.specs.Count.{count_to}
use Rattle.model_steps.proofs.cited.CountLemmas.{count_to-gain, count_to-longer}
use Rattle.model_recursion.specs.Spot.{Fate, Spot, has_written, was_full, has_turned, is_in}
use Rattle.model_recursion.specs.Spot.Fate.{Absent, Reading, Straight, Turned, Named}
use Rattle.model_recursion.specs.Ranges.{IsWithin, IsTurn, IsLast}
use Rattle.model_recursion.specs.Levels.{Level, CameFrom, size}
use Rattle.model_recursion.specs.Invariant.{rank, is_up_to, members_of, HasGreater, HasRead, Stands, Stays, IsConsistent}
use Rattle.model_recursion.specs.Program.{in_phase, came_to, turn_of, last_of, decided, surveyed, is_open, phase_of}
use Rattle.model_recursion.specs.Machine.{Words}
use Rattle.model_recursion.specs.declared.namer.Survey.{Survey}
use Rattle.model_recursion.specs.declared.namer.Doing.TheVariants.{Rests}
use Rattle.model_recursion.specs.Program.Phase.{Collecting, Over}
use Rattle.model_recursion.specs.declared.namer.Namer.{Namer}
use Rattle.model_recursion.proofs.Counting.{count_some, count_rest}
use Rattle.model_recursion.proofs.Levelling.{in_tells}
use Rattle.model_recursion.proofs.Putting.{put, put_own, put_level, put_cases}
use Rattle.model_recursion.proofs.cited.Facts.{few_at, names_at}
use Rattle.model_recursion.proofs.OneWord.{KnowsOf, knows, counts_all}
use Rattle.model_recursion.proofs.Moved.{stands_on, moved, stays_still}
use Rattle.model_recursion.proofs.Entered.{reading, read, inside, there_some, word_is, after}
use Rattle.model_recursion.proofs.Ranging.{turn_is, last_is}

in_as : (i : ℕ) (t : Spot) (a : Fate) (f : ℕ) → t.fate ≡ a → t.first ≡ f → is_in i t ≡ has_written a && (f == i)
in_as i t a f e d = rw (e, d) refl

level_is : (x : ℕ) → 1 ≤ x → (k : ℕ) × (x ≡ suc k)
level_is zero l = absurd (omega arith)
level_is (suc k) l = (k, refl)

module _ (m : ℕ) (ids : ℕ → ℕ) (word : Words) (who : ℕ → Option Namer) (g : IsConsistent m ids word who) (p : ℕ) (u : Namer) (is : who p ≡ Some u) (c : Survey) (reads : phase_of u ≡ Collecting c) (closed : is_open u (surveyed u c (word u.level u.first c.at)) ≡ false) where
  abbrev st : Stands m ids g.rows p u
  st = g.stands p u is

  abbrev there : ℕ → Bool
  there = members_of g.rows u.level u.first

  abbrev seen : Survey
  seen = after m ids word who g p u is c reads

  mine : there p ≡ true
  mine = inside m ids word who g p u is c reads

  abbrev first_read : HasRead m ids there p c
  first_read = read m ids word who g p u is c reads

  word_here : word u.level u.first c.at ≡ (if there c.at then ids c.at else 0)
  word_here = word_is m ids word who g p u is c reads

  known : KnowsOf m ids there p (suc c.at) seen.seen seen.greater
  known = knows m ids there p u c first_read g.few st.few st.own st.id_is st.some_id mine (there_some m ids word who g p u is c reads) (word u.level u.first c.at) word_here

  -- it has counted no more than there are
  known_low : seen.seen ≤ count_to there (suc m)
  known_low = let low = known.low in let to = first_read.to in let more = count_to-longer there (suc c.at) (suc m) (omega arith) in omega arith

  known_under : seen.greater ≡ false → seen.seen ≤ count_to (λ q. there q && is_up_to ids p q) (suc m)
  known_under h = let low = known.under h in let to = first_read.to in let more = count_to-longer (λ q. there q && is_up_to ids p q) (suc c.at) (suc m) (omega arith) in omega arith

  -- it would not be full if all the others had written
  not_full : seen.seen < u.level → seen.seen + (m - c.at) < u.level
  not_full less =
      let most = st.most in
      let low : nat_lt seen.seen u.level ≡ true = (grind (arith, nat_tests)) in
      let test : nat_le u.level (seen.seen + (u.most - c.at)) ≡ false = rw low at closed in
      grind (arith, nat_tests)

  few_here : count_to there (suc m) ≤ u.level
  few_here = few_at m ids word who g u.level u.first st.to

  module _ (fate : Fate) (w : has_written fate ≡ true) where
    abbrev s : Spot
    s = record { fate = fate; first = u.first }

    abbrev now : ℕ → Level
    now = put g.rows u.level p s

    even : (y f : ℕ) → members_of now y f ≡ members_of g.rows y f
    even y f = fun_ext (λ q. put_cases g.rows u.level p s (λ t. is_in f t ≡ is_in f (g.rows y q)) y q
        (λ e d.
        in_as f s fate u.first refl refl ∙ ap (λ (b : Bool). b && (u.first == f)) w ∙ sym (in_as f (g.rows u.level p) Reading u.first (reading m ids word who g p u is c reads).0 (reading m ids word who g p u is c reads).1)
        ∙ ap (λ (i : ℕ). is_in f (g.rows i p)) (sym e) ∙ ap (λ (i : ℕ). is_in f (g.rows y i)) (sym d))
        (λ _. refl))

    same : (f : ℕ) → is_in f (g.rows u.level p) ≡ true → is_in f s ≡ true
    same f h =
        let old = in_as f (g.rows u.level p) Reading u.first (reading m ids word who g p u is c reads).0 (reading m ids word who g p u is c reads).1 in
        ap (λ (b : Bool). b && (u.first == f)) w ∙ sym old ∙ h

    module _ (next : Namer) (stands : Stands m ids now p next) (full : was_full fate ≡ true → u.level ≤ seen.seen) (is_full : u.level ≤ seen.seen → was_full fate ≡ true)
        (turned : has_turned fate ≡ true → seen.greater ≡ true) (named : fate ≡ Named → (seen.greater ≡ false) × (u.level ≤ seen.seen)) where
      none_greater : fate ≡ Named → (q : ℕ) → members_of now u.level u.first q ≡ true → rank ids q ≤ rank ids p
      none_greater h q i = elim (leb_tells (rank ids q) (rank ids p)) [
        | inl l ↦ l.1
        | inr l ↦ absurd (
            let n = named h in
            let old : there q ≡ true = subst (λ (v : ℕ → Bool). v q ≡ true) (even u.level u.first) i in
            let out : (there q && is_up_to ids p q) ≡ false = (let t : is_up_to ids p q ≡ false = l.0 in rw (old, t) refl) in
            let under = known_under n.0 in
            let all = n.1 in
            let few = few_here in
            let q_low : q < suc m = low_of q old in
            let gain = count_to-gain (λ i. there i && is_up_to ids p i) there (suc m) q q_low out old (λ i _ h. first_true (there i) (is_up_to ids p i) h) in
            omega arith)
      ]
        where
          first_true : (a b : Bool) → a && b ≡ true → a ≡ true
          first_true true b h = refl
          first_true false b h = absurd (cc)

          low_of : (i : ℕ) → there i ≡ true → i < suc m
          low_of i h = let a = (Rattle.model_recursion.proofs.cited.Facts.are_seats m ids word who g u.level i (in_tells u.first (g.rows u.level i) h).0).1 in omega arith

      as_before : (P : (ℕ → Bool) → Type 0) → P there → P (members_of now u.level u.first)
      as_before P h = subst P (sym (even u.level u.first)) h

      stays_now : (k : ℕ) → u.level ≡ suc k → u.level ≤ count_to (members_of now u.level u.first) (suc m) → Stays m now (set_at who p (Some next)) u.level u.first
      stays_now k e many =
          let old_many : u.level ≤ count_to there (suc m) = subst (λ (v : ℕ → Bool). u.level ≤ count_to v (suc m)) (even u.level u.first) many in
          let old : Stays m g.rows who u.level u.first =
          subst (λ (y : ℕ). Stays m g.rows who y u.first) (sym e) (g.stays k u.first (let to = st.to in omega arith) (subst (λ (y : ℕ). y ≤ count_to (members_of g.rows y u.first) (suc m)) e old_many)) in
          elim (eqb_tells old.seat p) [
            | inr n ↦ stays_still m ids word who g p u is s next word w refl same u.level u.first old (ap count_to (even u.level u.first)) n.1
            | inl d ↦ record {
              seat = p;
              low = (let few = st.few in omega arith);
              inside = as_before (λ v. v p ≡ true) mine;
              so = inl (ap (λ (t : Spot). was_full t.fate) (put_own g.rows u.level p s) ∙ is_full (elim old.so [
                | inl over ↦ absurd (let a : was_full (g.rows u.level p).fate ≡ true = ap (λ (i : ℕ). was_full (g.rows u.level i).fate) (sym d.1) ∙ over in let b : was_full (g.rows u.level p).fate ≡ false = ap was_full (reading m ids word who g p u is c reads).0 in cc)
                | inr r ↦
                    let own : u ≡ r.0 = (let h : Some u ≡ Some r.0 = sym is ∙ ap who (sym d.1) ∙ r.2 in cc) in
                    let one : c ≡ r.1 = (let h : Collecting c ≡ Collecting r.1 = sym reads ∙ ap (λ (v : Namer). phase_of v) own ∙ r.5 in cc) in
                    let before : count_to there c.at ≤ c.seen = subst (λ (z : Survey). count_to there z.at ≤ z.seen) (sym one) r.6 in
                    let all = counts_all m ids there p u c first_read g.few st.few st.own st.id_is st.some_id mine (there_some m ids word who g p u is c reads) (word u.level u.first c.at) word_here before in
                    let to = first_read.to in
                    let rest = count_rest there (suc c.at) (suc m) (omega arith) in
                    elim (leb_tells u.level seen.seen) [ inl l ↦ l.1 | inr l ↦ absurd (let less = not_full l.1 in omega arith) ]
              ]));
            }
          ]

      pub left : IsConsistent m ids word (set_at who p (Some next))
      left =
          let k = level_is u.level st.from in
          moved m ids word who g p u is s next word w refl same
          (λ y f q. g.words y f q ∙ ap (λ (v : ℕ → Bool). if v q then ids q else 0) (sym (even y f)))
          stands
          (λ h. let f = full h in let low = known_low in as_before (λ v. u.level ≤ count_to v (suc m)) (omega arith))
          (λ h. as_before (λ v. HasGreater m ids v p) (known.over (turned h)))
          none_greater
          (λ q n h one.
          let at : (g.rows (suc k.0) q).fate ≡ Named = subst (λ (y : ℕ). (g.rows y q).fate ≡ Named) k.1 h in
          let here : members_of g.rows u.level (g.rows u.level q).first p ≡ true = subst (λ (f : ℕ). members_of g.rows u.level f p ≡ true) (sym one) mine in
          g.named k.0 q p (let to = st.to in let e = k.1 in omega arith) at (subst (λ (y : ℕ). members_of g.rows y (g.rows y q).first p ≡ true) k.1 here))
          (stays_now k.0 k.1)

  -- there is a greater one, so there are two
  two_there : seen.greater ≡ true → 2 ≤ u.level
  two_there h =
      let up = known.over h in
      let more = up.more in
      let low = up.low in
      let t : is_up_to ids p up.seat ≡ false = (grind (arith, nat_tests)) in
      let out : (there up.seat && is_up_to ids p up.seat) ≡ false = elim (there up.seat) as (λ b. (b && is_up_to ids p up.seat) ≡ false) [ true ↦ t | false ↦ refl ] in
      let own : is_up_to ids p p ≡ true = (grind (arith, nat_tests)) in
      let in_ : (there p && is_up_to ids p p) ≡ true = rw (mine, own) refl in
      let gain = count_to-gain (λ i. there i && is_up_to ids p i) there (suc m) up.seat low out up.inside (λ i _ k. first_of_both (there i) (is_up_to ids p i) k) in
      let one = count_some (λ i. there i && is_up_to ids p i) (suc m) p (let few = st.few in omega arith) in_ in
      let few = few_here in
      omega arith
    where
      first_of_both : (a b : Bool) → a && b ≡ true → a ≡ true
      first_of_both true b h = refl
      first_of_both false b h = absurd (cc)

  -- names in reach
  in_reach : (n : ℕ) → IsWithin u.first (count_to there (suc m)) n → (1 ≤ n) × (n + 1 ≤ 2 * m)
  unfolding size
  in_reach n v = names_at m ids word who g u.level p n st.to
      (record { here = ap has_written (reading m ids word who g p u is c reads).0; within = subst (λ (f : ℕ). IsWithin f (count_to (members_of g.rows u.level f) (suc m)) n) (sym (reading m ids word who g p u is c reads).1) v })

  lower_still : (fate : Fate) (y : ℕ) → y < u.level → (put g.rows u.level p (record { fate = fate; first = u.first }) y p).fate ≡ Absent
  lower_still fate y l = ap (λ (t : Spot). t.fate) (put_level g.rows u.level p (record { fate = fate; first = u.first }) y p (λ e. omega arith)) ∙ st.lower y l

  -- it goes on to the level below
  goes_on : (fate : Fate) (first : ℕ) → 2 ≤ u.level → ((k : ℕ) → u.level ≡ suc k → CameFrom k (record { fate = fate; first = u.first }) (record { fate = Reading; first = first })) → Stands m ids (put g.rows u.level p (record { fate = fate; first = u.first })) p (came_to u first)
  goes_on fate first deep came =
      let to = st.to in
      let back : suc (u.level - 1) ≡ u.level = omega arith in
      record {
        own = st.own;
        some = st.some;
        few = st.few;
        most = st.most;
        id_is = st.id_is;
        some_id = st.some_id;
        from = omega arith;
        to = omega arith;
        lower = λ y l. lower_still fate y (omega arith);
        came = λ l. subst (λ (t : Spot). CameFrom (u.level - 1) t (record { fate = Reading; first = first })) (sym (ap (λ (y : ℕ). put g.rows u.level p (record { fate = fate; first = u.first }) y p) back ∙ put_own g.rows u.level p (record { fate = fate; first = u.first }))) (came (u.level - 1) (sym back));
        top = λ e. absurd (omega arith);
        at = lower_still fate (u.level - 1) (omega arith);
      }

  pub decides : IsConsistent m ids word (set_at who p (Some (decided u seen)))
  decides = elim (leb_tells u.level seen.seen) [
    | inr l ↦
        let less : nat_lt seen.seen u.level ≡ true = (let n = l.1 in grind (arith, nat_tests)) in
        let n = l.1 in
        let open_ = not_full n in
        let deep : 2 ≤ u.level = elim (leb_tells (suc p) (suc c.at)) [ inl k ↦ (let some = known.own k.1 in omega arith) | inr k ↦ (let far = k.1 in let few = st.few in omega arith) ] in
        rw less (left Straight refl (came_to u u.first) (goes_on Straight u.first deep (λ k e. record { way = inl (refl, refl) })) (λ h. absurd (cc)) (λ h. absurd (omega arith)) (λ h. absurd (cc)) (λ h. absurd (cc)))
    | inl l ↦
        let full = l.1 in
        let not_less : nat_lt seen.seen u.level ≡ false = (grind (arith, nat_tests)) in
        let low = known_low in
        let k = level_is u.level st.from in
        let level = k.1 in
        elim (cases_Bool seen.greater) [
          | inl g_is ↦
              let deep = two_there g_is in
              rw (not_less, g_is) (left Turned refl (came_to u (turn_of u.level u.first))
              (goes_on Turned (turn_of u.level u.first) deep (λ j e. record { way = inr (refl, subst (λ (y : ℕ). IsTurn j u.first (turn_of y u.first)) (sym e) (turn_is j u.first (count_to there (suc m)) m g.few (omega arith) in_reach (omega arith))) }))
              (λ _. full) (λ _. refl) (λ _. g_is) (λ h. absurd (cc)))
          | inr g_is ↦
              rw (not_less, g_is) (left Named refl (in_phase u (Over (last_of u.level u.first)))
              (stands_on m ids g.rows (put g.rows u.level p (record { fate = Named; first = u.first })) p u Rests u.survey (last_of u.level u.first) st (λ y n. put_level g.rows u.level p (record { fate = Named; first = u.first }) y p n) (
                ap (λ (t : Spot). t.fate) (put_own g.rows u.level p (record { fate = Named; first = u.first })),
                ap (λ (t : Spot). t.first) (put_own g.rows u.level p (record { fate = Named; first = u.first })),
                λ j e. subst (λ (y : ℕ). IsLast j u.first (last_of y u.first)) (sym e) (last_is j u.first (count_to there (suc m)) m g.few (omega arith) in_reach),
              ))
              (λ _. full) (λ _. refl) (λ h. absurd (cc)) (λ _. (g_is, full)))
        ]
  ]
