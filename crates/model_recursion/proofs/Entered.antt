-- what a beginning, a write, and a read that is not the last keep
use Rattle.std.proofs.Common.{◌≡◌, ◌≢◌, ℕ, zero, suc, ◌+◌, ◌<◌, ◌≤◌, ◌⊎◌, inl, inr, Bool, true, false, min, Option, Some, None, refl, sym, ap, subst, ◌∙◌, arith, if◌then◌else◌}
use Rattle.std.proofs.lemmas.Bool.{cases_Bool}
use Rattle.std.proofs.lemmas.Bool.Decides.{eqb_tells}
use Rattle.model_steps.specs.SetAt.{set_at}
use Rattle.model_steps.specs.Count.{count_to}
use Rattle.model_steps.proofs.cited.CountLemmas.{count_to-gain}
use Rattle.model_steps.proofs.cited.SetAtLemmas.{set_at-same, set_at-other, set_at-cases}
use Rattle.model_recursion.specs.Spot.{Spot, has_written, was_full, is_in}
use Rattle.model_recursion.specs.Spot.Fate.{Absent, Reading, Named}
use Rattle.model_recursion.specs.Levels.{Level, CameFrom, IsSplit, size}
use Rattle.model_recursion.specs.Invariant.{rank, members_of, HasRead, StandsAt, Stands, Stays, IsConsistent}
use Rattle.model_recursion.specs.Program.{namer_of, in_phase, first_survey, surveyed, read_next, cell_at, Phase, phase_of}
use Rattle.model_recursion.specs.Machine.{Words, with_word}
use Rattle.model_recursion.specs.declared.namer.Survey.{Survey}
use Rattle.model_recursion.specs.declared.namer.Doing.TheVariants.{Reads}
use Rattle.model_recursion.specs.Program.Phase.{Entering, Collecting}
use Rattle.model_recursion.specs.declared.namer.Namer.{Namer}
use Rattle.model_recursion.proofs.Levelling.{in_tells, in_is}
use Rattle.model_recursion.proofs.Putting.{put, put_own, put_level, put_person, put_cases}
use Rattle.model_recursion.proofs.cited.Facts.{AreSeats, are_seats, some_ids, nobody_at_0, split_for}
use Rattle.model_recursion.proofs.OneWord.{reads_on, counts_all}
use Rattle.model_recursion.proofs.Moved.{stands_on, moved, grows}

module _ (m : ℕ) (ids : ℕ → ℕ) (word : Words) (who : ℕ → Option Namer) (g : IsConsistent m ids word who) (p : ℕ) where
  -- who stays is another, or stays by the same
  stays_after : (next : Namer) (y f : ℕ) (w : Stays m g.rows who y f) → (w.seat ≡ p → (was_full (g.rows y w.seat).fate ≡ true) ⊎ ((v : Namer) × (c : Survey) × (Some next ≡ Some v) × (v.level ≡ y) × (v.first ≡ f) × (phase_of v ≡ Collecting c) × (count_to (members_of g.rows y f) c.at ≤ c.seen)))
      → Stays m g.rows (set_at who p (Some next)) y f
  stays_after next y f w own = record {
    seat = w.seat;
    low = w.low;
    inside = w.inside;
    so = elim (eqb_tells w.seat p) [
      | inl e ↦ elim (own e.1) [ inl full ↦ inl full | inr r ↦ inr (r.0, r.1, ap (set_at who p (Some next)) e.1 ∙ set_at-same who p (Some next) ∙ r.2, r.3, r.4, r.5, r.6) ]
      | inr n ↦ elim w.so [ inl full ↦ inl full | inr r ↦ inr (r.0, r.1, set_at-other who p (Some next) w.seat n.1 ∙ r.2, r.3, r.4, r.5, r.6) ]
    ];
  }

  -- another program of p, all else as before
  replaced : (next : Namer) → Stands m ids g.rows p next → ((k f : ℕ) (w : Stays m g.rows who (suc k) f) → Stays m g.rows (set_at who p (Some next)) (suc k) f) → IsConsistent m ids word (set_at who p (Some next))
  replaced next stands stays = record {
    rows = g.rows;
    few = g.few;
    words = g.words;
    stands = λ q v. set_at-cases who p (Some next) (λ o. o ≡ Some v → Stands m ids g.rows q v) q
        (λ e h. let own : next ≡ v = cc in subst (λ (w : Namer). Stands m ids g.rows q w) own (subst (λ (i : ℕ). Stands m ids g.rows i next) (sym e) stands))
        (λ _ h. g.stands q v h);
    absent = λ q. set_at-cases who p (Some next) (λ o. o ≡ None → (y : ℕ) → (g.rows y q).fate ≡ Absent) q (λ _ h. absurd (cc)) (λ _ h. g.absent q h);
    full = g.full;
    stays = λ k f l many. stays k f (g.stays k f l many);
    turned = g.turned;
    named = g.named;
    chain = g.chain;
    top = g.top;
  }

  -- a seat begins
  pub begun : who p ≡ None → 1 ≤ p → p ≤ m → 1 ≤ ids p → IsConsistent m ids word (set_at who p (Some (namer_of m p (ids p))))
  begun none some few some_id = replaced (namer_of m p (ids p))
      (record {
        own = refl;
        some = some;
        few = few;
        most = refl;
        id_is = refl;
        some_id = some_id;
        from = omega arith;
        to = omega arith;
        lower = λ y l. g.absent p none y;
        came = λ l. absurd (omega arith);
        top = λ _. refl;
        at = g.absent p none m;
      })
      (λ k f w. stays_after (namer_of m p (ids p)) (suc k) f w (λ e. elim w.so [ inl full ↦ inl full | inr r ↦ absurd (let k : Some r.0 ≡ None = sym r.2 ∙ ap who e ∙ none in cc) ]))

  module _ (u : Namer) (is : who p ≡ Some u) where
    abbrev st : Stands m ids g.rows p u
    st = g.stands p u is

    module _ (c : Survey) (reads : phase_of u ≡ Collecting c) where
      pub reading : StandsAt m ids (members_of g.rows u.level u.first) (g.rows u.level p) u (Collecting c)
      reading = subst (λ (phase : Phase). StandsAt m ids (members_of g.rows u.level u.first) (g.rows u.level p) u phase) reads st.at

      pub read : HasRead m ids (members_of g.rows u.level u.first) p c
      read = subst (λ (i : ℕ). HasRead m ids (members_of g.rows u.level u.first) i c) st.own reading.2

      pub inside : members_of g.rows u.level u.first p ≡ true
      inside = in_is u.first (g.rows u.level p) (ap has_written reading.0) reading.1

      pub word_is : word u.level u.first c.at ≡ (if members_of g.rows u.level u.first c.at then ids c.at else 0)
      word_is = g.words u.level u.first c.at

      -- a word that is not 0 is of a seat with an identity
      pub there_some : members_of g.rows u.level u.first c.at ≡ true → 1 ≤ ids c.at
      there_some h = some_ids m ids word who g u.level c.at (in_tells u.first (g.rows u.level c.at) h).0

      abbrev pub after : Survey
      after = surveyed u c (word u.level u.first c.at)

      -- a read that is not the last
      pub gone_on : c.at < m → IsConsistent m ids word (set_at who p (Some (in_phase u (Collecting (read_next after)))))
      gone_on l = replaced (in_phase u (Collecting (read_next after)))
          (stands_on m ids g.rows g.rows p u Reads (read_next after) u.name st (λ y _. refl)
          (reading.0, reading.1, subst (λ (i : ℕ). HasRead m ids (members_of g.rows u.level u.first) i (read_next after)) (sym st.own) (reads_on m ids (members_of g.rows u.level u.first) p u c read g.few st.few st.own st.id_is st.some_id inside there_some (word u.level u.first c.at) word_is l)))
          (λ k f w. stays_after (in_phase u (Collecting (read_next after))) (suc k) f w (λ e. elim w.so [
            | inl full ↦ inl full
            | inr r ↦
                let own : u ≡ r.0 = (let h : Some u ≡ Some r.0 = sym is ∙ ap who (sym e) ∙ r.2 in cc) in
                let level : u.level ≡ suc k = ap (λ (v : Namer). v.level) own ∙ r.3 in
                let first : u.first ≡ f = ap (λ (v : Namer). v.first) own ∙ r.4 in
                let one : c ≡ r.1 = (let h : Collecting c ≡ Collecting r.1 = sym reads ∙ ap (λ (v : Namer). phase_of v) own ∙ r.5 in cc) in
                let before : count_to (members_of g.rows u.level u.first) c.at ≤ c.seen =
                subst (λ (y : ℕ). count_to (members_of g.rows y u.first) c.at ≤ c.seen) (sym level) (subst (λ (i : ℕ). count_to (members_of g.rows (suc k) i) c.at ≤ c.seen) (sym first) (subst (λ (d : Survey). count_to (members_of g.rows (suc k) f) d.at ≤ d.seen) (sym one) r.6)) in
                let all = counts_all m ids (members_of g.rows u.level u.first) p u c read g.few st.few st.own st.id_is st.some_id inside there_some (word u.level u.first c.at) word_is before in
                let bound : suc c.at ≡ min (c.at + 1) 255 = (let few = g.few in omega arith) in
                let now : count_to (members_of g.rows u.level u.first) (min (c.at + 1) 255) ≤ after.seen = subst (λ (n : ℕ). count_to (members_of g.rows u.level u.first) n ≤ after.seen) bound all in
                inr (in_phase u (Collecting (read_next after)), read_next after, refl, level, first, refl, subst (λ (y : ℕ). count_to (members_of g.rows y f) (min (c.at + 1) 255) ≤ after.seen) level (subst (λ (i : ℕ). count_to (members_of g.rows u.level i) (min (c.at + 1) 255) ≤ after.seen) first now))
          ]))

    module _ (enters : phase_of u ≡ Entering) where
      gone : (g.rows u.level p).fate ≡ Absent
      gone = subst (λ (phase : Phase). StandsAt m ids (members_of g.rows u.level u.first) (g.rows u.level p) u phase) enters st.at

      abbrev s : Spot
      s = record { fate = Reading; first = u.first }

      abbrev next : Namer
      next = in_phase u (Collecting first_survey)

      abbrev now : ℕ → Level
      now = put g.rows u.level p s

      abbrev written : Words
      written = with_word word (cell_at u.level u.first p) (ids p)

      same : (f : ℕ) → is_in f (g.rows u.level p) ≡ true → is_in f s ≡ true
      same f h = absurd (let t = (in_tells f (g.rows u.level p) h).0 in let none : has_written (g.rows u.level p).fate ≡ false = ap has_written gone in cc)

      seats : AreSeats m (now u.level)
      seats q = put_cases g.rows u.level p s (λ t. has_written t.fate ≡ true → (1 ≤ q) × (q ≤ m)) u.level q
          (λ _ d _. subst (λ (i : ℕ). (1 ≤ i) × (i ≤ m)) (sym d) (st.some, st.few))
          (λ _ h. are_seats m ids word who g u.level q h)

      split : IsSplit (suc m) u.level (now u.level)
      split = split_for m ids word who g u.level (now u.level) st.to seats
          (λ l q. put_cases g.rows u.level p s (λ t. has_written t.fate ≡ true → CameFrom u.level (g.rows (suc u.level) q) t) u.level q
          (λ _ d _. subst (λ (i : ℕ). CameFrom u.level (g.rows (suc u.level) i) s) (sym d) (st.came l))
          (λ _ h. g.chain u.level q l h))
          (λ e q. put_cases g.rows u.level p s (λ t. has_written t.fate ≡ true → t.first ≡ 1) u.level q
          (λ _ _ _. st.top e)
          (λ _ h. subst (λ (y : ℕ). (g.rows y q).first ≡ 1) (sym e) (g.top q (subst (λ (y : ℕ). has_written (g.rows y q).fate ≡ true) e h))))

      few_now : (f : ℕ) → count_to (members_of now u.level f) (suc m) ≤ u.level
      unfolding size
      few_now f = split.few f

      mine : members_of now u.level u.first p ≡ true
      mine = ap (is_in u.first) (put_own g.rows u.level p s) ∙ in_is u.first s refl refl

      words_now : (y f q : ℕ) → written y f q ≡ (if members_of now y f q then ids q else 0)
      words_now y f q = elim (eqb_tells y u.level) [
        | inr n ↦
            ap (λ (w : ℕ → ℕ → ℕ). w f q) (set_at-other word u.level (set_at (word u.level) u.first (set_at (word u.level u.first) p (ids p))) y n.1) ∙ g.words y f q
            ∙ ap (λ (t : Spot). if is_in f t then ids q else 0) (sym (put_level g.rows u.level p s y q n.1))
        | inl e ↦
            let here : written y f q ≡ set_at (word u.level) u.first (set_at (word u.level u.first) p (ids p)) f q =
            ap (λ (i : ℕ). written i f q) e.1 ∙ ap (λ (w : ℕ → ℕ → ℕ). w f q) (set_at-same word u.level (set_at (word u.level) u.first (set_at (word u.level u.first) p (ids p)))) in
            elim (eqb_tells q p) [
              | inr n ↦
                  here ∙ set_at-cases (word u.level) u.first (set_at (word u.level u.first) p (ids p)) (λ w. w q ≡ word u.level f q) f (λ d. set_at-other (word u.level u.first) p (ids p) q n.1 ∙ ap (λ (i : ℕ). word u.level i q) (sym d)) (λ _. refl)
                  ∙ g.words u.level f q ∙ ap (λ (i : ℕ). if is_in f (g.rows i q) then ids q else 0) (sym e.1) ∙ ap (λ (t : Spot). if is_in f t then ids q else 0) (sym (put_person g.rows u.level p s y q n.1))
              | inl d ↦
                  let spot : now y q ≡ s = ap (λ (i : ℕ). now i q) e.1 ∙ ap (now u.level) d.1 ∙ put_own g.rows u.level p s in
                  here ∙ set_at-cases (word u.level) u.first (set_at (word u.level u.first) p (ids p)) (λ w. w q ≡ (if is_in f s then ids q else 0)) f
                  (λ i. ap (set_at (word u.level u.first) p (ids p)) d.1 ∙ set_at-same (word u.level u.first) p (ids p) ∙ ap ids (sym d.1) ∙ sym (ap (λ (b : Bool). if b then ids q else 0) (in_is f s refl (sym i))))
                  (λ n.
                  let out : is_in f s ≡ false = elim (cases_Bool (is_in f s)) [ inl h ↦ absurd (n (sym (in_tells f s h).1)) | inr h ↦ h ] in
                  let none : is_in f (g.rows u.level q) ≡ false = elim (cases_Bool (is_in f (g.rows u.level q))) [
                    | inl h ↦ absurd (let t = (in_tells f (g.rows u.level q) h).0 in let gone_too : has_written (g.rows u.level q).fate ≡ false = ap (λ (i : ℕ). has_written (g.rows u.level i).fate) d.1 ∙ ap has_written gone in cc)
                    | inr h ↦ h
                  ] in
                  g.words u.level f q ∙ ap (λ (b : Bool). if b then ids q else 0) (none ∙ sym out))
                  ∙ ap (λ (t : Spot). if is_in f t then ids q else 0) (sym spot)
            ]
      ]

      -- nobody writes where one is named
      joins : (q : ℕ) → q ≢ p → (g.rows u.level q).fate ≡ Named → (g.rows u.level q).first ≡ u.first → rank ids p ≤ rank ids q
      joins q n h one = absurd (let a = level_is u.level st.from in joins_at a.0 a.1)
        where
          level_is : (x : ℕ) → 1 ≤ x → (k : ℕ) × (x ≡ suc k)
          level_is zero l = absurd (omega arith)
          level_is (suc k) l = (k, refl)

          joins_at : (k : ℕ) → u.level ≡ suc k → ⊥
          joins_at k e =
              let full : suc k ≤ count_to (members_of g.rows (suc k) (g.rows (suc k) q).first) (suc m) = g.full k q (let to = st.to in omega arith) (ap was_full (subst (λ (y : ℕ). (g.rows y q).fate ≡ Named) e h)) in
              let here : u.level ≤ count_to (members_of g.rows u.level u.first) (suc m) =
              subst (λ (f : ℕ). u.level ≤ count_to (members_of g.rows u.level f) (suc m)) one (subst (λ (y : ℕ). y ≤ count_to (members_of g.rows y (g.rows y q).first) (suc m)) (sym e) full) in
              let out : members_of g.rows u.level u.first p ≡ false = elim (cases_Bool (members_of g.rows u.level u.first p)) [
                | inl i ↦ absurd (let t = (in_tells u.first (g.rows u.level p) i).0 in let none : has_written (g.rows u.level p).fate ≡ false = ap has_written gone in cc)
                | inr i ↦ i
              ] in
              let up = count_to-gain (members_of g.rows u.level u.first) (members_of now u.level u.first) (suc m) p (let few = st.few in omega arith) out mine (λ i _. grows m ids word who g p u is s next written refl refl same u.level u.first i) in
              let few = few_now u.first in
              omega arith

      pub entered : IsConsistent m ids written (set_at who p (Some next))
      entered = moved m ids word who g p u is s next written refl refl same words_now
          (stands_on m ids g.rows now p u Reads first_survey u.name st (λ y n. put_level g.rows u.level p s y p n) (
            ap (λ (t : Spot). t.fate) (put_own g.rows u.level p s),
            ap (λ (t : Spot). t.first) (put_own g.rows u.level p s),
            record {
              from = omega arith;
              to = (let a = st.some in let b = st.few in omega arith);
              low = omega arith;
              under = λ _. omega arith;
              over = λ h. absurd (cc);
              own = λ l. absurd (let a = st.some in let b = st.own in omega arith);
            },
          ))
          (λ h. absurd (cc))
          (λ h. absurd (cc))
          (λ h. absurd (cc))
          joins
          (λ many. record {
            seat = p;
            low = (let few = st.few in omega arith);
            inside = mine;
            so = inr (next, first_survey, set_at-same who p (Some next), refl, refl, refl, first_none);
          })
        where
          first_none : count_to (members_of now u.level u.first) 1 ≤ 0
          first_none =
              let none : members_of now u.level u.first 0 ≡ false = (let h = nobody_at_0 m (now u.level) seats in rw h refl) in
              rw none (omega arith)
