-- a scan over a memory that no one else changes
use Rattle.std.proofs.Common.{◌≡◌, ◌≢◌, ℕ, zero, suc, ◌+◌, ◌*◌, ◌<◌, ◌≤◌, ◌==◌, true, false, not, ◌&&◌, ◌||◌, ◌⊎◌, List, length, map, Option, Some, None, inl, inr, refl, sym, ap, subst, ◌∙◌, arith, add-one}
use Rattle.model_snapshot.proofs.Common.{cases_Bool, eqb_tells, set_at, set_at-same, set_at-other, Record, Sighting, number_met, sighting_of, noted, with_sighting, carried_over}
use Rattle.model_snapshot.specs.declared.scan.Scan.{Scan}
use Rattle.model_snapshot.specs.Scan.{is_change, is_second_change, sighting_after, met_anew, met_at, view_at, scan_after, scan_view, goes_after, goes_view}
use Rattle.model_snapshot.specs.Places.{KnownPlaces, PlacesLaws, ReadsOn, segment_in, value_for}
use Rattle.model_snapshot.proofs.SightingLemmas.{is_known, sighting_of-with, noted-known, noted-room, sighting_of-carried}

-- there is room to note each segment that was written
abbrev pub HasRoom : {S R V U K : Type 0} → KnownPlaces S R V U K → S → List Sighting → Type 0
HasRoom t s ss = (x : ℕ) (r : Record) → segment_in t s x ≡ Some r → (is_known ss x ≡ true) ⊎ (length ss < 64)

module _ {S R V U K : Type 0} (t : KnownPlaces S R V U K) (s : S) where
  -- where a walk stands after so many reads of this memory
  abbrev pub walk_after : ℕ → K
  walk_after zero = t.walk_from s
  walk_after (suc j) = t.walks.resumed (walk_after j) (value_for t s (walk_after j))

  -- its next read is of the segment at this place, in which this record stands
  pub record Meets (k : K) (x : ℕ) (r : Record) : Type 0 where
    pub place : t.walks.place k ≡ Some x
    pub holds : segment_in t s x ≡ Some r

  -- the present collect stands there, and has kept of its first reads the numbers that stand in the memory
  pub record IsPresent (scan : Scan K) (j reads : ℕ) : Type 0 where
    pub walk : scan.walk ≡ walk_after j
    pub kept : (i x : ℕ) (r : Record) → i < reads → Meets (walk_after i) x r → number_met (sighting_of x scan.sightings).now ≡ r.number

  -- it stands there, and the collect before has kept of all its reads the numbers that stand in the memory
  pub record IsRepeated (scan : Scan K) (j : ℕ) : Type 0 where
    pub walk : scan.walk ≡ walk_after j
    pub later : scan.is_first ≡ false
    pub same : scan.differs ≡ false
    pub last : ℕ
    pub inside : j ≤ last
    pub over : t.walks.is_over (walk_after last) (value_for t s (walk_after last)) ≡ true
    pub kept : (i x : ℕ) (r : Record) → i ≤ last → Meets (walk_after i) x r → (sighting_of x scan.sightings).before ≡ r.number

  -- after these reads of a collect, of which these were kept: at most n reads are left where a collect has at most c
  abbrev pub Left : ℕ → Scan K → ℕ → ℕ → ℕ → Type 0
  Left c scan j reads n = (3 * c ≤ n + j) ⊎ ((IsPresent scan j reads × (2 * c ≤ n + j)) ⊎ (IsRepeated scan j × (c ≤ n + j)))

  -- a scan has at most so many reads left
  pub record HasLeft (c : ℕ) (scan : Scan K) (n : ℕ) : Type 0 where
    pub reads : ℕ
    pub walk : t.ties.HasRead s scan.walk reads
    pub left : Left c scan reads reads n

  pub left_more : (c : ℕ) (scan : Scan K) (m n : ℕ) → m ≤ n → HasLeft c scan m → HasLeft c scan n
  left_more c scan m n l h = record {
    reads = h.reads;
    walk = h.walk;
    left = elim h.left [
      | inl a ↦ inl (omega arith)
      | inr a ↦ elim a [ inl b ↦ let k = b.1 in inr (inl (b.0, omega arith)) | inr b ↦ let k = b.1 in inr (inr (b.0, omega arith)) ]
    ];
  }

  module _ (laws : PlacesLaws t) (b : ℕ) (ways : ℕ → Option U) (consistent : t.ties.IsConsistent s b ways) (c : ℕ) (enough : t.ties.reads (t.most_of s) b ≤ c) where
    -- a scan that goes on has a read left
    pub some_left : (scan : Scan K) (n : ℕ) → HasLeft c scan n → 1 ≤ n
    some_left scan n h =
        let one = (laws.goes s b ways consistent scan.walk h.reads h.walk).0 in
        elim h.left [
          | inl a ↦ omega arith
          | inr a ↦ elim a [ inl k ↦ let z = k.1 in omega arith | inr k ↦ let z = k.1 in omega arith ]
        ]

    module _ (begins : t.ties.HasRead s (t.walk_from s) 0) where
      -- the walk goes on from a read that has ended nothing
      module _ (scan : Scan K) (j n : ℕ) (walk : t.ties.HasRead s scan.walk j) (left : Left c scan j (suc j) (suc n)) where
        abbrev value : V
        value = value_for t s scan.walk

        goes : (j + 1 ≤ t.ties.reads (t.most_of s) b) × ReadsOn t s scan.walk
        goes = laws.goes s b ways consistent scan.walk j walk

        few : j + 1 ≤ c
        few = let l = goes.0 in omega arith

        -- the walk goes on
        on_left : t.walks.is_over scan.walk value ≡ false → HasLeft c (record scan { walk = t.walks.resumed scan.walk value }) n
        on_left on = record {
          reads = suc j;
          walk = subst (λ (z : ℕ). t.ties.HasRead s (t.walks.resumed scan.walk value) z) (add-one j) (goes.1.counted j walk on);
          left = elim left [
            | inl a ↦ inl (omega arith)
            | inr a ↦ elim a [
              | inl k ↦
                  let l = k.1 in
                  let p = k.0 in
                  inr (inl (record { walk = ap (λ (z : K). t.walks.resumed z (value_for t s z)) p.walk; kept = p.kept }, omega arith))
              | inr k ↦
                  let l = k.1 in
                  let p = k.0 in
                  inr (inr (
                    record {
                      walk = ap (λ (z : K). t.walks.resumed z (value_for t s z)) p.walk;
                      later = p.later;
                      same = p.same;
                      last = p.last;
                      inside = elim (eqb_tells j p.last) [
                        | inl e ↦ absurd (
                            let there : scan.walk ≡ walk_after p.last = p.walk ∙ ap walk_after e.1 in
                            let two : true ≡ false = sym p.over ∙ sym (ap (λ (z : K). t.walks.is_over z (value_for t s z)) there) ∙ on in
                            cc)
                        | inr e ↦ let other = e.1 in let inside = p.inside in omega arith
                      ];
                      over = p.over;
                      kept = p.kept;
                    },
                    omega arith,
                  ))
            ]
          ];
        }

        -- another collect begins
        again_left : t.walks.is_over scan.walk value ≡ true → (scan.is_first ≡ true) ⊎ (scan.differs ≡ true) → HasLeft c (record { walk = t.walk_from s; is_first = false; differs = false; sightings = map carried_over scan.sightings }) n
        again_left over why = record {
          reads = 0;
          walk = begins;
          left =
              let short = few in
              elim left [
                | inl a ↦ inr (inl (record { walk = refl; kept = λ i x r l. absurd (omega arith) }, omega arith))
                | inr a ↦ elim a [
                  | inl k ↦
                      let l = k.1 in
                      let p = k.0 in
                      inr (inr (
                        record {
                          walk = refl;
                          later = refl;
                          same = refl;
                          last = j;
                          inside = omega arith;
                          over = sym (ap (λ (z : K). t.walks.is_over z (value_for t s z)) p.walk) ∙ over;
                          kept = λ i x r l m. ap (λ (z : Sighting). z.before) (sighting_of-carried scan.sightings x) ∙ p.kept i x r (omega arith) m;
                        },
                        omega arith,
                      ))
                  | inr k ↦ let p = k.0 in absurd (elim why [ inl f ↦ (let two : true ≡ false = sym f ∙ p.later in cc) | inr d ↦ (let two : true ≡ false = sym d ∙ p.same in cc) ])
                ]
              ];
        }

        walks_on : goes_view t.walks None scan value ≡ None → HasLeft c (goes_after t.walks None scan value (t.walk_from s)) n
        walks_on goes_further = elim (cases_Bool (t.walks.is_over scan.walk value)) [
          | inr on ↦ rw on (on_left on)
          | inl over ↦ elim (cases_Bool scan.is_first) [
            | inl f ↦ rw (over, f) (again_left over (inl f))
            | inr f ↦ elim (cases_Bool scan.differs) [
              | inl d ↦ rw (over, f, d) (again_left over (inr d))
              | inr d ↦ absurd (let ended = rw (over, f, d) at goes_further in cc)
            ]
          ]
        ]

      -- a read, with room for what it meets
      module _ (scan : Scan K) (room : HasRoom t s scan.sightings) (n : ℕ) (h : HasLeft c scan (suc n)) where
        abbrev read : V
        read = value_for t s scan.walk

        reads_here : (x : ℕ) → t.walks.place scan.walk ≡ Some x → segment_in t s x ≡ t.walks.content read
        reads_here x at =
            let g = laws.goes s b ways consistent scan.walk h.reads h.walk in
            ap (λ (r : R). t.walks.content (t.memory.register s r).0) (sym (g.1.here x at).0)

        -- it meets no record
        none_met : ((x : ℕ) (r : Record) → Meets scan.walk x r → ⊥) → Left c scan h.reads (suc h.reads) (suc n)
        none_met never = elim h.left [
          | inl a ↦ inl a
          | inr a ↦ elim a [
            | inl k ↦ inr (inl (
              record {
                walk = k.0.walk;
                kept = λ i x r l m. elim (eqb_tells i h.reads) [
                  | inl e ↦ absurd (never x r (subst (λ (z : K). Meets z x r) (sym (k.0.walk ∙ ap walk_after (sym e.1))) m))
                  | inr e ↦ let other = e.1 in k.0.kept i x r (omega arith) m
                ];
              },
              k.1,
            ))
            | inr k ↦ inr (inr k)
          ]
        ]

        -- it meets this record
        module _ (x : ℕ) (r : Record) (at : t.walks.place scan.walk ≡ Some x) (here : segment_in t s x ≡ Some r) where
          abbrev new : Sighting
          new = sighting_after scan x r

          noted_is : noted new scan.sightings ≡ with_sighting new scan.sightings
          noted_is = elim (room x r here) [ inl y ↦ noted-known new scan.sightings y | inr l ↦ noted-room new scan.sightings l ]

          known_at : (y : ℕ) → sighting_of y (noted new scan.sightings) ≡ set_at (λ z. sighting_of z scan.sightings) x new y
          known_at y = rw noted_is (sighting_of-with new scan.sightings y)

          before_same : (y : ℕ) → (sighting_of y (noted new scan.sightings)).before ≡ (sighting_of y scan.sightings).before
          before_same y = ap (λ (z : Sighting). z.before) (known_at y) ∙ (elim (eqb_tells y x) [ inl e ↦ rw (e.0, e.1) refl | inr e ↦ rw e.0 refl ])

          now_here : number_met (sighting_of x (noted new scan.sightings)).now ≡ r.number
          now_here = ap (λ (z : Sighting). number_met z.now) (known_at x ∙ set_at-same (λ z. sighting_of z scan.sightings) x new)

          now_other : (y : ℕ) → y ≢ x → number_met (sighting_of y (noted new scan.sightings)).now ≡ number_met (sighting_of y scan.sightings).now
          now_other y e = ap (λ (z : Sighting). number_met z.now) (known_at y ∙ set_at-other (λ z. sighting_of z scan.sightings) x new y e)

          same_record : (y : ℕ) (q : Record) → segment_in t s y ≡ Some q → y ≡ x → r.number ≡ q.number
          same_record y q holds e =
              let both : Some r ≡ Some q = sym here ∙ ap (segment_in t s) (sym e) ∙ holds in
              let same : r ≡ q = cc in
              ap (λ (z : Record). z.number) same

          kept_now : (y : ℕ) (q : Record) → segment_in t s y ≡ Some q → (y ≢ x → number_met (sighting_of y scan.sightings).now ≡ q.number) → number_met (sighting_of y (noted new scan.sightings)).now ≡ q.number
          kept_now y q holds was = elim (eqb_tells y x) [
            | inl e ↦ ap (λ (z : ℕ). number_met (sighting_of z (noted new scan.sightings)).now) e.1 ∙ now_here ∙ same_record y q holds e.1
            | inr e ↦ now_other y e.1 ∙ was e.1
          ]

          -- the collect before has kept this number
          no_change : scan.differs ≡ false → (sighting_of x scan.sightings).before ≡ r.number → (scan.differs || is_change scan x r) ≡ false
          no_change d e =
              let test : ((sighting_of x scan.sightings).before == r.number) ≡ true = (elim (eqb_tells (sighting_of x scan.sightings).before r.number) [ inl k ↦ k.0 | inr k ↦ absurd (k.1 e) ]) in
              rw (d, test) (elim scan.is_first as (λ z. (not z && not true) ≡ false) [ true ↦ refl | false ↦ refl ])

          one_met : Left c (met_anew scan x r) h.reads (suc h.reads) (suc n)
          one_met = elim h.left [
            | inl a ↦ inl a
            | inr a ↦ elim a [
              | inl k ↦ inr (inl (
                record {
                  walk = k.0.walk;
                  kept = λ i y q l m. kept_now y q m.holds (λ other. elim (eqb_tells i h.reads) [
                    | inl e ↦ absurd (
                        let two : Some x ≡ Some y = sym at ∙ ap t.walks.place (k.0.walk ∙ ap walk_after (sym e.1)) ∙ m.place in
                        let same : x ≡ y = cc in
                        other (sym same))
                    | inr e ↦ let apart = e.1 in k.0.kept i y q (omega arith) m
                  ]);
                },
                k.1,
              ))
              | inr k ↦
                  let p = k.0 in
                  let mine : Meets (walk_after h.reads) x r = subst (λ (z : K). Meets z x r) p.walk (record { place = at; holds = here }) in
                  inr (inr (
                    record {
                      walk = p.walk;
                      later = p.later;
                      same = no_change p.same (p.kept h.reads x r p.inside mine);
                      last = p.last;
                      inside = p.inside;
                      over = p.over;
                      kept = λ i y q l m. before_same y ∙ p.kept i y q l m;
                    },
                    k.1,
                  ))
            ]
          ]

        -- one read less is left of a scan that goes on
        pub reads_on : scan_view t.walks scan read ≡ None → HasLeft c (scan_after t.walks scan read (t.walk_from s)) n
        reads_on = elim (t.walks.place scan.walk) as (λ o. t.walks.place scan.walk ≡ o →
            goes_view t.walks (view_at t.walks scan o (t.walks.content read)) (met_at t.walks scan o (t.walks.content read)) read ≡ None →
            HasLeft c (goes_after t.walks (view_at t.walks scan o (t.walks.content read)) (met_at t.walks scan o (t.walks.content read)) read (t.walk_from s)) n) [
              | None ↦ λ none. walks_on scan h.reads n h.walk (none_met (λ x r m. let two : None ≡ Some x = sym none ∙ m.place in absurd (cc)))
              | Some x ↦ λ at. elim (t.walks.content read) as (λ o. segment_in t s x ≡ o →
                  goes_view t.walks (view_at t.walks scan (Some x) o) (met_at t.walks scan (Some x) o) read ≡ None →
                  HasLeft c (goes_after t.walks (view_at t.walks scan (Some x) o) (met_at t.walks scan (Some x) o) read (t.walk_from s)) n) [
                    | None ↦ λ none. walks_on scan h.reads n h.walk (none_met (λ y r m.
                        let two : Some x ≡ Some y = sym at ∙ m.place in
                        let same : x ≡ y = cc in
                        let both : None ≡ Some r = sym none ∙ ap (segment_in t s) same ∙ m.holds in
                        absurd (cc)))
                    | Some r ↦ λ here. elim (cases_Bool (is_second_change scan x r)) [
                      | inl y ↦ λ k. absurd (let ended = rw y at k in cc)
                      | inr y ↦ λ k. rw y (walks_on (met_anew scan x r) h.reads n h.walk (one_met x r at here) (rw y at k))
                    ]
                  ] (reads_here x at)
            ] refl
