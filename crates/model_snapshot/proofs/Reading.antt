-- a scan over any places, read by read
use Rattle.std.proofs.Common.{◌≡◌, ◌≢◌, ℕ, ◌+◌, ◌*◌, ◌≤◌, ◌==◌, true, false, not, ◌⊎◌, List, Option, Some, None, inl, inr, refl, sym, ap, subst, ◌∙◌, arith}
use Rattle.model_snapshot.proofs.Common.{eqb_tells, Record, sighting_of, is_change, is_second_change, met_anew, met_at, view_at, scan_after, scan_view, goes_after, goes_view, segment_in, value_for, IsMoment}
use Rattle.std.proofs.Math.Nat.{add-mul, mul-le-mul_right}
use Rattle.std.proofs.lemmas.Bool.{and_parts, cases_Bool, not-true}
use Rattle.model_snapshot.specs.declared.scan.Scan.{Scan}
use Rattle.model_snapshot.proofs.LawfulPlaces.{LawfulPlaces}
use Rattle.model_snapshot.proofs.Histories.{IsHistory}
use Rattle.model_snapshot.proofs.Collecting.{IsCollecting, IsRoll, changed_in, pass, pass_record, borrowed, clean, next_collect, few_collects}

-- a view shows a moment since this one
abbrev pub Shown : ℕ → ℕ → (ℕ → ℕ → Option ℕ) → List (ℕ × ℕ) → Type 0
Shown last since moment view = (i : ℕ) × (since ≤ i) × (i ≤ last) × IsMoment view (moment i)

-- a scan over this memory has made so many steps and goes on
pub record GoesOn {S R V U K : Type 0} (t : LawfulPlaces S R V U K) (m : S) (b last : ℕ) (past : ℕ → ℕ → Option Record) (place : ℕ → Option ℕ) (who : ℕ → ℕ) (own since steps : ℕ) (s : Scan K) : Type 0 where
  pub collects : ℕ
  pub reads : ℕ
  pub walk : t.known.ties.HasRead m s.walk reads
  pub beginning : reads ≡ 0 → s.walk ≡ t.known.walk_from m
  pub count : steps ≤ collects * t.known.ties.reads (t.known.most_of m) b + reads
  pub collecting : IsCollecting b last past place who own since collects (t.known.ties.IsAhead m s.walk) (t.known.ties.IsUpcoming s.walk) s.is_first s.differs s.sightings

-- it has ended with a view, or goes on
abbrev pub Outcome : {S R V U K : Type 0} → LawfulPlaces S R V U K → S → ℕ → ℕ → (ℕ → ℕ → Option Record) → (ℕ → ℕ → Option ℕ) → (ℕ → Option ℕ) → (ℕ → ℕ) → ℕ → ℕ → ℕ → Scan K → Option (List (ℕ × ℕ)) → Type 0
Outcome t m b last past moment place who own since steps s (Some view) = Shown last since moment view
Outcome t m b last past moment place who own since steps s None = GoesOn t m b last past place who own since steps s

-- who has this place has begun, on a way that has reached it
abbrev pub HasReached : {U : Type 0} → (U → Option ℕ) → (ℕ → Option U) → (ℕ → Option ℕ) → Type 0
HasReached {U} place_of ways place = (p x : ℕ) → place p ≡ Some x → (u : U) × (ways p ≡ Some u) × (place_of u ≡ Some x)

module _ {S R V U K : Type 0} (t : LawfulPlaces S R V U K) (m : S) (ways : ℕ → Option U) (b last : ℕ) (past : ℕ → ℕ → Option Record) (moment : ℕ → ℕ → Option ℕ) (place : ℕ → Option ℕ) (who : ℕ → ℕ) (consistent : t.known.ties.IsConsistent m b ways) (h : IsHistory last past moment place) (roll : IsRoll who place b) (present : (x : ℕ) → past last x ≡ segment_in t.known m x) (reached : HasReached t.known.place_of ways place) where
  -- from its beginning a walk will read every segment that is not empty
  pub starts_ahead : (x : ℕ) → (past last x ≡ None) ⊎ t.known.ties.IsAhead m (t.known.walk_from m) x
  starts_ahead x = elim (past last x) as (λ o. past last x ≡ o → (o ≡ None) ⊎ t.known.ties.IsAhead m (t.known.walk_from m) x) [
    | None ↦ λ e. inl refl
    | Some r ↦ λ e.
        let it = reached r.identity x (h.owned x last r (omega arith) e) in
        inr ((t.laws.starts m b ways consistent r.identity it.0 it.1).1 x it.2)
  ] refl

  module _ (own since p : ℕ) (mine : place p ≡ Some own) where
    -- a walk may begin
    pub begins : t.known.ties.HasRead m (t.known.walk_from m) 0
    begins = let it = reached p own mine in (t.laws.starts m b ways consistent p it.0 it.1).0

    -- a scan that goes on has made fewer steps than one collect more than there are participants has reads
    pub steps_bound : (steps : ℕ) (s : Scan K) → GoesOn t m b last past place who own since steps s → steps + 1 ≤ (b + 1) * t.known.ties.reads (t.known.most_of m) b
    steps_bound steps s g =
        let few = few_collects b last past moment place who h roll own since g.collects (t.known.ties.IsAhead m s.walk) (t.known.ties.IsUpcoming s.walk) s.is_first s.differs s.sightings g.collecting p mine in
        let one = (t.laws.goes m b ways consistent s.walk g.reads g.walk).0 in
        let count = g.count in
        let product = mul-le-mul_right (t.known.ties.reads (t.known.most_of m) b) few in
        let whole = add-mul b 1 (t.known.ties.reads (t.known.most_of m) b) in
        omega arith

    -- the read of a scan that goes on
    module _ (s : Scan K) (j collects steps : ℕ) (walk : t.known.ties.HasRead m s.walk j) (count : steps ≤ collects * t.known.ties.reads (t.known.most_of m) b + j) where
      abbrev got : V
      got = value_for t.known m s.walk

      -- the walk goes on from it
      walks_on : ((Ahead' Upcoming' : ℕ → Type 0) → ((y : ℕ) → t.known.ties.IsAhead m s.walk y → t.known.walks.place s.walk ≢ Some y → Ahead' y) → ((y : ℕ) → Upcoming' y → t.known.ties.IsUpcoming (t.known.walks.resumed s.walk got) y) →
          IsCollecting b last past place who own since collects Ahead' Upcoming' s.is_first s.differs s.sightings) →
          Outcome t m b last past moment place who own since (steps + 1) (goes_after t.known.walks None s got (t.known.walk_from m)) (goes_view t.known.walks None s got)
      walks_on c =
          let g = t.laws.goes m b ways consistent s.walk j walk in
          elim (cases_Bool (t.known.walks.is_over s.walk got)) [
            | inl over ↦
                let done : IsCollecting b last past place who own since collects (λ y. ⊥) (λ y. ⊥) s.is_first s.differs s.sightings = c (λ y. ⊥) (λ y. ⊥) (λ y a n. let e : false ≡ true = sym (g.1.ahead y a n).1 ∙ over in absurd (cc)) (λ y e. absurd e) in
                let again : (s.is_first ≡ true) ⊎ (s.differs ≡ true) → IsCollecting b last past place who own since (collects + 1) (t.known.ties.IsAhead m (t.known.walk_from m)) (t.known.ties.IsUpcoming (t.known.walk_from m)) false false _ =
                next_collect b last past moment place who h roll own since collects (λ y. ⊥) (λ y. ⊥) s.is_first s.differs s.sightings done (λ y e. e) (t.known.ties.IsAhead m (t.known.walk_from m)) (t.known.ties.IsUpcoming (t.known.walk_from m)) starts_ahead in
                let few = g.0 in
                let more : steps + 1 ≤ (collects + 1) * t.known.ties.reads (t.known.most_of m) b + 0 = (let product = add-mul collects 1 (t.known.ties.reads (t.known.most_of m) b) in omega arith) in
                elim (cases_Bool s.is_first) [
                  | inl f ↦ rw (over, f) (record { collects = collects + 1; reads = 0; walk = begins; beginning = λ _. refl; count = more; collecting = again (inl f) })
                  | inr f ↦ elim (cases_Bool s.differs) [
                    | inl d ↦ rw (over, f, d) (record { collects = collects + 1; reads = 0; walk = begins; beginning = λ _. refl; count = more; collecting = again (inr d) })
                    | inr d ↦ rw (over, f, d) (clean b last past moment place who h roll own since collects (λ y. ⊥) (λ y. ⊥) s.is_first s.differs s.sightings done (λ y e. e) f d)
                  ]
                ]
            | inr on ↦ rw on (record {
              collects = collects;
              reads = j + 1;
              walk = g.1.counted j walk on;
              beginning = λ e. absurd (omega arith);
              count = omega arith;
              collecting = c (t.known.ties.IsAhead m (t.known.walks.resumed s.walk got)) (t.known.ties.IsUpcoming (t.known.walks.resumed s.walk got)) (λ y a n. (g.1.ahead y a n).0) (λ y e. e);
            })
          ]

    module _ (s : Scan K) (j collects steps : ℕ) (walk : t.known.ties.HasRead m s.walk j) (count : steps ≤ collects * t.known.ties.reads (t.known.most_of m) b + j) (few : b ≤ 64) (c : IsCollecting b last past place who own since collects (t.known.ties.IsAhead m s.walk) (t.known.ties.IsUpcoming s.walk) s.is_first s.differs s.sightings) where
      abbrev value : V
      value = value_for t.known m s.walk

      -- what was read, if a segment, was not written
      reads_none : ((x : ℕ) → t.known.walks.place s.walk ≡ Some x → past last x ≡ None) → Outcome t m b last past moment place who own since (steps + 1) (goes_after t.known.walks None s value (t.known.walk_from m)) (goes_view t.known.walks None s value)
      reads_none none =
          let g = t.laws.goes m b ways consistent s.walk j walk in
          walks_on s j collects steps walk count (λ Ahead' Upcoming' still fewer. pass b last past moment place who h roll own since collects (t.known.ties.IsAhead m s.walk) (t.known.ties.IsUpcoming s.walk) s.is_first s.differs s.sightings c Ahead' Upcoming' (λ y a. elim (t.known.walks.place s.walk) as (λ o. t.known.walks.place s.walk ≡ o → (past last y ≡ None) ⊎ Ahead' y) [
            | None ↦ λ e. inr (still y a (λ k. let two : None ≡ Some y = sym e ∙ k in absurd (cc)))
            | Some x ↦ λ e. elim (eqb_tells y x) [
              | inl same ↦ inl (none y (rw same.1 e))
              | inr other ↦ inr (still y a (λ k. let both : Some x ≡ Some y = sym e ∙ k in let same : x ≡ y = cc in other.1 (sym same)))
            ]
          ] refl) (λ y e. g.1.upcoming y (fewer y e)))

      reads_record : (x : ℕ) (r : Record) → t.known.walks.place s.walk ≡ Some x → past last x ≡ Some r →
          Outcome t m b last past moment place who own since (steps + 1) (goes_after t.known.walks (view_at t.known.walks s (Some x) (Some r)) (met_at t.known.walks s (Some x) (Some r)) value (t.known.walk_from m)) (goes_view t.known.walks (view_at t.known.walks s (Some x) (Some r)) (met_at t.known.walks s (Some x) (Some r)) value)
      reads_record x r at here =
          let g = t.laws.goes m b ways consistent s.walk j walk in
          let unseen : c.seen x ≡ None = c.upcoming x (g.1.here x at).1 in
          elim (cases_Bool (is_second_change s x r)) [
            | inl y ↦
                let both = and_parts (is_change s x r) (changed_in s.sightings x) y in
                let apart = and_parts (not s.is_first) (not ((sighting_of x s.sightings).before == r.number)) both.0 in
                let other : (sighting_of x s.sightings).before ≢ r.number = λ e. elim (eqb_tells (sighting_of x s.sightings).before r.number) [ inl w ↦ (let k : not true ≡ true = rw w.0 at apart.1 in let two : false ≡ true = k in absurd (cc)) | inr w ↦ w.1 e ] in
                rw y (borrowed b last past moment place who h roll own since collects (t.known.ties.IsAhead m s.walk) (t.known.ties.IsUpcoming s.walk) s.is_first s.differs s.sightings c x r here unseen (not-true s.is_first apart.0) other both.1)
            | inr n ↦ rw n (walks_on (met_anew s x r) j collects steps walk count (λ Ahead' Upcoming' still fewer.
                pass_record b last past moment place who h roll own since collects (t.known.ties.IsAhead m s.walk) (t.known.ties.IsUpcoming s.walk) s.is_first s.differs s.sightings c few x r here unseen Ahead' Upcoming'
                (λ y e a. still y a (λ k. let two : Some x ≡ Some y = sym at ∙ k in let same : x ≡ y = cc in e (sym same)))
                (λ y e. (g.1.upcoming y (fewer y e), λ k. g.1.once x at (subst (λ (z : ℕ). t.known.ties.IsUpcoming (t.known.walks.resumed s.walk value) z) k (fewer y e))))
                (is_change s x r) refl n))
          ]

      -- a scan reads
      pub reads : Outcome t m b last past moment place who own since (steps + 1) (scan_after t.known.walks s value (t.known.walk_from m)) (scan_view t.known.walks s value)
      reads = elim (t.known.walks.place s.walk) as (λ o. t.known.walks.place s.walk ≡ o →
          Outcome t m b last past moment place who own since (steps + 1) (goes_after t.known.walks (view_at t.known.walks s o (t.known.walks.content value)) (met_at t.known.walks s o (t.known.walks.content value)) value (t.known.walk_from m)) (goes_view t.known.walks (view_at t.known.walks s o (t.known.walks.content value)) (met_at t.known.walks s o (t.known.walks.content value)) value)) [
            | None ↦ λ none. reads_none (λ y e. let two : None ≡ Some y = sym none ∙ e in absurd (cc))
            | Some x ↦ λ at.
                let g = t.laws.goes m b ways consistent s.walk j walk in
                let here : past last x ≡ t.known.walks.content value = present x ∙ ap (λ (r : R). t.known.walks.content (t.known.memory.register m r).0) (sym (g.1.here x at).0) in
                elim (t.known.walks.content value) as (λ o. past last x ≡ o →
                Outcome t m b last past moment place who own since (steps + 1) (goes_after t.known.walks (view_at t.known.walks s (Some x) o) (met_at t.known.walks s (Some x) o) value (t.known.walk_from m)) (goes_view t.known.walks (view_at t.known.walks s (Some x) o) (met_at t.known.walks s (Some x) o) value)) [
                  | None ↦ λ none. reads_none (λ y e. let both : Some x ≡ Some y = sym at ∙ e in let same : x ≡ y = cc in ap (past last) (sym same) ∙ none)
                  | Some r ↦ λ some. reads_record x r at some
                ] here
          ] refl
