-- the past of segments: what stood in each at each moment
use Rattle.std.proofs.Common.{◌≡◌, ◌≢◌, ℕ, ◌+◌, ◌≤◌, List, Option, Some, None, inl, inr, refl, sym, ap, ◌∙◌, arith}
use Rattle.model_snapshot.proofs.Common.{eqb_tells, set_at, set_at-same, set_at-other, Record, IsMoment}

-- how often a segment that holds this was written
abbrev pub number : Option Record → ℕ
number None = 0
number (Some r) = r.number

abbrev pub value : Option Record → Option ℕ
value None = None
value (Some r) = Some r.value

-- the value of one who has this place
abbrev pub value_in : (ℕ → Option Record) → Option ℕ → Option ℕ
value_in held None = None
value_in held (Some x) = value (held x)

-- the view that was written with the n-th write at x was scanned after the write before
pub record IsHelp (last : ℕ) (past : ℕ → ℕ → Option Record) (moment : ℕ → ℕ → Option ℕ) (x n : ℕ) (view : List (ℕ × ℕ)) : Type 0 where
  pub index : ℕ
  pub inside : index ≤ last
  pub count : number (past index x) + 1 ≡ n
  pub is : IsMoment view (moment index)

-- past i x is what stood at place x at the moment i; place p is where p's segment is
pub record IsHistory (last : ℕ) (past : ℕ → ℕ → Option Record) (moment : ℕ → ℕ → Option ℕ) (place : ℕ → Option ℕ) : Type 0 where
  pub grows : (x i j : ℕ) → i ≤ j → j ≤ last → number (past i x) ≤ number (past j x)
  pub same : (x i j : ℕ) → i ≤ last → j ≤ last → number (past i x) ≡ number (past j x) → past i x ≡ past j x
  pub helps : (x i : ℕ) (r : Record) → i ≤ last → past i x ≡ Some r → IsHelp last past moment x r.number r.view
  pub owned : (x i : ℕ) (r : Record) → i ≤ last → past i x ≡ Some r → place r.identity ≡ Some x
  pub shows : (i q : ℕ) → i ≤ last → moment i q ≡ value_in (past i) (place q)
  pub distinct : (p q x : ℕ) → place p ≡ Some x → place q ≡ Some x → p ≡ q

-- a record changes the value of its owner alone
pub value_in-set : (held : ℕ → Option Record) (place : ℕ → Option ℕ) (x p : ℕ) (r : Record) → place p ≡ Some x → ((q y : ℕ) → place q ≡ Some y → y ≡ x → q ≡ p) → (q : ℕ) →
    value_in (set_at held x (Some r)) (place q) ≡ set_at (λ u. value_in held (place u)) p (Some r.value) q
value_in-set held place x p r own alone q = elim (eqb_tells q p) [
  | inl e ↦
      let there : place q ≡ Some x = ap place e.1 ∙ own in
      let here : value_in (set_at held x (Some r)) (place q) ≡ Some r.value = ap (value_in (set_at held x (Some r))) there ∙ ap value (set_at-same held x (Some r)) in
      rw e.0 here
  | inr e ↦ rw e.0 (elim (place q) as (λ o. place q ≡ o → value_in (set_at held x (Some r)) o ≡ value_in held o) [
    | None ↦ λ _. refl
    | Some y ↦ λ h. ap value (set_at-other held x (Some r) y (λ k. e.1 (alone q y h k)))
  ] refl)
]

module _ (last : ℕ) (past : ℕ → ℕ → Option Record) (moment : ℕ → ℕ → Option ℕ) (place : ℕ → Option ℕ) (h : IsHistory last past moment place) (p x : ℕ) (own : place p ≡ Some x) (r : Record) (named : r.identity ≡ p) (one_more : number (past last x) + 1 ≡ r.number) (help : IsHelp last past moment x r.number r.view) where
  -- one more moment, in which p's segment holds this
  abbrev pub past' : ℕ → ℕ → Option Record
  past' = set_at past (last + 1) (set_at (past last) x (Some r))

  abbrev pub moment' : ℕ → ℕ → Option ℕ
  moment' = set_at moment (last + 1) (set_at (moment last) p (Some r.value))

  pub past_kept : (i : ℕ) → i ≤ last → past' i ≡ past i
  past_kept i l = set_at-other past (last + 1) (set_at (past last) x (Some r)) i (omega arith)

  pub moment_kept : (i : ℕ) → i ≤ last → moment' i ≡ moment i
  moment_kept i l = set_at-other moment (last + 1) (set_at (moment last) p (Some r.value)) i (omega arith)

  pub past_now : past' (last + 1) ≡ set_at (past last) x (Some r)
  past_now = set_at-same past (last + 1) (set_at (past last) x (Some r))

  pub moment_now : moment' (last + 1) ≡ set_at (moment last) p (Some r.value)
  moment_now = set_at-same moment (last + 1) (set_at (moment last) p (Some r.value))

  -- another place holds what it held
  pub past_other : (y : ℕ) → y ≢ x → past' (last + 1) y ≡ past last y
  past_other y n = ap (λ (f : ℕ → Option Record). f y) past_now ∙ set_at-other (past last) x (Some r) y n

  pub past_here : past' (last + 1) x ≡ Some r
  past_here = ap (λ (f : ℕ → Option Record). f x) past_now ∙ set_at-same (past last) x (Some r)

  at_kept : (i y : ℕ) → i ≤ last → past' i y ≡ past i y
  at_kept i y l = ap (λ (f : ℕ → Option Record). f y) (past_kept i l)

  now_is : (i : ℕ) → i ≤ last + 1 → i ≢ last + 1 → i ≤ last
  now_is i l n = omega arith

  grows' : (y i j : ℕ) → i ≤ j → j ≤ last + 1 → number (past' i y) ≤ number (past' j y)
  grows' y i j l k = elim (eqb_tells j (last + 1)) [
    | inr e ↦
        let j_old : j ≤ last = now_is j k e.1 in
        let old = h.grows y i j l j_old in
        let a = ap number (at_kept i y (omega arith)) in
        let b = ap number (at_kept j y j_old) in
        omega arith
    | inl e ↦ elim (eqb_tells i (last + 1)) [
      | inl f ↦ let same : number (past' i y) ≡ number (past' j y) = ap (λ (n : ℕ). number (past' n y)) (f.1 ∙ sym e.1) in omega arith
      | inr f ↦
          let i_old : i ≤ last = now_is i (omega arith) f.1 in
          let old = h.grows y i last i_old (omega arith) in
          let a = ap number (at_kept i y i_old) in
          let now : number (past' j y) ≡ number (past' (last + 1) y) = ap (λ (n : ℕ). number (past' n y)) e.1 in
          elim (eqb_tells y x) [
            | inl u ↦
                let here : number (past' (last + 1) y) ≡ r.number = ap (λ (z : ℕ). number (past' (last + 1) z)) u.1 ∙ ap number past_here in
                let there : number (past last y) ≡ number (past last x) = ap (λ (z : ℕ). number (past last z)) u.1 in
                omega arith
            | inr u ↦ let here = ap number (past_other y u.1) in omega arith
          ]
    ]
  ]

  -- what was written now was not there before
  fresh : (y i : ℕ) → i ≤ last → number (past' i y) ≡ number (past' (last + 1) y) → past' i y ≡ past' (last + 1) y
  fresh y i l e = elim (eqb_tells y x) [
    | inl u ↦
        let here : number (past' (last + 1) y) ≡ r.number = ap (λ (z : ℕ). number (past' (last + 1) z)) u.1 ∙ ap number past_here in
        let there : number (past last y) ≡ number (past last x) = ap (λ (z : ℕ). number (past last z)) u.1 in
        let old = h.grows y i last l (omega arith) in
        let a = ap number (at_kept i y l) in
        absurd (omega arith)
    | inr u ↦
        let now = past_other y u.1 in
        let a = at_kept i y l in
        let equal : number (past i y) ≡ number (past last y) = ap number (sym a) ∙ e ∙ ap number now in
        a ∙ h.same y i last l (omega arith) equal ∙ sym now
  ]

  same' : (y i j : ℕ) → i ≤ last + 1 → j ≤ last + 1 → number (past' i y) ≡ number (past' j y) → past' i y ≡ past' j y
  same' y i j l k e = elim (eqb_tells i (last + 1)) [
    | inl f ↦ elim (eqb_tells j (last + 1)) [
      | inl g ↦ ap (λ (n : ℕ). past' n y) (f.1 ∙ sym g.1)
      | inr g ↦
          let j_old = now_is j k g.1 in
          let at_now : past' i y ≡ past' (last + 1) y = ap (λ (n : ℕ). past' n y) f.1 in
          at_now ∙ sym (fresh y j j_old (sym e ∙ ap number at_now))
    ]
    | inr f ↦
        let i_old = now_is i l f.1 in
        elim (eqb_tells j (last + 1)) [
          | inl g ↦ let at_now : past' j y ≡ past' (last + 1) y = ap (λ (n : ℕ). past' n y) g.1 in fresh y i i_old (e ∙ ap number at_now) ∙ sym at_now
          | inr g ↦
              let j_old = now_is j k g.1 in
              at_kept i y i_old ∙ h.same y i j i_old j_old (ap number (sym (at_kept i y i_old)) ∙ e ∙ ap number (at_kept j y j_old)) ∙ sym (at_kept j y j_old)
        ]
  ]

  pub help_kept : (y n : ℕ) (view : List (ℕ × ℕ)) → IsHelp last past moment y n view → IsHelp (last + 1) past' moment' y n view
  help_kept y n view k = record {
    index = k.index;
    inside = (let l = k.inside in omega arith);
    count = ap (λ (o : Option Record). number o + 1) (at_kept k.index y k.inside) ∙ k.count;
    is = rw (moment_kept k.index k.inside) k.is;
  }

  helps' : (y i : ℕ) (s : Record) → i ≤ last + 1 → past' i y ≡ Some s → IsHelp (last + 1) past' moment' y s.number s.view
  helps' y i s l e = elim (eqb_tells i (last + 1)) [
    | inr f ↦ let old = now_is i l f.1 in help_kept y s.number s.view (h.helps y i s old (sym (at_kept i y old) ∙ e))
    | inl f ↦
        let now : past' (last + 1) y ≡ Some s = ap (λ (n : ℕ). past' n y) (sym f.1) ∙ e in
        elim (eqb_tells y x) [
          | inr u ↦ help_kept y s.number s.view (h.helps y last s (omega arith) (sym (past_other y u.1) ∙ now))
          | inl u ↦
              let it : Some r ≡ Some s = sym past_here ∙ ap (λ (z : ℕ). past' (last + 1) z) (sym u.1) ∙ now in
              let own_record : r ≡ s = cc in
              rw (u.1, ← own_record) (help_kept x r.number r.view help)
        ]
  ]

  owned' : (y i : ℕ) (s : Record) → i ≤ last + 1 → past' i y ≡ Some s → place s.identity ≡ Some y
  owned' y i s l e = elim (eqb_tells i (last + 1)) [
    | inr f ↦ let old = now_is i l f.1 in h.owned y i s old (sym (at_kept i y old) ∙ e)
    | inl f ↦
        let now : past' (last + 1) y ≡ Some s = ap (λ (n : ℕ). past' n y) (sym f.1) ∙ e in
        elim (eqb_tells y x) [
          | inr u ↦ h.owned y last s (omega arith) (sym (past_other y u.1) ∙ now)
          | inl u ↦
              let it : Some r ≡ Some s = sym past_here ∙ ap (λ (z : ℕ). past' (last + 1) z) (sym u.1) ∙ now in
              let own_record : r ≡ s = cc in
              rw (u.1, ← own_record, named) own
        ]
  ]

  shows' : (i q : ℕ) → i ≤ last + 1 → moment' i q ≡ value_in (past' i) (place q)
  shows' i q l = elim (eqb_tells i (last + 1)) [
    | inr f ↦ let old = now_is i l f.1 in rw (moment_kept i old, past_kept i old) (h.shows i q old)
    | inl f ↦ rw (f.1, moment_now, past_now) (
        (elim (eqb_tells q p) [ inl u ↦ rw u.0 refl | inr u ↦ rw u.0 (h.shows last q (omega arith)) ])
        ∙ sym (value_in-set (past last) place x p r own (λ u y there same. h.distinct u p x (there ∙ ap Some same) own) q))
  ]

  -- the history goes on
  pub history_more : IsHistory (last + 1) past' moment' place
  history_more = record { grows = grows'; same = same'; helps = helps'; owned = owned'; shows = shows'; distinct = h.distinct }

-- p has reached a place that no one has, or none yet
module _ (last : ℕ) (past : ℕ → ℕ → Option Record) (moment : ℕ → ℕ → Option ℕ) (place : ℕ → Option ℕ) (h : IsHistory last past moment place) (p : ℕ) (new : Option ℕ) (absent : place p ≡ None) (free : (q x : ℕ) → place q ≡ Some x → new ≡ Some x → ⊥) where
  -- nothing stood there
  pub nothing_there : (x i : ℕ) → new ≡ Some x → i ≤ last → past i x ≡ None
  nothing_there x i e l = elim (past i x) as (λ o. past i x ≡ o → o ≡ None) [
    | None ↦ λ _. refl
    | Some r ↦ λ k. absurd (free r.identity x (h.owned x i r l k) e)
  ] refl

  value_same : (i q : ℕ) → i ≤ last → value_in (past i) (place q) ≡ value_in (past i) (set_at place p new q)
  value_same i q l = elim (eqb_tells q p) [
    | inl e ↦ rw e.0 (ap (value_in (past i)) (ap place e.1 ∙ absent) ∙ elim new as (λ o. new ≡ o → None ≡ value_in (past i) o) [ None ↦ λ _. refl | Some x ↦ λ k. sym (ap value (nothing_there x i k l)) ] refl)
    | inr e ↦ rw e.0 refl
  ]

  place_kept : (q x : ℕ) → place q ≡ Some x → set_at place p new q ≡ Some x
  place_kept q x e = elim (eqb_tells q p) [
    | inl u ↦ absurd (let k : None ≡ Some x = sym absent ∙ ap place (sym u.1) ∙ e in cc)
    | inr u ↦ rw u.0 e
  ]

  distinct_joined : (q u x : ℕ) → set_at place p new q ≡ Some x → set_at place p new u ≡ Some x → q ≡ u
  distinct_joined q u x e g = elim (eqb_tells q p) [
    | inl a ↦ elim (eqb_tells u p) [
      | inl k ↦ a.1 ∙ sym k.1
      | inr k ↦ absurd (free u x (rw k.0 at g) (rw a.0 at e))
    ]
    | inr a ↦ elim (eqb_tells u p) [
      | inl k ↦ absurd (free q x (rw a.0 at e) (rw k.0 at g))
      | inr k ↦ h.distinct q u x (rw a.0 at e) (rw k.0 at g)
    ]
  ]

  pub history_joined : IsHistory last past moment (set_at place p new)
  history_joined = record {
    grows = h.grows;
    same = h.same;
    helps = h.helps;
    owned = λ x i r k e. place_kept r.identity x (h.owned x i r k e);
    shows = λ i q k. h.shows i q k ∙ value_same i q k;
    distinct = distinct_joined;
  }
