-- first moments in which proposals stand alone
use Rattle.std.proofs.Common.{◌≡◌, ◌≢◌, ℕ, ◌+◌, ◌-◌, ◌<◌, ◌≤◌, ◌==◌, ◌⊎◌, inl, inr, true, false, cond, List, [], ◌∷◌, length, get_or, take, drop, drop-cons, add-one, refl, sym, ap, ◌∙◌, subst, arith, Some, None, Option, eq-eqb, MatchOption}
use Rattle.text_checker.proofs.judges_lemmas.Common.{fun_ext, list_any, cases_Bool, false≢true, eqb_tells, set_at, IsRising, value_of, inserted, set_at-same, set_at-other, set_at-cases, IsRising-inserted, value_of-inserted, IsMoment, RenameObject, IsRecent, IsSole, Firsts}
use Rattle.std.proofs.lemmas.List.{take_all, length-drop}
use Rattle.text_checker.specs.judges.Firsts.{NeverSole, sole_in, view_at, if_none, is_one, noted, HasFirst, HoldsFirsts}
use Rattle.text_checker.specs.judges.Standing.{proposed_by}
use Rattle.text_checker.proofs.judges_lemmas.Views.{here, further, not_first, said_further}
use Rattle.text_checker.proofs.judges_lemmas.seats.Turned.{earlier}

-- ---- who alone proposes a number

-- what the pairs of a view say
abbrev values : List (ℕ × ℕ) → ℕ → Option ℕ
values view q = value_of q view

none_proposes : (n : ℕ) (view : List (ℕ × ℕ)) → list_any (λ pair. pair.1 == n) view ≡ false → (q : ℕ) → values view q ≢ Some n
none_proposes n [] h q e = absurd (cc)
none_proposes n (x ∷ xs) h q e = elim (eqb_tells x.1 n) [
  | inl y ↦ absurd (let k : true ≡ false = rw y.0 at h in cc)
  | inr y ↦ elim (eqb_tells x.0 q) [
    | inl z ↦ y.1 (let k : Some x.1 ≡ Some n = rw z.0 at e in cc)
    | inr z ↦ none_proposes n xs (rw y.0 at h) q (rw z.0 at e)
  ]
]

-- someone proposes the number
record Proposes (n : ℕ) (view : List (ℕ × ℕ)) : Type 0 where
  who : ℕ
  says : values view who ≡ Some n

one_proposes : (n : ℕ) (view : List (ℕ × ℕ)) → IsRising view → list_any (λ pair. pair.1 == n) view ≡ true → Proposes n view
one_proposes n [] r h = absurd (cc)
one_proposes n (x ∷ xs) r h = elim (eqb_tells x.1 n) [
  | inl y ↦ record { who = x.0; says = here x xs ∙ ap Some y.1 }
  | inr y ↦ (let k = one_proposes n xs r.1 (rw y.0 at h) in record { who = k.who; says = said_further x xs k.who n r k.says })
]

pub sole_found : (n : ℕ) (view : List (ℕ × ℕ)) (p : ℕ) → IsRising view → sole_in n view ≡ Some p → IsSole (values view) p n
sole_found n [] p r e = absurd (cc)
sole_found n (x ∷ xs) p r e = elim (eqb_tells x.1 n) [
  | inl y ↦ elim (cases_Bool (list_any (λ pair. pair.1 == n) xs)) [
    | inl z ↦ absurd (let k : None ≡ Some p = rw (y.0, z) at e in cc)
    | inr z ↦
        let same : x.0 ≡ p = (let k : Some x.0 ≡ Some p = rw (y.0, z) at e in cc) in
        record {
          own = ap (values (x ∷ xs)) (sym same) ∙ here x xs ∙ ap Some y.1;
          alone = λ q other says. none_proposes n xs z q (sym (further x xs q (λ k. other (sym k ∙ same))) ∙ says);
        }
  ]
  | inr y ↦
      let s = sole_found n xs p r.1 (rw y.0 at e) in
      record {
        own = said_further x xs p n r s.own;
        alone = (λ q other says. elim (eqb_tells x.0 q) [
          | inl z ↦ y.1 (let k : Some x.1 ≡ Some n = sym (here x xs) ∙ ap (values (x ∷ xs)) z.1 ∙ says in cc)
          | inr z ↦ s.alone q other (sym (further x xs q z.1) ∙ says)
        ]);
      }
]

found_sole : (n : ℕ) (view : List (ℕ × ℕ)) (p : ℕ) → IsRising view → IsSole (values view) p n → sole_in n view ≡ Some p
found_sole n [] p r s = absurd (let k : None ≡ Some n = s.own in cc)
found_sole n (x ∷ xs) p r s = elim (eqb_tells x.1 n) [
  | inl y ↦
      let same : x.0 ≡ p = elim (eqb_tells x.0 p) [ inl w ↦ w.1 | inr w ↦ absurd (s.alone x.0 w.1 (here x xs ∙ ap Some y.1)) ] in
      elim (cases_Bool (list_any (λ pair. pair.1 == n) xs)) [
        | inl z ↦ (let k = one_proposes n xs r.1 z in absurd (s.alone k.who (λ e. not_first x xs k.who n r k.says (same ∙ sym e)) (said_further x xs k.who n r k.says)))
        | inr z ↦ rw (y.0, z) (ap Some same)
      ]
  | inr y ↦
      let other : x.0 ≢ p = λ w. y.1 (let k : Some x.1 ≡ Some n = sym (here x xs) ∙ ap (values (x ∷ xs)) w ∙ s.own in cc) in
      rw y.0 (found_sole n xs p r.1 (record { own = sym (further x xs p other) ∙ s.own; alone = λ q apart says. s.alone q apart (said_further x xs q n r says) }))
]

pub sole_is : (n : ℕ) (view : List (ℕ × ℕ)) (p : ℕ) → IsRising view → IsSole (values view) p n → is_one p (sole_in n view) ≡ true
sole_is n view p r s = rw (found_sole n view p r s) (eq-eqb p p refl)

pub is_sole : (n : ℕ) (view : List (ℕ × ℕ)) (p : ℕ) → IsRising view → is_one p (sole_in n view) ≡ true → IsSole (values view) p n
is_sole n view p r h = elim (sole_in n view) as (λ o. sole_in n view ≡ o → is_one p o ≡ true → IsSole (values view) p n) [
  | None ↦ λ e k. absurd (cc)
  | Some q ↦ λ e k. elim (eqb_tells q p) [ inl w ↦ sole_found n view p r (e ∙ ap Some w.1) | inr w ↦ absurd (false≢true (sym w.0 ∙ k)) ]
] refl h

-- the pair at i has the number, and another after it, or none
module _ (n : ℕ) (view : List (ℕ × ℕ)) (i : ℕ) (inside : i < length view) (own : (get_or view i (0, 0)).1 ≡ n) where
  cut : drop i view ≡ get_or view i (0, 0) ∷ drop (i + 1) view
  cut = drop-cons view i (0, 0) inside ∙ rw (add-one i) refl

  -- the rest of the slice, to its end
  rest_all : take (length view - (i + 1)) (drop (i + 1) view) ≡ drop (i + 1) view
  rest_all = take_all (length view - (i + 1)) (drop (i + 1) view) (omega (arith, length-drop (i + 1) view))

  pub many_here : list_any (λ pair. pair.1 == n) (take (length view - (i + 1)) (drop (i + 1) view)) ≡ true → sole_in n (drop i view) ≡ None
  many_here more = rw (cut, eq-eqb (get_or view i (0, 0)).1 n own, sym (ap (list_any (λ pair. pair.1 == n)) rest_all) ∙ more) refl

  pub sole_here : list_any (λ pair. pair.1 == n) (take (length view - (i + 1)) (drop (i + 1) view)) ≡ false → sole_in n (drop i view) ≡ Some (get_or view i (0, 0)).0
  sole_here none = rw (cut, eq-eqb (get_or view i (0, 0)).1 n own, sym (ap (list_any (λ pair. pair.1 == n)) rest_all) ∙ none) refl

-- ---- what is kept after a proposal

-- what is kept of p after numbers were noted of these pairs: what was kept, or these pairs, where p stands alone in them with a
-- number
abbrev pub IsKept : List (ℕ × ℕ) → (ℕ → Type 0) → ℕ → Option (List (ℕ × ℕ)) → Option (List (ℕ × ℕ)) → Type 0
IsKept view Noted p (Some kept) r = r ≡ Some kept
IsKept view Noted p None None = (m : ℕ) → Noted m → is_one p (sole_in m view) ≡ false
IsKept view Noted p None (Some v) = (v ≡ view) × ((m : ℕ) × (is_one p (sole_in m view) ≡ true))

pub none_noted : (view : List (ℕ × ℕ)) (p : ℕ) (kept : Option (List (ℕ × ℕ))) → IsKept view (λ m. ⊥) p kept kept
none_noted view p None = λ m k. absurd k
none_noted view p (Some v) = refl

pub one_noted : (view : List (ℕ × ℕ)) (Noted : ℕ → Type 0) (n p : ℕ) (kept r : Option (List (ℕ × ℕ))) → IsKept view Noted p kept r →
    IsKept view (λ m. Noted m ⊎ (m ≡ n)) p kept (cond (is_one p (sole_in n view)) (if_none r view) r)
one_noted view Noted n p (Some v) r h = elim (is_one p (sole_in n view)) as (λ b. cond b (if_none r view) r ≡ Some v) [ true ↦ ap (λ o. if_none o view) h | false ↦ h ]
one_noted view Noted n p None None h = elim (cases_Bool (is_one p (sole_in n view))) [
  | inl y ↦ rw y (refl, (n, y))
  | inr y ↦ rw y (λ m k. elim k [ inl w ↦ h m w | inr w ↦ ap (λ x. is_one p (sole_in x view)) w ∙ y ])
]
one_noted view Noted n p None (Some v) h = elim (is_one p (sole_in n view)) as (λ b. IsKept view (λ m. Noted m ⊎ (m ≡ n)) p None (cond b (if_none (Some v) view) (Some v))) [ true ↦ h | false ↦ h ]

-- one more number is noted
pub note_one : (f f' : Firsts) (view : List (ℕ × ℕ)) (Noted : ℕ → Type 0) (n p : ℕ) (kept : Option (List (ℕ × ℕ))) → f.present ≡ view → view_at f' p ≡ noted f n p →
    IsKept view Noted p kept (view_at f p) → IsKept view (λ m. Noted m ⊎ (m ≡ n)) p kept (view_at f' p)
note_one f f' view Noted n p kept present e k =
    subst (IsKept view (λ m. Noted m ⊎ (m ≡ n)) p kept) (sym (e ∙ (λ i. cond (is_one p (sole_in n (present i))) (if_none (view_at f p) (present i)) (view_at f p)))) (one_noted view Noted n p kept (view_at f p) k)

module _ (o : RenameObject) (r n : ℕ) (f : Firsts) (h : HoldsFirsts f o) where
  abbrev next : RenameObject
  next = proposed_by r n o

  abbrev now : List (ℕ × ℕ)
  now = inserted f.present (r, n)

  -- its moments are as before, and the new one
  old : (i : ℕ) → i ≤ o.last → next.moment i ≡ o.moment i
  old i l = earlier o.moment o.last (set_at (o.moment o.last) r (Some n)) i l

  new : next.moment (o.last + 1) ≡ set_at (o.moment o.last) r (Some n)
  new = set_at-same o.moment (o.last + 1) (set_at (o.moment o.last) r (Some n))

  own_now : next.moment (o.last + 1) r ≡ Some n
  own_now = ap (λ f. f r) new ∙ set_at-same (o.moment o.last) r (Some n)

  -- others propose what they did
  others_now : (q : ℕ) → q ≢ r → next.moment (o.last + 1) q ≡ o.moment o.last q
  others_now q d = ap (λ f. f q) new ∙ set_at-other (o.moment o.last) r (Some n) q d

  said : (λ q. value_of q now) ≡ next.moment (o.last + 1)
  said = fun_ext (λ q. value_of-inserted q f.present (r, n) ∙ elim (eqb_tells r q) [
    | inl y ↦ rw y.0 (sym own_now ∙ ap (next.moment (o.last + 1)) y.1)
    | inr y ↦ rw y.0 (h.present.values q ∙ sym (others_now q (λ e. y.1 (sym e))))
  ])

  rises : IsRising now
  rises = IsRising-inserted f.present (r, n) h.present.rising

  pub is_moment : IsMoment now (next.moment next.last)
  is_moment = record { rising = rises; values = λ q. ap (λ f. f q) said }

  pub since_next : (q : ℕ) → next.since q ≤ next.last
  since_next q = set_at-cases o.since r (o.last + 1) (λ k. k ≤ o.last + 1) q (λ _. omega arith) (λ _. let l = h.since q in omega arith)

  -- a recent moment is the new one, or a recent one of another
  recent : (q i : ℕ) → IsRecent next q i → (i ≡ o.last + 1) ⊎ ((q ≢ r) × IsRecent o q i)
  recent q i k =
      let from = k.no_earlier in
      let to = k.no_later in
      elim (eqb_tells i (o.last + 1)) [
        | inl y ↦ inl y.1
        | inr y ↦ (let past = y.1 in elim (eqb_tells q r) [
          | inl w ↦ absurd (let own : next.since q ≡ o.last + 1 = ap next.since w.1 ∙ set_at-same o.since r (o.last + 1) in omega arith)
          | inr w ↦ (let as_was = set_at-other o.since r (o.last + 1) q w.1 in inr (w.1, record { no_earlier = omega arith; no_later = omega arith }))
        ])
      ]

  pub same_next : (q i : ℕ) → IsRecent next q i → next.moment i q ≡ next.moment next.last q
  same_next q i k = elim (recent q i k) [
    | inl e ↦ ap (λ j. next.moment j q) e
    | inr w ↦ ap (λ f. f q) (old i w.1.no_later) ∙ h.same q i w.1 ∙ sym (others_now q w.0)
  ]

  found_now : (p m : ℕ) → is_one p (sole_in m now) ≡ true → ((i k : ℕ) → IsRecent next p i → IsSole (next.moment i) p k → i ≡ o.last + 1) → HasFirst next p now
  found_now p m e none = record {
    number = m;
    first = record {
      shows = record { index = o.last + 1; recent = record { no_earlier = since_next p; no_later = omega arith }; is = is_moment; sole = subst (λ (f : ℕ → Option ℕ). IsSole f p m) said (is_sole m now p rises e) };
      first = λ i k s. (let only = none i m k s in omega arith);
    };
  }

  -- who alone proposes in the new moment does in the pairs
  now_one : (p m : ℕ) → IsSole (next.moment (o.last + 1)) p m → is_one p (sole_in m now) ≡ true
  now_one p m s = sole_is m now p rises (subst (λ (f : ℕ → Option ℕ). IsSole f p m) (sym said) s)

  -- and in an earlier one did
  was_so : (p i m : ℕ) → i ≤ o.last → IsSole (next.moment i) p m → IsSole (o.moment i) p m
  was_so p i m l s = subst (λ (f : ℕ → Option ℕ). IsSole f p m) (old i l) s

  -- who was not alone in the last moment is now with what the proposer left, or not at all
  was_sole : (p m : ℕ) → p ≢ r → o.moment o.last r ≢ Some m → IsSole (next.moment (o.last + 1)) p m → IsSole (o.moment o.last) p m
  was_sole p m d left s = record {
    own = sym (others_now p d) ∙ s.own;
    alone = (λ q other e. elim (eqb_tells q r) [ inl y ↦ left (ap (o.moment o.last) (sym y.1) ∙ e) | inr y ↦ s.alone q other (others_now q y.1 ∙ e) ]);
  }

  still_first : (p : ℕ) (view : List (ℕ × ℕ)) → p ≢ r → HasFirst o p view → HasFirst next p view
  still_first p view d k =
      let s = k.first.shows in
      let later = s.recent.no_later in
      let from = s.recent.no_earlier in
      let since = set_at-other o.since r (o.last + 1) p d in
      let same = sym (old s.index later) in
      record {
        number = k.number;
        first = record {
          shows = record { index = s.index; recent = record { no_earlier = omega arith; no_later = omega arith }; is = subst (IsMoment view) same s.is; sole = subst (λ (f : ℕ → Option ℕ). IsSole f p k.number) same s.sole };
          first = λ i c t. elim (recent p i c) [ inl l ↦ omega arith | inr w ↦ k.first.first i w.1 (was_so p i k.number w.1.no_later t) ];
        };
      }

  module _ (Noted : ℕ → Type 0) (own : Noted n) (left : (m : ℕ) → o.moment o.last r ≡ Some m → Noted m) where
    never_own : ((m : ℕ) → Noted m → is_one r (sole_in m now) ≡ false) → NeverSole next r
    never_own none i m k s = elim (recent r i k) [
      | inl is ↦
          let now_sole : IsSole (next.moment (o.last + 1)) r m = subst (λ (j : ℕ). IsSole (next.moment j) r m) is s in
          let same : Some n ≡ Some m = sym own_now ∙ now_sole.own in
          let e : n ≡ m = cc in
          false≢true (sym (none m (subst Noted e own)) ∙ now_one r m now_sole)
      | inr w ↦ w.0 refl
    ]

    never_other : (p : ℕ) → p ≢ r → NeverSole o p → ((m : ℕ) → Noted m → is_one p (sole_in m now) ≡ false) → NeverSole next p
    never_other p d never none i m k s = elim (recent p i k) [
      | inl is ↦
          let now_sole : IsSole (next.moment (o.last + 1)) p m = subst (λ (j : ℕ). IsSole (next.moment j) p m) is s in
          let unnoted : Noted m → ⊥ = λ w. false≢true (sym (none m w) ∙ now_one p m now_sole) in
          never o.last m (record { no_earlier = h.since p; no_later = omega arith }) (was_sole p m d (λ e. unnoted (left m e)) now_sole)
      | inr w ↦ never i m w.1 (was_so p i m w.1.no_later s)
    ]

    found_own : (v : Option (List (ℕ × ℕ))) → IsKept now Noted r None v → MatchOption v (NeverSole next r) (λ view. HasFirst next r view)
    found_own None k = never_own k
    found_own (Some v) k = subst (HasFirst next r) (sym k.0) (found_now r k.1.0 k.1.1 (λ i m c s. elim (recent r i c) [ inl e ↦ e | inr w ↦ absurd (w.0 refl) ]))

    found_other : (p : ℕ) → p ≢ r → (old v : Option (List (ℕ × ℕ))) → MatchOption old (NeverSole o p) (λ view. HasFirst o p view) → IsKept now Noted p old v → MatchOption v (NeverSole next p) (λ view. HasFirst next p view)
    found_other p d (Some w) v has k = subst (λ (x : Option (List (ℕ × ℕ))). MatchOption x (NeverSole next p) (λ view. HasFirst next p view)) (sym k) (still_first p w d has)
    found_other p d None None never k = never_other p d never k
    found_other p d None (Some v) never k =
        subst (HasFirst next p) (sym k.0) (found_now p k.1.0 k.1.1 (λ i m c s. elim (recent p i c) [ inl e ↦ e | inr w ↦ absurd (never i m w.1 (was_so p i m w.1.no_later s)) ]))

    pub goes_on : (f' : Firsts) → f'.present ≡ now → ((p : ℕ) → IsKept now Noted p (cond (r == p) None (view_at f p)) (view_at f' p)) → HoldsFirsts f' next
    goes_on f' present kept = record {
      present = subst (λ (v : List (ℕ × ℕ)). IsMoment v (next.moment next.last)) (sym present) is_moment;
      since = since_next;
      same = same_next;
      found = (λ p. elim (eqb_tells r p) [
        | inl y ↦
            subst (λ (q : ℕ). MatchOption (view_at f' q) (NeverSole next q) (λ view. HasFirst next q view)) y.1
            (found_own (view_at f' r) (let k = kept r in let e : (r == r) ≡ true = eq-eqb r r refl in rw e at k))
        | inr y ↦ found_other p (λ e. y.1 (sym e)) (view_at f p) (view_at f' p) (h.found p) (let k = kept p in rw y.0 at k)
      ]);
    }
