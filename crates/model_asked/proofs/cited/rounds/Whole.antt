-- all proposals
use Rattle.std.proofs.Common.{◌≡◌, ℕ, zero, suc, ◌+◌, ◌*◌, ◌^◌, ◌<◌, ◌≤◌, ◌==◌, true, false, List, [], ◌∷◌, length, Option, Some, None, is_some, ◌⊎◌, inl, inr, refl, sym, ap, ◌∙◌, arith}
use Rattle.std.specs.Cmp.{nat_eq_equiv}
use Rattle.std.specs.List.{list_any}
use Rattle.std.proofs.lemmas.Map.Views.{list_any-from_Contains}
use Rattle.model_asked.proofs.rounds_lemmas.Common.{eqb_tells}
use Rattle.model_asked.proofs.rounds_lemmas.Lists.{among, without, among_without, without_fewer}
use Rattle.model_asked.proofs.rounds_lemmas.Moments.{IsSteady, proposes, stays}
use Rattle.model_asked.proofs.rounds_lemmas.Pieces.{most_steady, short}
use Rattle.model_asked.specs.rounds.Rounds.{Proposals, AreByRule, RoundsEnd, most_proposals}

steady_is : (k : ℕ) → most_steady (suc k) + 1 ≡ 3 * 5 ^ k
steady_is zero = refl
steady_is (suc k) = let i = steady_is k in omega arith

pub closed_form : (b : ℕ) → 4 * most_proposals b + 3 ≡ 3 * 5 ^ b
closed_form zero = refl
closed_form (suc b) = let i = closed_form b in omega arith

-- those of one more identity: all that are made before the last first proposal, this one, and the rest
one_identity_more : (b : ℕ) → most_proposals (suc b) ≡ most_proposals b + 1 + most_steady (suc b)
one_identity_more b = let i = closed_form b in let j = steady_is b in omega arith

module _ (h : Proposals) (last : ℕ) (rule : AreByRule h last) where
  -- the last first proposal up to so many
  record IsLastFirst (to : ℕ) : Type 0 where
    before : ℕ
    within : before < to
    none : h.moment before (h.whose (suc before)) ≡ None
    steady : IsSteady h (suc before) to

  tells : (o : Option ℕ) → (o ≡ None) ⊎ (is_some o ≡ true)
  tells None = inl refl
  tells (Some n) = inr refl

  last_first : (to : ℕ) → IsSteady h 0 to ⊎ IsLastFirst to
  last_first zero = inl (λ t a b. absurd (omega arith))
  last_first (suc to) = elim (tells (h.moment to (h.whose (suc to)))) [
    | inl none ↦ inr (record { before = to; within = omega arith; none = none; steady = λ t a b. absurd (omega arith) })
    | inr some ↦ elim (last_first to) [
      | inl all ↦ inl (λ t a b. elim (eqb_tells t to) [ inl e ↦ rw e.1 some | inr e ↦ let other = e.1 in all t a (omega arith) ])
      | inr k ↦ inr (record { before = k.before; within = (let w = k.within in omega arith); none = k.none; steady = λ t a b. elim (eqb_tells t to) [ inl e ↦ rw e.1 some | inr e ↦ let other = e.1 in k.steady t a (omega arith) ] })
    ]
  ]

  whole : (b : ℕ) (us : List ℕ) (to : ℕ) → length us ≤ b → to ≤ last → ((t : ℕ) → 0 < t → t ≤ to → among (h.whose t) us ≡ true) → to ≤ most_proposals b
  whole b us zero few l of = omega arith
  whole zero [] (suc to) few l of = absurd (let no : false ≡ true = of (suc to) (omega arith) (omega arith) in cc)
  whole zero (u ∷ us) (suc to) few l of = absurd (omega arith)
  whole (suc b) us (suc to) few l of = elim (last_first (suc to)) [
    | inl all ↦ absurd (
        let some = all 0 (omega arith) (omega arith) in
        let no : false ≡ true = sym (ap is_some (rule.nothing (h.whose 1))) ∙ some in
        cc)
    | inr k ↦
        let w = k.within in
        let first : ℕ = h.whose (suc k.before) in
        let since = short h last rule (suc b) us (suc k.before) (suc to) few (record { order = w; known = l; steady = k.steady; of = λ t x y. of t (omega arith) y }) in
        let fewer = without_fewer first us (of (suc k.before) (omega arith) (omega arith)) in
        let earlier = whole b (without first us) k.before (omega arith) (omega arith) (λ t x y. among_without first (h.whose t) us (λ e.
        (let some = proposed_once t (omega arith) (omega arith) in
        let stayed : is_some (h.moment k.before (h.whose t)) ≡ true = stays h last rule (h.whose t) t k.before y (omega arith) some in
        let no : false ≡ true = sym (ap is_some k.none) ∙ ap (λ u. is_some (h.moment k.before u)) (sym e) ∙ stayed in
        cc)) (of t x (omega arith))) in
        let sum = one_identity_more b in
        omega arith
  ] where
    proposed_once : (t : ℕ) → 0 < t → t ≤ last → is_some (h.moment t (h.whose t)) ≡ true
    proposed_once zero x y = absurd (omega arith)
    proposed_once (suc t) x y = proposes h last rule t y

is_among : (q : ℕ) (us : List ℕ) → list_any (λ u. q == u) us ≡ true → among q us ≡ true
is_among q [] h = h
is_among q (u ∷ us) h = elim (eqb_tells q u) [
  | inl e ↦ let same : (u == q) ≡ true = (elim (eqb_tells u q) [ inl f ↦ f.0 | inr f ↦ absurd (f.1 (sym e.1)) ]) in rw same refl
  | inr e ↦ let other : (u == q) ≡ false = (elim (eqb_tells u q) [ inl f ↦ absurd (e.1 (sym f.1)) | inr f ↦ f.0 ]) in rw other (is_among q us (rw e.0 at h))
]

pub rounds_end : RoundsEnd
rounds_end h last identities rule of = whole h last rule (length identities) identities last (omega arith) (omega arith) (λ t a b. is_among (h.whose t) identities (list_any-from_Contains nat_eq_equiv (h.whose t) identities (of t a b)))

-- more may make more
pub more_proposals : (a b : ℕ) → a ≤ b → most_proposals a ≤ most_proposals b
more_proposals a zero l = let e : a ≡ 0 = omega arith in rw e (omega arith)
more_proposals a (suc b) l = elim (eqb_tells a (suc b)) [
  | inl e ↦ rw e.1 (omega arith)
  | inr e ↦ let other = e.1 in let i = more_proposals a b (omega arith) in omega arith
]

pub one_begins : (b : ℕ) → most_proposals (b + 1) ≡ 5 * most_proposals b + 3
one_begins b = let e : b + 1 ≡ suc b = omega arith in rw e refl
