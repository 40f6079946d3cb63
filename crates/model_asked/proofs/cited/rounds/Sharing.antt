-- one identity makes at most one more than half of the proposals: between its views others propose
use Rattle.std.proofs.Common.{◌≡◌, ℕ, zero, suc, ◌+◌, ◌*◌, ◌<◌, ◌≤◌, ◌==◌, Bool, true, false, not, cond, List, length, Some, None, is_some, ◌⊎◌, inl, inr, if◌then◌else◌, refl, sym, ap, subst, ◌∙◌, arith}
use Rattle.model_asked.proofs.rounds_lemmas.Common.{eqb_tells, leb_tells, value_of}
use Rattle.model_asked.proofs.cited.rounds.Numbers.{next_free}
use Rattle.model_asked.proofs.rounds_lemmas.Views.{finds}
use Rattle.model_asked.proofs.rounds_lemmas.Moments.{keeps, proposes}
use Rattle.model_asked.proofs.cited.rounds.Whole.{rounds_end}
use Rattle.model_asked.specs.rounds.Proposals.{is_taken, next_proposal}
use Rattle.model_asked.specs.rounds.Rounds.{Proposals, IsSilent, IsFirst, IsChosen, AreByRule, made_by, RoundsAreShared}

module _ (h : Proposals) (q : ℕ) where
  made_few : (t : ℕ) → made_by h q t ≤ t
  made_few zero = omega arith
  made_few (suc t) = let i = made_few t in elim (h.whose (suc t) == q) as (λ b. cond b 1 0 + made_by h q t ≤ suc t) [ true ↦ omega arith | false ↦ omega arith ]

  -- who is silent makes none
  none_made : (i j : ℕ) → i ≤ j → IsSilent h q i j → made_by h q j ≡ made_by h q i
  none_made i zero l s = let e : i ≡ 0 = omega arith in rw e refl
  none_made i (suc j) l s = elim (eqb_tells i (suc j)) [
    | inl e ↦ rw e.1 refl
    | inr e ↦
        let other = e.1 in
        elim (eqb_tells (h.whose (suc j)) q) [
          | inl w ↦ absurd (s (suc j) (omega arith) (omega arith) w.1)
          | inr w ↦ let same = none_made i j (omega arith) (λ t a b. s t a (omega arith)) in rw w.0 (omega arith)
        ]
  ]

  -- others make some, or all are q's
  others_made : (i j : ℕ) → i ≤ j → (made_by h q j + i + 1 ≤ made_by h q i + j) ⊎ ((made_by h q j + i ≤ made_by h q i + j) × ((t : ℕ) → i < t → t ≤ j → h.whose t ≡ q))
  others_made i zero l = let e : i ≡ 0 = omega arith in rw e (inr (omega arith, λ t a b. absurd (omega arith)))
  others_made i (suc j) l = elim (eqb_tells i (suc j)) [
    | inl e ↦ rw e.1 (inr (omega arith, λ t a b. absurd (omega arith)))
    | inr e ↦
        let other = e.1 in
        elim (others_made i j (omega arith)) [
          | inl few ↦ inl (elim (h.whose (suc j) == q) as (λ b. cond b 1 0 + made_by h q j + i + 1 ≤ made_by h q i + suc j) [ true ↦ omega arith | false ↦ omega arith ])
          | inr all ↦
              let few = all.0 in
              elim (eqb_tells (h.whose (suc j)) q) [
                | inl w ↦ inr (
                  rw w.0 (omega arith),
                  λ t a b. elim (eqb_tells t (suc j)) [
                    | inl v ↦ rw v.1 w.1
                    | inr v ↦ all.1 t a (let c = v.1 in omega arith)
                  ],
                )
                | inr w ↦ inl (rw w.0 (omega arith))
              ]
        ]
  ]

module _ (h : Proposals) (last : ℕ) (rule : AreByRule h last) (q : ℕ) where
  -- q's last proposal is chosen by a view, and others have made almost as many before that view
  record IsPaired (to : ℕ) : Type 0 where
    before : ℕ
    within : before < to
    its : h.whose (suc before) ≡ q
    chosen : IsChosen h before q
    silent : IsSilent h q (suc before) to
    one : made_by h q to ≤ made_by h q chosen.seen.index + 1
    few : made_by h q to + made_by h q chosen.seen.index ≤ chosen.seen.index + 2

  -- another proposes what q does only after it was not so
  parted : (to : ℕ) → to < last → (k : IsPaired to) → (c : IsChosen h to q) → made_by h q c.seen.index + k.chosen.seen.index + 1 ≤ made_by h q k.chosen.seen.index + c.seen.index
  parted to l k c =
      let w = k.within in
      let early = k.chosen.seen.earlier in
      let now = c.seen.earlier in
      let its = k.its in
      let after : suc k.before ≤ c.seen.index = (elim (leb_tells (suc k.before) c.seen.index) [ inl f ↦ f.1 | inr f ↦ absurd (let g = f.1 in c.seen.recent (suc k.before) (omega arith) (omega arith) its) ]) in
      elim (others_made h q k.chosen.seen.index c.seen.index (omega arith)) [
        | inl few ↦ few
        | inr all ↦ absurd (
            let x : ℕ = next_proposal q k.chosen.seen.view in
            let still : h.moment c.seen.index q ≡ h.moment (suc k.before) q = keeps h last rule q (suc k.before) c.seen.index after (omega arith) (λ t f g. k.silent t f (omega arith)) in
            let number : Some c.seen.number ≡ Some x = sym c.seen.own ∙ still ∙ k.chosen.proposes in
            let same : h.moment c.seen.index c.seen.other ≡ h.moment k.chosen.seen.index c.seen.other = keeps h last rule c.seen.other k.chosen.seen.index c.seen.index (omega arith) (omega arith) (λ t f g v. c.seen.not_own (sym v ∙ all.1 t f g)) in
            let there : value_of c.seen.other k.chosen.seen.view ≡ Some x = k.chosen.seen.values c.seen.other ∙ sym same ∙ c.seen.contested ∙ number in
            let taken : is_taken q k.chosen.seen.view x ≡ true = finds (λ u. not (u == q)) k.chosen.seen.view c.seen.other x there (elim (eqb_tells c.seen.other q) [ inl z ↦ absurd (c.seen.not_own z.1) | inr z ↦ rw z.0 refl ]) in
            let own : value_of q k.chosen.seen.view ≡ Some k.chosen.seen.number = k.chosen.seen.values q ∙ k.chosen.seen.own in
            let no : true ≡ false = sym taken ∙ next_free q k.chosen.seen.number k.chosen.seen.view own in cc)
      ]

  -- who proposes nothing has made no proposal
  none_yet : (t : ℕ) → t ≤ last → h.moment t q ≡ None → made_by h q t ≡ 0
  none_yet zero l e = refl
  none_yet (suc t) l e = elim (eqb_tells (h.whose (suc t)) q) [
    | inl w ↦ absurd (let some : is_some (h.moment (suc t) q) ≡ true = subst (λ u. is_some (h.moment (suc t) u) ≡ true) w.1 (proposes h last rule t (omega arith)) in let no : false ≡ true = sym (ap is_some e) ∙ some in cc)
    | inr w ↦ let none = none_yet t (omega arith) (sym (rule.others t q (omega arith) (λ v. w.1 (sym v))) ∙ e) in rw w.0 (omega arith)
  ]

  paired_or_one : (to : ℕ) → to ≤ last → (made_by h q to ≤ 1) ⊎ IsPaired to
  paired_or_one zero l = inl (omega arith)
  paired_or_one (suc to) l = elim (eqb_tells (h.whose (suc to)) q) [
    | inr w ↦ elim (paired_or_one to (omega arith)) [
      | inl few ↦ inl (rw w.0 (omega arith))
      | inr k ↦ inr (record {
        before = k.before;
        within = (let x = k.within in omega arith);
        its = k.its;
        chosen = k.chosen;
        silent = λ t a b. elim (eqb_tells t (suc to)) [
          | inl v ↦ rw v.1 w.1
          | inr v ↦ k.silent t a (let x = v.1 in omega arith)
        ];
        one = (let x = k.one in rw w.0 (omega arith));
        few = (let x = k.few in rw w.0 (omega arith));
      })
    ]
    | inl w ↦ elim (subst (λ u. IsFirst h to u ⊎ IsChosen h to u) w.1 (rule.rule to (omega arith))) [
      | inl k ↦ inl (let none = none_yet to (omega arith) k.none in rw w.0 (omega arith))
      | inr c ↦
          let now = c.seen.earlier in
          let same = none_made h q c.seen.index to now c.seen.recent in
          let all = made_few h q c.seen.index in
          inr (record {
            before = to;
            within = omega arith;
            its = w.1;
            chosen = c;
            silent = λ t a b. absurd (omega arith);
            one = rw w.0 (omega arith);
            few = rw w.0 (elim (paired_or_one to (omega arith)) [
              | inl one ↦ omega arith
              | inr k ↦ let x = parted to (omega arith) k c in let y = k.few in omega arith
            ]);
          })
    ]
  ]

  half : 2 * made_by h q last ≤ last + 2
  half = elim (paired_or_one last (omega arith)) [
    | inl one ↦ omega arith
    | inr k ↦ let a = k.within in let b = k.chosen.seen.earlier in let c = k.one in let d = k.few in omega arith
  ]

pub shared : RoundsAreShared
shared h last identities q rule of = let all = rounds_end h last identities rule of in let own = half h last rule q in omega arith
