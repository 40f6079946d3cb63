-- what stands in the moments of proposals that are made by the rule
use Rattle.std.proofs.Common.{◌≡◌, ℕ, zero, suc, ◌<◌, ◌≤◌, true, false, is_some, ◌⊎◌, inl, inr, refl, sym, ap, ◌∙◌, arith}
use Rattle.model_asked.proofs.rounds_lemmas.Common.{eqb_tells}
use Rattle.model_asked.specs.rounds.Rounds.{Proposals, IsSilent, IsChosen, AreByRule}

-- the last proposal of q among those after so many, up to so many
pub record IsLastOf (h : Proposals) (q from to : ℕ) : Type 0 where
  pub before : ℕ
  pub later : from ≤ before
  pub within : before < to
  pub its : h.whose (suc before) ≡ q
  pub silent : IsSilent h q (suc before) to

-- q has proposed twice among these
pub record IsTwice (h : Proposals) (q from to : ℕ) : Type 0 where
  pub one : ℕ
  pub two : ℕ
  pub later : from ≤ one
  pub next : one < two
  pub within : two < to
  pub first : h.whose (suc one) ≡ q
  pub second : h.whose (suc two) ≡ q

-- at most once
abbrev pub IsSlow : Proposals → ℕ → ℕ → ℕ → Type 0
IsSlow h q from to = IsSilent h q from to ⊎ ((k : IsLastOf h q from to) × IsSilent h q from k.before)

-- nobody makes a first proposal among these
abbrev pub IsSteady : Proposals → ℕ → ℕ → Type 0
IsSteady h from to = (t : ℕ) → from ≤ t → t < to → is_some (h.moment t (h.whose (suc t))) ≡ true

module _ (h : Proposals) (q : ℕ) where
  -- q is silent, or there is a last proposal of it
  pub last_of : (from to : ℕ) → from ≤ to → IsSilent h q from to ⊎ IsLastOf h q from to
  last_of from zero l = inl (λ t a b. absurd (omega arith))
  last_of from (suc to) l = elim (eqb_tells from (suc to)) [
    | inl e ↦ inl (λ t a b. absurd (let c = e.1 in omega arith))
    | inr e ↦
        let other = e.1 in
        elim (eqb_tells (h.whose (suc to)) q) [
          | inl w ↦ inr (record { before = to; later = omega arith; within = omega arith; its = w.1; silent = λ t a b. absurd (omega arith) })
          | inr w ↦ elim (last_of from to (omega arith)) [
            | inl s ↦ inl (λ t a b. elim (eqb_tells t (suc to)) [
              | inl v ↦ rw v.1 w.1
              | inr v ↦ s t a (let c = v.1 in omega arith)
            ])
            | inr k ↦ inr (record {
              before = k.before;
              later = k.later;
              within = (let c = k.within in omega arith);
              its = k.its;
              silent = λ t a b. elim (eqb_tells t (suc to)) [
                | inl v ↦ rw v.1 w.1
                | inr v ↦ k.silent t a (let c = v.1 in omega arith)
              ];
            })
          ]
        ]
  ]

  pub twice_or_slow : (from to : ℕ) → from ≤ to → IsTwice h q from to ⊎ IsSlow h q from to
  twice_or_slow from to l = elim (last_of from to l) [
    | inl s ↦ inr (inl s)
    | inr k ↦ elim (last_of from k.before k.later) [
      | inl s ↦ inr (inr (k, s))
      | inr m ↦ inl (record { one = m.before; two = k.before; later = m.later; next = m.within; within = k.within; first = m.its; second = k.its })
    ]
  ]

module _ (h : Proposals) (last : ℕ) (rule : AreByRule h last) where
  -- who is silent proposes the same
  pub keeps : (q from to : ℕ) → from ≤ to → to ≤ last → IsSilent h q from to → h.moment to q ≡ h.moment from q
  keeps q from zero l m s = let e : from ≡ 0 = omega arith in rw e refl
  keeps q from (suc to) l m s = elim (eqb_tells from (suc to)) [
    | inl e ↦ rw e.1 refl
    | inr e ↦
        let other = e.1 in
        rule.others to q (omega arith) (λ w. s (suc to) (omega arith) (omega arith) (sym w)) ∙ keeps q from to (omega arith) (omega arith) (λ t a b. s t a (omega arith))
  ]

  -- who makes a proposal proposes something after it
  pub proposes : (t : ℕ) → t < last → is_some (h.moment (suc t) (h.whose (suc t))) ≡ true
  proposes t l = elim (rule.rule t l) [
    | inl k ↦ rw k.proposes refl
    | inr k ↦ rw k.proposes refl
  ]

  -- who has proposed goes on to propose something
  pub stays : (q from to : ℕ) → from ≤ to → to ≤ last → is_some (h.moment from q) ≡ true → is_some (h.moment to q) ≡ true
  stays q from zero l m s = let e : from ≡ 0 = omega arith in rw e at s
  stays q from (suc to) l m s = elim (eqb_tells from (suc to)) [
    | inl e ↦ rw e.1 at s
    | inr e ↦
        let other = e.1 in
        elim (eqb_tells q (h.whose (suc to))) [
          | inl w ↦ rw w.1 (proposes to (omega arith))
          | inr w ↦ ap is_some (rule.others to q (omega arith) w.1) ∙ stays q from to (omega arith) (omega arith) s
        ]
  ]

  -- where nobody makes a first proposal, the same have proposed all along
  pub stood : (q from to : ℕ) → from ≤ to → to ≤ last → IsSteady h from to → is_some (h.moment to q) ≡ true → is_some (h.moment from q) ≡ true
  stood q from zero l m steady s = let e : from ≡ 0 = omega arith in rw e s
  stood q from (suc to) l m steady s = elim (eqb_tells from (suc to)) [
    | inl e ↦ rw e.1 s
    | inr e ↦
        let other = e.1 in
        let now : is_some (h.moment to q) ≡ true = (elim (eqb_tells q (h.whose (suc to))) [
          | inl w ↦ rw w.1 (steady to (omega arith) (omega arith))
          | inr w ↦ sym (ap is_some (rule.others to q (omega arith) w.1)) ∙ s
        ]) in
        stood q from to (omega arith) (omega arith) (λ t a b. steady t a (omega arith)) now
  ]

  -- a proposal there is chosen by a view
  pub is_chosen : (from to t : ℕ) → to ≤ last → IsSteady h from to → from ≤ t → t < to → IsChosen h t (h.whose (suc t))
  is_chosen from to t m steady l u = elim (rule.rule t (omega arith)) [
    | inr k ↦ k
    | inl k ↦ absurd (let s = steady t l u in let no : false ≡ true = sym (ap is_some k.none) ∙ s in cc)
  ]
