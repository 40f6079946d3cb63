-- a stretch of proposals in which nobody makes a first one is short
use Rattle.std.proofs.Common.{◌≡◌, ◌≢◌, ℕ, zero, suc, ◌+◌, ◌*◌, ◌<◌, ◌≤◌, true, false, List, [], ◌∷◌, length, ◌⊎◌, inl, inr, refl, sym, arith}
use Rattle.model_asked.proofs.rounds_lemmas.Common.{eqb_tells, leb_tells}
use Rattle.model_asked.proofs.rounds_lemmas.Lists.{among, without, among_without, without_fewer, two_among, IsLeast, least_of, all_or_one}
use Rattle.model_asked.proofs.rounds_lemmas.Moments.{IsTwice, IsSlow, IsSteady, last_of, twice_or_slow}
use Rattle.model_asked.proofs.rounds_lemmas.Settling.{settled}
use Rattle.model_asked.specs.rounds.Rounds.{Proposals, IsSilent, AreByRule}

-- the most proposals of so many identities, none of which is a first one
abbrev pub most_steady : ℕ → ℕ
most_steady zero = 0
most_steady (suc zero) = 2
most_steady (suc (suc k)) = 5 * most_steady (suc k) + 4

-- the bound that one more identity gives
more_steady : (k : ℕ) → (3 * most_steady k + 2 ≤ most_steady (suc k)) × (1 ≤ k → most_steady (suc k) ≡ 5 * most_steady k + 4)
more_steady zero = (omega arith, λ l. absurd (omega arith))
more_steady (suc k) = (omega arith, λ l. refl)

module _ (h : Proposals) (last : ℕ) (rule : AreByRule h last) where
  -- these are made by some of so many
  pub record AreIn (us : List ℕ) (from to : ℕ) : Type 0 where
    pub order : from ≤ to
    pub known : to ≤ last
    pub steady : IsSteady h from to
    pub of : (t : ℕ) → from < t → t ≤ to → among (h.whose t) us ≡ true

  part : (us : List ℕ) (from to i j : ℕ) → AreIn us from to → from ≤ i → i ≤ j → j ≤ to → AreIn us i j
  part us from to i j k l m n = let o = k.known in record { order = m; known = omega arith; steady = λ t a b. k.steady t (omega arith) (omega arith); of = λ t a b. k.of t (omega arith) (omega arith) }

  -- what so many identities may do at most
  abbrev pub AreShort : ℕ → Type 0
  AreShort k = (us : List ℕ) (from to : ℕ) → length us ≤ k → AreIn us from to → to ≤ from + most_steady k

  module _ (k : ℕ) (short : AreShort k) (us : List ℕ) (few : length us ≤ suc k) where
    -- a part in which one of them is silent
    quiet : (q from to : ℕ) → among q us ≡ true → AreIn us from to → IsSilent h q from to → to ≤ from + most_steady k
    quiet q from to there in_us silent =
        let fewer = without_fewer q us there in
        short (without q us) from to (omega arith) (record {
          order = in_us.order;
          known = in_us.known;
          steady = in_us.steady;
          of = λ t a b. among_without q (h.whose t) us (silent t a b) (in_us.of t a b);
        })

    -- or proposes once at most
    slow : (q from to : ℕ) → among q us ≡ true → AreIn us from to → IsSlow h q from to → to ≤ from + 2 * most_steady k + 1
    slow q from to there in_us (inl silent) = let l = quiet q from to there in_us silent in omega arith
    slow q from to there in_us (inr (m, silent)) =
        let a = m.later in
        let b = m.within in
        let one = quiet q from m.before there (part us from to from m.before in_us (omega arith) a (omega arith)) silent in
        let two = quiet q (suc m.before) to there (part us from to (suc m.before) to in_us (omega arith) b (omega arith)) m.silent in
        omega arith

    module _ (p : ℕ) (least : IsLeast p us) (from to : ℕ) (in_us : AreIn us from to) where
      -- each of them but p has proposed twice
      abbrev IsFresh : ℕ → Type 0
      IsFresh at = (q : ℕ) → among q us ≡ true → q ≢ p → IsTwice h q from at

      -- from then on it is short
      settles : (at : ℕ) → from ≤ at → at ≤ to → IsFresh at → to ≤ at + 3 * most_steady k + 2
      settles at l m fresh =
          let piece : (i j : ℕ) → at ≤ i → i ≤ j → j ≤ to → IsSilent h p i j → j ≤ i + most_steady k = (λ i j a b c s. quiet p i j least.there (part us from to i j in_us (omega arith) b c) s) in
          elim (last_of h p at to m) [
            | inl s ↦ let x = piece at to (omega arith) m (omega arith) s in omega arith
            | inr three ↦
                let l3 = three.later in
                let w3 = three.within in
                let x = piece (suc three.before) to (omega arith) w3 (omega arith) three.silent in
                elim (last_of h p at three.before l3) [
                  | inl s ↦ let y = piece at three.before (omega arith) l3 (omega arith) s in omega arith
                  | inr two ↦
                      let l2 = two.later in
                      let w2 = two.within in
                      let y = piece (suc two.before) three.before (omega arith) w2 (omega arith) two.silent in
                      elim (last_of h p at two.before l2) [
                        | inl s ↦ let z = piece at two.before (omega arith) l2 (omega arith) s in omega arith
                        | inr one ↦ absurd (settled h last rule us p least from at to l m in_us.known in_us.steady in_us.of fresh one.before two.before three.before one.later one.within w2 w3 one.its two.its three.its two.silent)
                      ]
                ]
          ]

      -- either each of them but p has soon proposed twice, or few proposals were made
      record IsSoon (now : ℕ) : Type 0 where
        at : ℕ
        later : from ≤ at
        within : at ≤ now
        fresh : IsFresh at
        soon : (at ≡ from) ⊎ ((1 ≤ k) × (at ≤ from + 2 * most_steady k + 2))

      abbrev IsEarly : ℕ → Type 0
      IsEarly now = (1 ≤ k) × (now ≤ from + 2 * most_steady k + 1)

      fresh_or_early : (now : ℕ) → from ≤ now → now ≤ to → IsFresh now ⊎ IsEarly now
      fresh_or_early now l m = elim (all_or_one (λ q. (q ≢ p → IsTwice h q from now)) (λ q. (q ≢ p) × IsSlow h q from now) (λ q. elim (eqb_tells q p) [
        | inl e ↦ inl (λ n. absurd (n e.1))
        | inr e ↦ elim (twice_or_slow h q from now l) [ inl t ↦ inl (λ n. t) | inr s ↦ inr (e.1, s) ]
      ]) us) [
        | inl all ↦ inl all
        | inr one ↦ inr (
          let two = two_among p one.0 us least.there one.1 one.2.0 in omega arith,
          slow one.0 from now one.1 (part us from to from now in_us (omega arith) l m) one.2.1,
        )
      ]

      soon_or_early : (now : ℕ) → from ≤ now → now ≤ to → IsSoon now ⊎ IsEarly now
      soon_or_early zero l m = elim (fresh_or_early zero l m) [
        | inl fresh ↦ inl (record { at = zero; later = l; within = omega arith; fresh = fresh; soon = inl (omega arith) })
        | inr early ↦ inr early
      ]
      soon_or_early (suc now) l m = elim (eqb_tells from (suc now)) [
        | inl e ↦ elim (fresh_or_early (suc now) l m) [
          | inl fresh ↦ inl (record { at = suc now; later = l; within = omega arith; fresh = fresh; soon = inl (sym e.1) })
          | inr early ↦ inr early
        ]
        | inr e ↦
            let other = e.1 in
            elim (soon_or_early now (omega arith) (omega arith)) [
              | inl k ↦ inl (record { at = k.at; later = k.later; within = (let w = k.within in omega arith); fresh = k.fresh; soon = k.soon })
              | inr k ↦ elim (fresh_or_early (suc now) l m) [
                | inl fresh ↦ inl (record { at = suc now; later = l; within = omega arith; fresh = fresh; soon = inr (k.0, let few_now = k.1 in omega arith) })
                | inr early ↦ inr early
              ]
            ]
      ]

      pub one_more : to ≤ from + most_steady (suc k)
      one_more =
          let grows = more_steady k in
          let least_grown = grows.0 in
          elim (soon_or_early to in_us.order (omega arith)) [
            | inr early ↦ let is = grows.1 early.0 in let few_now = early.1 in omega arith
            | inl s ↦
                let end = settles s.at s.later s.within s.fresh in
                elim s.soon [
                  | inl e ↦ omega arith
                  | inr e ↦ let is = grows.1 e.0 in let soon = e.1 in omega arith
                ]
          ]

  -- nobody proposes where there is nobody
  nobody : (from to : ℕ) → AreIn [] from to → to ≤ from
  nobody from to k = elim (leb_tells to from) [
    | inl l ↦ l.1
    | inr l ↦ let f = l.1 in absurd (let no : false ≡ true = k.of to (omega arith) (omega arith) in cc)
  ]

  pub short : (k : ℕ) → AreShort k
  short zero [] from to few k = let l = nobody from to k in omega arith
  short zero (u ∷ us) from to few k = absurd (omega arith)
  short (suc m) [] from to few k = let l = nobody from to k in omega arith
  short (suc m) (u ∷ us) from to few k = let p = least_of u us in one_more m (short m) (u ∷ us) few p.0 p.1 from to k
