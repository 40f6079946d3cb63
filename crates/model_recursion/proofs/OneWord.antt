-- what one word more shows
use Rattle.std.proofs.Common.{◌≡◌, ℕ, suc, ◌+◌, ◌*◌, ◌<◌, ◌≤◌, inl, inr, Bool, true, false, ◌&&◌, ◌||◌, ◌==◌, min, ap, ◌∙◌, arith, if◌then◌else◌, ne_eqb}
use Rattle.std.proofs.lemmas.Bool.{cases_Bool}
use Rattle.std.proofs.lemmas.Bool.Decides.{eqb_tells, nat_tests}
use Rattle.model_steps.specs.Count.{count_to}
use Rattle.model_steps.proofs.cited.CountLemmas.{count_to-le}
use Rattle.model_recursion.specs.Invariant.{rank, is_up_to, HasGreater, HasRead}
use Rattle.model_recursion.specs.Program.{is_after, surveyed, read_next}
use Rattle.model_recursion.specs.declared.namer.Survey.{Survey}
use Rattle.model_recursion.specs.declared.namer.Namer.{Namer}

-- what is known of the first n words
pub record KnowsOf (m : ℕ) (ids : ℕ → ℕ) (there : ℕ → Bool) (p n : ℕ) (seen : ℕ) (greater : Bool) : Type 0 where
  pub low : seen ≤ count_to there n
  pub under : greater ≡ false → seen ≤ count_to (λ q. there q && is_up_to ids p q) n
  pub over : greater ≡ true → HasGreater m ids there p
  pub own : p < n → 1 ≤ seen

-- a seat comes after another if and only if its rank is above the other's
after_more : (i s w a : ℕ) → a ≤ 64 → s ≤ 64 → is_after i s w a ≡ true → i * 128 + s < w * 128 + a
after_more i s w a a_few s_few h = grind (arith, nat_tests)

after_not : (i s w a : ℕ) → a ≤ 64 → s ≤ 64 → is_after i s w a ≡ false → w * 128 + a ≤ i * 128 + s
after_not i s w a a_few s_few h = grind (arith, nat_tests)

module _ (m : ℕ) (ids : ℕ → ℕ) (there : ℕ → Bool) (p : ℕ) (u : Namer) (c : Survey) (h : HasRead m ids there p c) (few : m ≤ 64) (p_few : p ≤ m) (own_is : u.seat ≡ p) (id_is : u.identity ≡ ids p) (some : 1 ≤ ids p) (mine : there p ≡ true) (some_there : there c.at ≡ true → 1 ≤ ids c.at) where
  abbrev comes_after : ℕ → Bool
  comes_after word = is_after u.identity u.seat word c.at

  -- nobody wrote there
  blank : there c.at ≡ false → KnowsOf m ids there p (suc c.at) c.seen c.greater
  blank none = record {
    low = let low = h.low in rw none (omega arith);
    under = λ g. let under = h.under g in rw none (omega arith);
    over = h.over;
    own = λ l. elim (eqb_tells p c.at) [
      | inl e ↦ absurd (let gone : there p ≡ false = ap there e.1 ∙ none in cc)
      | inr n ↦ h.own (let ne = n.1 in omega arith)
    ];
  }

  here : there c.at ≡ true → KnowsOf m ids there p (suc c.at) (min (c.seen + 1) 255) (c.greater || comes_after (ids c.at))
  here is =
      let to = h.to in
      record {
        low = let low = h.low in rw is (omega arith);
        under = λ g.
            elim (cases_Bool c.greater) [
              | inl e ↦ absurd (let k : true ≡ false = rw e at g in cc)
              | inr e ↦
                  let k : comes_after (ids c.at) ≡ false = rw e at g in
                  let l : ids c.at * 128 + c.at ≤ u.identity * 128 + u.seat = after_not u.identity u.seat (ids c.at) c.at (omega arith) (omega arith) k in
                  let l' : rank ids c.at ≤ rank ids p = omega arith in
                  let t : is_up_to ids p c.at ≡ true = grind (arith, nat_tests) in
                  let under = h.under e in
                  rw (is, t) (omega arith)
            ];
        over = λ g.
            elim (cases_Bool c.greater) [
              | inl e ↦ h.over e
              | inr e ↦
                  let k : comes_after (ids c.at) ≡ true = rw e at g in
                  let l : u.identity * 128 + u.seat < ids c.at * 128 + c.at = after_more u.identity u.seat (ids c.at) c.at (omega arith) (omega arith) k in
                  record { seat = c.at; low = omega arith; inside = is; more = omega arith }
            ];
        own = λ l. omega arith;
      }

  -- what a word shows that says whether the seat wrote
  pub knows : (word : ℕ) → word ≡ (if there c.at then ids c.at else 0) → KnowsOf m ids there p (suc c.at) (surveyed u c word).seen (surveyed u c word).greater
  knows word is = elim (cases_Bool (there c.at)) [
    | inl e ↦ let w : word ≡ ids c.at = rw e at is in let not_zero : (ids c.at == 0) ≡ false = (let one = some_there e in ne_eqb (ids c.at) 0 (λ z. omega arith)) in rw (w, not_zero) (here e)
    | inr e ↦ let w : word ≡ 0 = rw e at is in rw w (blank e)
  ]

  -- who has counted all goes on to have counted all
  pub counts_all : (word : ℕ) → word ≡ (if there c.at then ids c.at else 0) → count_to there c.at ≤ c.seen → count_to there (suc c.at) ≤ (surveyed u c word).seen
  counts_all word is all = elim (cases_Bool (there c.at)) [
    | inl e ↦ let w : word ≡ ids c.at = rw e at is in let not_zero : (ids c.at == 0) ≡ false = (let one = some_there e in ne_eqb (ids c.at) 0 (λ z. omega arith)) in let low = h.low in let to = h.to in let many = count_to-le there c.at in rw (w, not_zero, e) (omega arith)
    | inr e ↦ let w : word ≡ 0 = rw e at is in rw (w, e) (omega arith)
  ]

  -- one that reads on
  pub reads_on : (word : ℕ) → word ≡ (if there c.at then ids c.at else 0) → c.at < m → HasRead m ids there p (read_next (surveyed u c word))
  reads_on word is l =
      let k = knows word is in
      let next : min (c.at + 1) 255 ≡ suc c.at = omega arith in
      rw next (record { from = omega arith; to = omega arith; low = k.low; under = k.under; over = k.over; own = k.own })
