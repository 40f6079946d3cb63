-- a number is crowded in a row exactly where it stands at two seats
use Rattle.std.proofs.Common.{◌≡◌, ℕ, zero, suc, ◌+◌, ◌<◌, ◌≤◌, ◌==◌, ◌↔◌, inl, inr, true, false, cond, List, [], ◌∷◌, length, get_or, refl, sym, ap, ◌∙◌, arith, Some, None, Option, count_by, slice_index, slice_set, nat_lt}
use Rattle.text_checker.proofs.judges_lemmas.Common.{cases_Bool, ltb-true, ltb-false, lt-ltb, ne_eqb, eq-eqb, false≢true, eqb_tells, get_or-set_same, get_or-set_other, length-set, IsConflict, IsSole, Moments, Turn, crowded, number_reported, reported_in, HoldsTurns}
use Rattle.std.proofs.lemmas.List.Sums.{sum_by-cons, sum_by-set}

count-cons : (n x : ℕ) (xs : List ℕ) → count_by (λ y. y == n) (x ∷ xs) ≡ cond {A = ℕ} (x == n) 1 0 + count_by (λ y. y == n) xs
count-cons n x xs = sum_by-cons (λ y. cond {A = ℕ} (y == n) 1 0) x xs

one : (xs : List ℕ) (n j : ℕ) → j < length xs → get_or xs j 0 ≡ n → 0 < count_by (λ y. y == n) xs
one [] n j l e = absurd (omega arith)
one (x ∷ xs) n zero l e = rw (count-cons n x xs, eq-eqb x n e) (omega arith)
one (x ∷ xs) n (suc j) l e = (let more = one xs n j (omega arith) e in rw (count-cons n x xs) (omega arith))

-- n stands at a place
record At (xs : List ℕ) (n : ℕ) : Type 0 where
  at : ℕ
  inside : at < length xs
  is : get_or xs at 0 ≡ n

found : (xs : List ℕ) (n : ℕ) → 0 < count_by (λ y. y == n) xs → At xs n
found [] n l = absurd (omega arith)
found (x ∷ xs) n l = elim (eqb_tells x n) [
  | inl y ↦ record { at = 0; inside = omega arith; is = y.1 }
  | inr y ↦ let k = found xs n (let more = rw (count-cons n x xs, y.0) at l in omega arith) in record { at = suc k.at; inside = (let i = k.inside in omega arith); is = k.is }
]

-- where n stood and another number is put, it stands once less
less : (xs : List ℕ) (n j : ℕ) → j < length xs → get_or xs j 0 ≡ n → count_by (λ y. y == n) (slice_set xs j (suc n)) + 1 ≡ count_by (λ y. y == n) xs
less xs n j l e =
    let sums = sum_by-set (λ y. cond {A = ℕ} (y == n) 1 0) xs j (suc n) 0 l in
    let own : cond {A = ℕ} (get_or xs j 0 == n) 1 0 ≡ 1 = rw (eq-eqb (get_or xs j 0) n e) refl in
    let other : cond {A = ℕ} (suc n == n) 1 0 ≡ 0 = rw (ne_eqb (suc n) n (λ k. absurd (omega arith))) refl in
    omega (arith, sums, own, other)

-- so it stands twice just where it stands at another place too
two : (xs : List ℕ) (n j k : ℕ) → (j ≡ k → ⊥) → j < length xs → k < length xs → get_or xs j 0 ≡ n → get_or xs k 0 ≡ n → 1 < count_by (λ y. y == n) xs
two xs n j k d l m e f =
    let once = less xs n j l e in
    let more = one (slice_set xs j (suc n)) n k (rw (length-set xs j (suc n)) m) (get_or-set_other xs j k (suc n) 0 (λ h. d (sym h)) ∙ f) in
    omega arith

another : (xs : List ℕ) (n j : ℕ) → j < length xs → get_or xs j 0 ≡ n → 1 < count_by (λ y. y == n) xs → (k : At xs n) × (k.at ≡ j → ⊥)
another xs n j l e c =
    let once = less xs n j l e in
    let k = found (slice_set xs j (suc n)) n (omega arith) in
    let inside = k.inside in
    let wide = length-set xs j (suc n) in
    let other : k.at ≡ j → ⊥ = λ same. absurd (let both : suc n ≡ n = sym (get_or-set_same xs j (suc n) 0 l) ∙ ap (λ i. get_or (slice_set xs j (suc n)) i 0) (sym same) ∙ k.is in omega arith) in
    (record { at = k.at; inside = omega arith; is = sym (get_or-set_other xs j k.at (suc n) 0 other) ∙ k.is }, other)

pub number_some : (n : ℕ) → 1 ≤ n → number_reported n ≡ Some n
number_some n l = rw (ne_eqb n 0 (λ e. absurd (omega arith))) refl

pub some_number : (k n : ℕ) → number_reported k ≡ Some n → (k ≡ n) × (1 ≤ n)
some_number k n h = elim (eqb_tells k 0) [
  | inl y ↦ absurd (let e : None ≡ Some n = rw y.0 at h in cc)
  | inr y ↦
      let e : Some k ≡ Some n = rw y.0 at h in
      let same : k ≡ n = cc in
      let some = y.1 in
      (same, omega arith)
]

-- what is reported in a row stands at a seat
pub record HasSeat (turns : ℕ → Option Turn) (row : List ℕ) (q n : ℕ) : Type 0 where
  pub turn : Turn
  pub is : turns q ≡ Some turn
  pub at : slice_index row turn.seat ≡ n
  pub positive : 1 ≤ n

pub has_seat : (turns : ℕ → Option Turn) (row : List ℕ) (q n : ℕ) (o : Option Turn) → turns q ≡ o → reported_in row o ≡ Some n → HasSeat turns row q n
has_seat turns row q n None e h = absurd (cc)
has_seat turns row q n (Some t) e h = (let k = some_number (slice_index row t.seat) n h in record { turn = t; is = e; at = k.0; positive = k.1 })

module _ (turns : ℕ → Option Turn) (many limit : ℕ) (m : Moments) (last : ℕ) (moment : ℕ → ℕ → Option ℕ) (counts sinces : ℕ → ℕ)
    (h : HoldsTurns turns many limit m last moment counts sinces) (i p n : ℕ) (t : Turn) (l : i ≤ last) (fits : many ≤ 64)
    (is : turns p ≡ Some t) (at : slice_index (h.rows i) t.seat ≡ n) (positive : 1 ≤ n) where
  abbrev row : List ℕ
  row = h.rows i

  wide : length row ≡ 64
  wide = h.held.wide i l

  -- it is what p proposes
  pub own : moment i p ≡ Some n
  own = h.shown i l p ∙ ap (reported_in row) is ∙ ap number_reported at ∙ number_some n positive

  crowd_of : (q : ℕ) → (q ≡ p → ⊥) → moment i q ≡ Some n → crowded n row ≡ true
  crowd_of q d says =
      let s = has_seat turns row q n (turns q) refl (sym (h.shown i l q) ∙ says) in
      let apart : t.seat ≡ s.turn.seat → ⊥ = (λ e. d (h.apart q p s.turn t s.is is (sym e))) in
      let a = h.seated p t is in
      let b = h.seated q s.turn s.is in
      let c = two row n t.seat s.turn.seat apart (rw wide (omega arith)) (rw wide (omega arith)) at s.at in
      lt-ltb 1 _ c

  pub conflicting : (crowded n row ≡ true) ↔ IsConflict (moment i) p
  conflicting = (
    (λ c.
        let seated = h.seated p t is in
        let k = another row n t.seat (rw wide (omega arith)) at (ltb-true _ _ c) in
        let inside : k.0.at < many = elim (cases_Bool (nat_lt k.0.at many)) [
          | inl y ↦ ltb-true _ _ y
          | inr y ↦ absurd (let z = h.unused i l k.0.at (ltb-false _ _ y) in let w = k.0.is in omega arith)
        ] in
        let who = h.taken k.0.at inside in
        let seat : slice_index row who.turn.seat ≡ n = ap (slice_index row) who.at ∙ k.0.is in
        record {
          number = n;
          own = own;
          contested = record {
            other = who.who;
            not_own = (λ e. k.1 (let f : Some who.turn ≡ Some t = sym who.is ∙ ap turns e ∙ is in let g : who.turn ≡ t = cc in sym who.at ∙ ap (λ x. x.seat) g));
            proposes = h.shown i l who.who ∙ ap (reported_in row) who.is ∙ ap number_reported seat ∙ number_some n positive;
          };
        }),
    (λ c.
        let e : Some c.number ≡ Some n = sym c.own ∙ own in
        crowd_of c.contested.other c.contested.not_own (c.contested.proposes ∙ e)),
  )

  pub standing_alone : (crowded n row ≡ false) ↔ IsSole (moment i) p n
  standing_alone = (
    (λ c. record { own = own; alone = λ q d says. false≢true (sym c ∙ crowd_of q d says) }),
    (λ s. elim (cases_Bool (crowded n row)) [
      | inl y ↦ (let c = conflicting.0 y in let e : Some c.number ≡ Some n = sym c.own ∙ own in absurd (s.alone c.contested.other c.contested.not_own (c.contested.proposes ∙ e)))
      | inr y ↦ y
    ]),
  )
