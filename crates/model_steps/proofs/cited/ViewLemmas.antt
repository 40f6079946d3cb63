-- lists of pairs by rising identity
use Rattle.std.proofs.Common.{◌≡◌, ◌≢◌, ℕ, zero, suc, ◌+◌, ◌-◌, ◌<◌, ◌≤◌, ◌==◌, true, false, cond, List, [], ◌∷◌, ◌++◌, Some, None, map, ◌⊎◌, inl, inr, length, get_or, set, take, drop, replicate, refl, sym, ap, subst, ◌∙◌, arith, add-one, append_assoc, nat_lt, if◌then◌else◌, IsSome}
use Rattle.std.specs.List.{IsDistinct, AllByRecursion, Contains, list_any}
use Rattle.std.specs.Cmp.{nat_eq_equiv}
use Rattle.std.proofs.lemmas.Map.Made.{length-le_from_is_member}
use Rattle.std.proofs.lemmas.Map.Views.{list_any-from_Contains}
use Rattle.std.proofs.lemmas.List.{length-map}
use Rattle.std.proofs.Math.Seq.{drop-cons}
use Rattle.std.proofs.lemmas.List.{take-append-drop, take_more_set, take_more, length-take-le, drop-set-lt, get_or-take, drop-replicate}
use Rattle.std.proofs.lemmas.Bool.Decides.{nat_tests, eqb_tells, leb_tells, Decides-eqb}
use Rattle.model_steps.specs.View.{IsAbove, IsRising, value_of, inserted}

ltb_true : (a b : ℕ) → a < b → nat_lt a b ≡ true
ltb_true a b h = grind (arith, nat_tests)

ltb_false : (a b : ℕ) → b ≤ a → nat_lt a b ≡ false
ltb_false a b h = grind (arith, nat_tests)

ltb_tells : (a b : ℕ) → ((nat_lt a b ≡ true) × (a < b)) ⊎ ((nat_lt a b ≡ false) × (b ≤ a))
ltb_tells a b = elim (leb_tells b a) [ inl w ↦ inr (ltb_false a b w.1, w.1) | inr w ↦ inl (ltb_true a b w.1, w.1) ]

-- the rest of what rises rises
pub IsRising-drop : (i : ℕ) (xs : List (ℕ × ℕ)) → IsRising xs → IsRising (drop i xs)
IsRising-drop zero xs h = h
IsRising-drop (suc i) [] h = h
IsRising-drop (suc i) (x ∷ xs) h = IsRising-drop i xs h.1

-- what stands below all of the others comes first
pub inserted-below : (x : ℕ × ℕ) (xs : List (ℕ × ℕ)) → IsAbove x.0 xs → inserted xs x ≡ x ∷ xs
inserted-below x [] h = refl
inserted-below x (y ∷ ys) h = rw (ltb_true x.0 y.0 h) refl

above_further : (n m : ℕ) (xs : List (ℕ × ℕ)) → IsAbove m xs → n ≤ m → IsAbove n xs
above_further n m [] h l = tt
above_further n m (x ∷ xs) h l = omega (arith, h, l)

IsAbove-inserted : (n : ℕ) (xs : List (ℕ × ℕ)) (new : ℕ × ℕ) → IsAbove n xs → n < new.0 → IsAbove n (inserted xs new)
IsAbove-inserted n [] new h l = l
IsAbove-inserted n (x ∷ xs) new h l =
    elim (nat_lt new.0 x.0) as (λ b. IsAbove n (cond b (new ∷ x ∷ xs) (cond (x.0 == new.0) (new ∷ xs) (x ∷ inserted xs new)))) [
      | true ↦ l
      | false ↦ elim (x.0 == new.0) as (λ b. IsAbove n (cond b (new ∷ xs) (x ∷ inserted xs new))) [ true ↦ l | false ↦ h ]
    ]

-- pairs that rise still rise with one more
pub IsRising-inserted : (xs : List (ℕ × ℕ)) (new : ℕ × ℕ) → IsRising xs → IsRising (inserted xs new)
IsRising-inserted [] new h = (tt, tt)
IsRising-inserted (x ∷ xs) new h =
    elim (ltb_tells new.0 x.0) [
      | inl w ↦ rw w.0 (w.1, h)
      | inr w ↦ elim (eqb_tells x.0 new.0) [
        | inl v ↦ rw (w.0, v.0) (subst (λ (n : ℕ). IsAbove n xs) v.1 h.0, h.1)
        | inr v ↦ rw (w.0, v.0) (IsAbove-inserted x.0 xs new h.0 (let k = v.1 in let l = w.1 in omega arith), IsRising-inserted xs new h.1)
      ]
    ]

-- what is found after an insertion
pub value_of-inserted : (q : ℕ) (xs : List (ℕ × ℕ)) (new : ℕ × ℕ) → value_of q (inserted xs new) ≡ (if new.0 == q then Some new.1 else value_of q xs)
value_of-inserted q [] new = refl
value_of-inserted q (x ∷ xs) new =
    elim (nat_lt new.0 x.0) as (λ b. value_of q (cond b (new ∷ x ∷ xs) (cond (x.0 == new.0) (new ∷ xs) (x ∷ inserted xs new))) ≡ cond (new.0 == q) (Some new.1) (cond (x.0 == q) (Some x.1) (value_of q xs))) [
      | true ↦ refl
      | false ↦ elim (eqb_tells x.0 new.0) [
        | inl v ↦ rw (v.0, v.1) (elim (new.0 == q) as (λ b. cond b (Some new.1) (value_of q xs) ≡ cond b (Some new.1) (cond b (Some x.1) (value_of q xs))) [ true ↦ refl | false ↦ refl ])
        | inr v ↦ rw v.0 (elim (eqb_tells x.0 q) [
          | inl u ↦ let other : (new.0 == q) ≡ false = (elim (eqb_tells new.0 q) [ inl t ↦ absurd (v.1 (u.1 ∙ sym t.1)) | inr t ↦ t.0 ]) in rw (u.0, other) refl
          | inr u ↦ rw u.0 (value_of-inserted q xs new)
        ])
      ]
    ]

pub length-inserted : (xs : List (ℕ × ℕ)) (new : ℕ × ℕ) → length (inserted xs new) ≤ length xs + 1
length-inserted [] new = omega arith
length-inserted (x ∷ xs) new =
    let i = length-inserted xs new in
    elim (nat_lt new.0 x.0) as (λ b. length (cond b (new ∷ x ∷ xs) (cond (x.0 == new.0) (new ∷ xs) (x ∷ inserted xs new))) ≤ suc (length xs) + 1) [
      | true ↦ omega arith
      | false ↦ elim (x.0 == new.0) as (λ b. length (cond b (new ∷ xs) (x ∷ inserted xs new)) ≤ suc (length xs) + 1) [ true ↦ omega arith | false ↦ omega (arith, i) ]
    ]

-- a loop that puts a pair in: now is what stands after i pairs, old what stood before
module _ (now old : List (ℕ × ℕ)) (len i : ℕ) (carried new : ℕ × ℕ) (inside : i < len) (room : len < length old) (same : length now ≡ length old)
    (done : take i now ++ inserted (drop i (take len old)) carried ≡ inserted (take len old) new) (rest : drop i now ≡ drop i old) where
  abbrev pub here : ℕ × ℕ
  here = get_or now i (0, 0)

  all : length (take len old) ≡ len
  all = length-take-le len old (omega arith)

  at_i : drop i (take len old) ≡ here ∷ drop (i + 1) (take len old)
  at_i =
      let a = all in
      let cut : drop i (take len old) ≡ get_or (take len old) i (0, 0) ∷ drop (suc i) (take len old) = drop-cons (take len old) i (0, 0) (omega arith) in
      let one : drop i now ≡ here ∷ drop (suc i) now = drop-cons now i (0, 0) (omega arith) in
      let other : drop i old ≡ get_or old i (0, 0) ∷ drop (suc i) old = drop-cons old i (0, 0) (omega arith) in
      let both : here ∷ drop (suc i) now ≡ get_or old i (0, 0) ∷ drop (suc i) old = sym one ∙ rest ∙ other in
      let value : here ≡ get_or old i (0, 0) = cc in
      cut ∙ rw (get_or-take len old i (0, 0) inside, value, add-one i) refl

  rest_next : drop (i + 1) now ≡ drop (i + 1) old
  rest_next =
      let one : drop i now ≡ here ∷ drop (suc i) now = drop-cons now i (0, 0) (omega arith) in
      let other : drop i old ≡ get_or old i (0, 0) ∷ drop (suc i) old = drop-cons old i (0, 0) (omega arith) in
      let both : here ∷ drop (suc i) now ≡ get_or old i (0, 0) ∷ drop (suc i) old = sym one ∙ rest ∙ other in
      let tails : drop (suc i) now ≡ drop (suc i) old = cc in
      rw add-one tails

  rising_next : IsRising (take len old) → IsAbove here.0 (drop (i + 1) (take len old))
  rising_next h = let r : IsRising (here ∷ drop (i + 1) (take len old)) = rw at_i at (IsRising-drop i (take len old) h) in r.0

  -- a pair of the same identity is replaced
  pub put_equal : carried.0 ≡ here.0 → take (i + 1) (set now i carried) ++ drop (i + 1) (take len old) ≡ inserted (take len old) new
  put_equal e =
      let not_below : nat_lt carried.0 here.0 ≡ false = ltb_false carried.0 here.0 (omega arith) in
      let equal : (here.0 == carried.0) ≡ true = grind (arith, nat_tests) in
      let there : inserted (drop i (take len old)) carried ≡ carried ∷ drop (i + 1) (take len old) = rw (at_i, not_below, equal) refl in
      rw (take_more_set now i carried (omega arith), append_assoc) (rw there at done)

  -- one that is below goes here, and this one is carried on
  pub put_below : IsRising (take len old) → carried.0 < here.0 → take (i + 1) (set now i carried) ++ inserted (drop (i + 1) (take len old)) here ≡ inserted (take len old) new
  put_below h l =
      let below : nat_lt carried.0 here.0 ≡ true = ltb_true carried.0 here.0 l in
      let there : inserted (drop i (take len old)) carried ≡ carried ∷ here ∷ drop (i + 1) (take len old) = rw (at_i, below) refl in
      rw (take_more_set now i carried (omega arith), append_assoc, inserted-below here (drop (i + 1) (take len old)) (rising_next h)) (rw there at done)

  -- one that is above is carried on
  pub put_above : here.0 < carried.0 → take (i + 1) now ++ inserted (drop (i + 1) (take len old)) carried ≡ inserted (take len old) new
  put_above l =
      let not_below : nat_lt carried.0 here.0 ≡ false = ltb_false carried.0 here.0 (omega arith) in
      let not_equal : (here.0 == carried.0) ≡ false = grind (arith, nat_tests) in
      let there : inserted (drop i (take len old)) carried ≡ here ∷ inserted (drop (i + 1) (take len old)) carried = rw (at_i, not_below, not_equal) refl in
      rw (take_more now i (0, 0) (let r = room in omega arith), append_assoc) (rw there at done)

  pub rest_set : drop (i + 1) (set now i carried) ≡ drop (i + 1) old
  rest_set = drop-set-lt (i + 1) now i carried (omega arith) ∙ rest_next

  pub rest_kept : drop (i + 1) now ≡ drop (i + 1) old
  rest_kept = rest_next

one_less : (n : ℕ) → 64 - n - 1 ≡ 64 - (n + 1)
one_less n = omega arith

-- after one more pair there is one zero less
pub zeros_next : (pairs : List (ℕ × ℕ)) (len : ℕ) → len < length pairs → drop len pairs ≡ replicate (64 - len) (0, 0) → drop (len + 1) pairs ≡ replicate (64 - (len + 1)) (0, 0)
zeros_next pairs len l h =
    let one : drop len pairs ≡ get_or pairs len (0, 0) ∷ drop (suc len) pairs = drop-cons pairs len (0, 0) l in
    let tail : drop 1 (drop len pairs) ≡ drop (suc len) pairs = ap (drop 1) one in
    let fewer : drop 1 (replicate (64 - len) (0, 0)) ≡ replicate (64 - len - 1) (0, 0) = drop-replicate 1 (64 - len) (0, 0) in
    rw (add-one len) (sym tail ∙ ap (drop 1) h ∙ fewer ∙ ap (λ n. replicate n (0, 0)) (one_less len ∙ rw (add-one len) refl))

-- lists that are equal from k on are equal further on
pub drop_further : {X : Type 0} (k n : ℕ) (xs ys : List X) → length xs ≡ length ys → k ≤ n → drop k xs ≡ drop k ys → drop n xs ≡ drop n ys
drop_further zero n xs ys l h e = ap (drop n) e
drop_further (suc k) zero xs ys l h e = absurd (omega arith)
drop_further (suc k) (suc n) [] [] l h e = refl
drop_further (suc k) (suc n) [] (y ∷ ys) l h e = absurd (omega arith)
drop_further (suc k) (suc n) (x ∷ xs) [] l h e = absurd (omega arith)
drop_further (suc k) (suc n) (x ∷ xs) (y ∷ ys) l h e = drop_further k n xs ys (omega arith) (omega arith) e

-- the prefix of a list that is equal to another from k on
pub take_cut : {X : Type 0} (k n : ℕ) (xs ys : List X) → length xs ≡ length ys → k ≤ n → drop k xs ≡ drop k ys → take n xs ≡ take k xs ++ drop k (take n ys)
take_cut zero n xs ys l h e = ap (take n) e
take_cut (suc k) zero xs ys l h e = absurd (omega arith)
take_cut (suc k) (suc n) [] [] l h e = refl
take_cut (suc k) (suc n) [] (y ∷ ys) l h e = absurd (omega arith)
take_cut (suc k) (suc n) (x ∷ xs) [] l h e = absurd (omega arith)
take_cut (suc k) (suc n) (x ∷ xs) (y ∷ ys) l h e = ap (λ zs. x ∷ zs) (take_cut k n xs ys (omega arith) (omega arith) e)

-- who stands below all pairs has none
pub value_of-below : (q n : ℕ) (xs : List (ℕ × ℕ)) → IsRising xs → IsAbove n xs → q ≤ n → value_of q xs ≡ None
value_of-below q n [] rising above le = refl
value_of-below q n (x ∷ xs) rising above le =
    elim (eqb_tells x.0 q) [
      | inl e ↦ absurd (let same = e.1 in omega arith)
      | inr e ↦ rw e.0 (value_of-below q x.0 xs rising.1 rising.0 (omega arith))
    ]

-- pairs that rise are reported by their values
pub equal_values : (xs ys : List (ℕ × ℕ)) → IsRising xs → IsRising ys → ((q : ℕ) → value_of q xs ≡ value_of q ys) → xs ≡ ys
equal_values [] [] h k e = refl
equal_values [] (y ∷ ys) h k e =
    let own : (y.0 == y.0) ≡ true = (Decides-eqb y.0 y.0).1 refl in
    absurd (let some : None ≡ Some y.1 = (let values = e y.0 in rw own at values) in cc)
equal_values (x ∷ xs) [] h k e =
    let own : (x.0 == x.0) ≡ true = (Decides-eqb x.0 x.0).1 refl in
    absurd (let some : Some x.1 ≡ None = (let values = e x.0 in rw own at values) in cc)
equal_values (x ∷ xs) (y ∷ ys) h k e =
    let x_own : (x.0 == x.0) ≡ true = (Decides-eqb x.0 x.0).1 refl in
    let y_own : (y.0 == y.0) ≡ true = (Decides-eqb y.0 y.0).1 refl in
    elim (eqb_tells x.0 y.0) [
      | inl same ↦
          let swapped : (y.0 == x.0) ≡ true = (Decides-eqb y.0 x.0).1 (sym same.1) in
          let value : Some x.1 ≡ Some y.1 = (let values = e x.0 in rw (x_own, swapped) at values) in
          let value_is : x.1 ≡ y.1 = cc in
          let first : x ≡ y = ap (λ i. (i, x.1)) same.1 ∙ ap (λ v. (y.0, v)) value_is in
          let rest : (q : ℕ) → value_of q xs ≡ value_of q ys = (λ q. elim (eqb_tells x.0 q) [
            | inl t ↦
                value_of-below q x.0 xs h.1 h.0 (let i = t.1 in omega arith) ∙ sym (value_of-below q y.0 ys k.1 k.0 (let i = t.1 in let j = same.1 in omega arith))
            | inr t ↦ let other : (y.0 == q) ≡ false = (elim (eqb_tells y.0 q) [ inl u ↦ absurd (t.1 (same.1 ∙ u.1)) | inr u ↦ u.0 ]) in (let values = e q in rw (t.0, other) at values)
          ]) in
          ap (λ z. z ∷ xs) first ∙ ap (λ zs. y ∷ zs) (equal_values xs ys h.1 k.1 rest)
      | inr apart ↦ elim (ltb_tells x.0 y.0) [
        | inl below ↦
            let none : value_of x.0 (y ∷ ys) ≡ None = (let other : (y.0 == x.0) ≡ false = (elim (eqb_tells y.0 x.0) [ inl u ↦ absurd (apart.1 (sym u.1)) | inr u ↦ u.0 ]) in
            rw other (value_of-below x.0 y.0 ys k.1 k.0 (let l = below.1 in omega arith))) in
            absurd (let some : Some x.1 ≡ value_of x.0 (y ∷ ys) = (let values = e x.0 in rw x_own at values) in let never : Some x.1 ≡ None = some ∙ none in cc)
        | inr below ↦
            let none : value_of y.0 (x ∷ xs) ≡ None = rw apart.0 (value_of-below y.0 x.0 xs h.1 h.0 (let l = below.1 in omega arith)) in
            absurd (let some : value_of y.0 (x ∷ xs) ≡ Some y.1 = (let values = e y.0 in rw y_own at values) in let never : None ≡ Some y.1 = sym none ∙ some in cc)
      ]
    ]

-- the identities of pairs that rise are distinct
all_above : (n : ℕ) (xs : List (ℕ × ℕ)) → IsRising xs → IsAbove n xs → AllByRecursion (λ y. (n == y) ≡ false) (map (λ p. p.0) xs)
all_above n [] h a = tt
all_above n (x ∷ xs) h a = (
  elim (eqb_tells n x.0) [ inl e ↦ absurd (let same = e.1 in omega arith) | inr e ↦ e.0 ],
  all_above n xs h.1 (above_further n x.0 xs h.0 (let l = a in omega arith)),
)

pub distinct_identities : (xs : List (ℕ × ℕ)) → IsRising xs → IsDistinct ◌==◌ (map (λ p. p.0) xs)
unfolding IsDistinct
distinct_identities [] h = tt
distinct_identities (x ∷ xs) h = (all_above x.0 xs h.1 h.0, distinct_identities xs h.1)

-- who stands in the list has a value
listed_value : (q : ℕ) (xs : List (ℕ × ℕ)) → list_any (λ y. q == y) (map (λ p. p.0) xs) ≡ true → IsSome (value_of q xs)
listed_value q [] h = absurd (cc)
listed_value q (x ∷ xs) h =
    elim (eqb_tells x.0 q) [
      | inl e ↦ rw e.0 refl
      | inr e ↦ let other : (q == x.0) ≡ false = (elim (eqb_tells q x.0) [ inl u ↦ absurd (e.1 (sym u.1)) | inr u ↦ u.0 ]) in rw e.0 (listed_value q xs (rw other at h))
    ]

-- pairs whose identities are all among some are no more than these
pub among_identities : (pairs : List (ℕ × ℕ)) (identities : List ℕ) → IsRising pairs → ((q : ℕ) → IsSome (value_of q pairs) → Contains identities q) → length pairs ≤ length identities
among_identities pairs identities rising among =
    let few = length-le_from_is_member nat_eq_equiv (map (λ p. p.0) pairs) identities (distinct_identities pairs rising)
    (λ q h. list_any-from_Contains nat_eq_equiv q identities (among q (listed_value q pairs h))) in
    omega (arith, few, length-map pairs (λ p. p.0))

-- a list that was changed at one place, in its parts
set_cut : (xs : List (ℕ × ℕ)) (i : ℕ) (new : ℕ × ℕ) → i < length xs → set xs i new ≡ take i xs ++ new ∷ drop (i + 1) xs
set_cut xs i new inside =
    sym (take-append-drop (i + 1) (set xs i new))
    ∙ ap (λ ys. ys ++ drop (i + 1) (set xs i new)) (take_more_set xs i new inside)
    ∙ ap (λ ys. (take i xs ++ new ∷ []) ++ ys) (drop-set-lt (i + 1) xs i new (omega arith))
    ∙ append_assoc (take i xs) (new ∷ []) (drop (i + 1) xs)

-- a loop that looks for the pair to replace: it is among those from i on
pub record IsAhead (i : ℕ) (xs : List (ℕ × ℕ)) (new : ℕ × ℕ) : Type 0 where
  pub there : IsSome (value_of new.0 (drop i xs))
  pub done : take i xs ++ inserted (drop i xs) new ≡ inserted xs new

module _ (xs : List (ℕ × ℕ)) (i : ℕ) (new : ℕ × ℕ) (inside : i < length xs) (ahead : IsAhead i xs new) where
  abbrev pub at : ℕ × ℕ
  at = get_or xs i (0, 0)

  cut_here : drop i xs ≡ at ∷ drop (i + 1) xs
  cut_here = drop-cons xs i (0, 0) inside ∙ rw (add-one i) refl

  -- it stands here
  pub replaced_here : at.0 ≡ new.0 → set xs i new ≡ inserted xs new
  replaced_here e =
      let not_below : nat_lt new.0 at.0 ≡ false = ltb_false new.0 at.0 (omega arith) in
      let equal : (at.0 == new.0) ≡ true = (Decides-eqb at.0 new.0).1 e in
      let there : inserted (drop i xs) new ≡ new ∷ drop (i + 1) xs = rw (cut_here, not_below, equal) refl in
      let cut : set xs i new ≡ take i xs ++ new ∷ drop (i + 1) xs = set_cut xs i new inside in
      cut ∙ ap (λ ys. take i xs ++ ys) (sym there) ∙ ahead.done

  -- it stands further on
  pub ahead_next : IsRising xs → at.0 ≢ new.0 → IsAhead (i + 1) xs new
  ahead_next rising n =
      let apart : (at.0 == new.0) ≡ false = (elim (eqb_tells at.0 new.0) [ inl e ↦ absurd (n e.1) | inr e ↦ e.0 ]) in
      let rest_rises : IsRising (at ∷ drop (i + 1) xs) = rw cut_here at (IsRising-drop i xs rising) in
      let in_rest : IsSome (value_of new.0 (drop (i + 1) xs)) = rw (cut_here, apart) at ahead.there in
      let above : at.0 < new.0 = elim (ltb_tells at.0 new.0) [
        | inl l ↦ l.1
        | inr l ↦ absurd (let none = value_of-below new.0 at.0 (drop (i + 1) xs) rest_rises.1 rest_rises.0 l.1 in let never : false ≡ true = rw none at in_rest in cc)
      ] in
      let not_below : nat_lt new.0 at.0 ≡ false = ltb_false new.0 at.0 (omega (arith, above)) in
      let there : inserted (drop i xs) new ≡ at ∷ inserted (drop (i + 1) xs) new = rw (cut_here, not_below, apart) refl in
      record {
        there = in_rest;
        done = rw (take_more xs i (0, 0) inside, append_assoc) (rw there at ahead.done);
      }
