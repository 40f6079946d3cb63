-- free numbers
use Rattle.std.proofs.Common.{◌≡◌, ℕ, zero, suc, ◌+◌, ◌-◌, ◌*◌, ◌<◌, ◌≤◌, ◌==◌, Bool, true, false, not, cond, ◌&&◌, ◌||◌, ◌⊎◌, List, [], ◌∷◌, length, Some, inl, inr, refl, sym, ap, ◌∙◌, arith, nat_le}
use Rattle.model_asked.proofs.rounds_lemmas.Common.{eqb_tells, leb_tells, value_of}
use Rattle.std.specs.List.{count_by}
use Rattle.std.proofs.lemmas.Bool.{cases_Bool}
use Rattle.std.proofs.lemmas.List.Sums.{count_by-le-length, sum_by-cons}
use Rattle.model_asked.specs.rounds.Proposals.{is_taken, rank, free_up_to, least_with, next_proposal}

-- how many pairs are of another identity
abbrev pub others : ℕ → List (ℕ × ℕ) → ℕ
others id view = count_by (λ pair. not (pair.0 == id)) view

module _ (taken : ℕ → Bool) where
  pub free_taken : (n : ℕ) → taken (suc n) ≡ true → free_up_to taken (suc n) ≡ free_up_to taken n
  free_taken n h = rw h (omega arith)

  pub free_next : (n : ℕ) → (free_up_to taken n ≤ free_up_to taken (suc n)) × (free_up_to taken (suc n) ≤ free_up_to taken n + 1)
  free_next n = elim (taken (suc n)) as (λ b. (free_up_to taken n ≤ cond b 0 1 + free_up_to taken n) × (cond b 0 1 + free_up_to taken n ≤ free_up_to taken n + 1)) [ true ↦ (omega arith, omega arith) | false ↦ (omega arith, omega arith) ]

  pub free_rises : (m n : ℕ) → m ≤ n → free_up_to taken m ≤ free_up_to taken n
  free_rises m zero l = let e : m ≡ 0 = omega arith in rw e (omega arith)
  free_rises m (suc n) l = elim (eqb_tells m (suc n)) [
    | inl e ↦ rw e.1 (omega arith)
    | inr e ↦ let n_e = e.1 in let i = free_rises m n (omega arith) in let k = free_next n in omega arith
  ]

  -- the least number up to which so many are free
  pub least_is : (r n s : ℕ) → s ≤ n → r ≤ free_up_to taken s → (s ≡ 0) ⊎ ((m : ℕ) × (s ≡ suc m) × (free_up_to taken m < r)) → least_with taken r n ≡ s
  least_is r zero s l enough least = omega arith
  least_is r (suc n) s l enough least = elim (leb_tells r (free_up_to taken n)) [
    | inl e ↦ rw e.0 (elim (eqb_tells s (suc n)) [
      | inl f ↦ elim least [
        | inl z ↦ absurd (let g = f.1 in omega arith)
        | inr k ↦ let same : k.0 ≡ n = (let a = k.1 in let b = f.1 in omega arith) in absurd (let few = k.2 in let many = e.1 in let again = ap (free_up_to taken) same in omega arith)
      ]
      | inr f ↦ let g = f.1 in least_is r n s (omega arith) enough least
    ])
    | inr e ↦ rw e.0 (elim (eqb_tells s (suc n)) [
      | inl f ↦ sym f.1
      | inr f ↦ let g = f.1 in let below : s ≤ n = omega arith in let up = free_rises s n below in let few = e.1 in absurd (omega arith)
    ])
  ]

  pub least_has : (r n : ℕ) → r ≤ free_up_to taken n → free_up_to taken (least_with taken r n) ≡ r
  least_has r zero l = omega arith
  least_has r (suc n) l = elim (leb_tells r (free_up_to taken n)) [
    | inl e ↦ rw e.0 (least_has r n e.1)
    | inr e ↦ rw e.0 (let few = e.1 in let k = free_next n in omega arith)
  ]

  -- and it is free itself
  pub least_free : (r n : ℕ) → 1 ≤ r → r ≤ free_up_to taken n → taken (least_with taken r n) ≡ false
  least_free r zero some l = absurd (omega arith)
  least_free r (suc n) some l = elim (leb_tells r (free_up_to taken n)) [
    | inl e ↦ rw e.0 (least_free r n some e.1)
    | inr e ↦ rw e.0 (elim (cases_Bool (taken (suc n))) [ inl y ↦ absurd (let few = e.1 in let same = free_taken n y in omega arith) | inr not_taken ↦ not_taken ])
  ]

  -- where one number more is taken, one less is free
  module _ (x : ℕ) where
    abbrev with_x : ℕ → Bool
    with_x n = (x == n) || taken n

    below_x : (n : ℕ) → n < x → free_up_to with_x n ≡ free_up_to taken n
    below_x zero l = refl
    below_x (suc n) l = elim (eqb_tells x (suc n)) [
      | inl e ↦ absurd (let f = e.1 in omega arith)
      | inr e ↦ rw (e.0, below_x n (omega arith)) refl
    ]

    pub one_less : (n : ℕ) → free_up_to taken n ≤ free_up_to with_x n + 1
    one_less zero = omega arith
    one_less (suc n) = elim (eqb_tells x (suc n)) [
      | inl e ↦ rw e.0 (let same = below_x n (let f = e.1 in omega arith) in let k = free_next n in omega arith)
      | inr e ↦ rw e.0 (let i = one_less n in elim (taken (suc n)) as (λ b. cond b 0 1 + free_up_to taken n ≤ cond b 0 1 + free_up_to with_x n + 1) [ true ↦ omega arith | false ↦ omega arith ])
    ]

all_free : (n : ℕ) → free_up_to (λ m. false) n ≡ n
all_free zero = refl
all_free (suc n) = let i = all_free n in omega arith

-- each number is free or proposed by another
pub free_or_taken : (id : ℕ) (view : List (ℕ × ℕ)) (n : ℕ) → n ≤ free_up_to (is_taken id view) n + others id view
free_or_taken id [] n = let i = all_free n in omega arith
free_or_taken id (p ∷ view) n =
    let i = free_or_taken id view n in
    let o : others id (p ∷ view) ≡ cond (not (p.0 == id)) 1 0 + others id view = sum_by-cons (λ pair. cond (not (pair.0 == id)) 1 0) p view in
    let goal : n ≤ free_up_to (is_taken id (p ∷ view)) n + (cond (not (p.0 == id)) 1 0 + others id view) =
    elim (p.0 == id) as (λ b. n ≤ free_up_to (λ m. (not b && (p.1 == m)) || is_taken id view m) n + (cond (not b) 1 0 + others id view)) [
      | true ↦ omega arith
      | false ↦ let k = one_less (is_taken id view) p.1 n in omega arith
    ] in
    omega arith

pub others_few : (id : ℕ) (view : List (ℕ × ℕ)) → others id view ≤ length view
others_few id view = count_by-le-length (λ pair. not (pair.0 == id)) view

pub rank_few : (id : ℕ) (view : List (ℕ × ℕ)) → rank id view ≤ length view
rank_few id view = count_by-le-length (λ pair. nat_le pair.0 id) view

-- one's own pair is not of another, and counts for one's rank
pub own_pair : (id s : ℕ) (view : List (ℕ × ℕ)) → value_of id view ≡ Some s → (1 ≤ rank id view) × (others id view + 1 ≤ length view)
own_pair id s [] h = absurd (cc)
own_pair id s (p ∷ view) h =
    let r : rank id (p ∷ view) ≡ cond (nat_le p.0 id) 1 0 + rank id view = sum_by-cons (λ pair. cond (nat_le pair.0 id) 1 0) p view in
    let o : others id (p ∷ view) ≡ cond (not (p.0 == id)) 1 0 + others id view = sum_by-cons (λ pair. cond (not (pair.0 == id)) 1 0) p view in
    elim (eqb_tells p.0 id) [
      | inl e ↦
          let few = others_few id view in
          let low : nat_le p.0 id ≡ true = (elim (leb_tells p.0 id) [ inl f ↦ f.0 | inr f ↦ let g = f.1 in let k = e.1 in absurd (omega arith) ]) in
          let r2 : rank id (p ∷ view) ≡ 1 + rank id view = r ∙ ap (λ (b : Bool). cond b 1 0 + rank id view) low in
          let o2 : others id (p ∷ view) ≡ 0 + others id view = o ∙ ap (λ (b : Bool). cond (not b) 1 0 + others id view) e.0 in
          (omega arith, omega arith)
      | inr e ↦
          let i = own_pair id s view (rw e.0 at h) in
          let a = i.0 in
          let b = i.1 in
          let o2 : others id (p ∷ view) ≡ 1 + others id view = o ∙ ap (λ (b : Bool). cond (not b) 1 0 + others id view) e.0 in
          let r2 : rank id view ≤ rank id (p ∷ view) = (let z = r in omega arith) in
          (omega arith, omega arith)
    ]

-- what one proposes next after a view in which one is: it is at most twice as large as the view, less one
pub next_small : (id s : ℕ) (view : List (ℕ × ℕ)) → value_of id view ≡ Some s → (1 ≤ next_proposal id view) × (next_proposal id view ≤ 2 * length view - 1)
next_small id s view h =
    let own = own_pair id s view h in
    let a = own.0 in
    let b = own.1 in
    let r = rank_few id view in
    let top = rank id view + length view in
    let enough = free_or_taken id view (rank id view + length view) in
    let f = others_few id view in
    let has : free_up_to (is_taken id view) (next_proposal id view) ≡ rank id view = least_has (is_taken id view) (rank id view) (rank id view + length view) (omega arith) in
    let up = free_or_taken id view (next_proposal id view) in
    let low : 1 ≤ next_proposal id view = (elim (eqb_tells (next_proposal id view) 0) [ inl e ↦ absurd (let none : free_up_to (is_taken id view) (next_proposal id view) ≡ 0 = ap (free_up_to (is_taken id view)) e.1 in omega arith) | inr e ↦ let n = e.1 in omega arith ]) in
    (low, omega arith)

-- and no other proposes it
pub next_free : (id s : ℕ) (view : List (ℕ × ℕ)) → value_of id view ≡ Some s → is_taken id view (next_proposal id view) ≡ false
next_free id s view h =
    let own = own_pair id s view h in
    let a = own.0 in
    let b = own.1 in
    let enough = free_or_taken id view (rank id view + length view) in
    least_free (is_taken id view) (rank id view) (rank id view + length view) a (omega arith)
