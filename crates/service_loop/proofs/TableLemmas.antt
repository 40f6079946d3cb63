-- a connection is given the next number
use Rattle.std.proofs.Common.{◌≡◌, ◌⊎◌, inl, inr, ℕ, zero, suc, ◌<◌, ◌≤◌, ◌+◌, List, [], ◌∷◌, ◌++◌, length, set, refl, sym, subst, ◌∙◌, arith}
use Rattle.service_loop.proofs.Common.{cases_eq, get_or-set_same, get_or-set_other}
use Rattle.service_loop.specs.Attending.{number_at}
use Rattle.service_loop.specs.Table.{AreNumbered}

pub numbered_at : (numbers : List ℕ) (key next : ℕ) → key < length numbers → AreNumbered numbers next → (number_at (set numbers key next) key ≡ next) × AreNumbered (set numbers key next) (next + 1)
numbered_at numbers key next inside so =
    let here = get_or-set_same numbers key next 0 inside in
    let there : (i : ℕ) → (i ≡ key → ⊥) → number_at (set numbers key next) i ≡ number_at numbers i = λ i other. get_or-set_other numbers key i next 0 other in (
      here,
      record {
        below = λ i. elim (cases_eq i key) as (λ _. number_at (set numbers key next) i < next + 1) [
          | inl same ↦ subst (λ (k : ℕ). number_at (set numbers key next) k < next + 1) (sym same) (rw here (omega arith))
          | inr other ↦ rw (there i other) (let lt = so.below i in omega (arith, lt))
        ];
        own = λ i j same. elim (cases_eq i key) as (λ _. (i ≡ j) ⊎ (number_at (set numbers key next) i ≡ 0)) [
          | inl first ↦ elim (cases_eq j key) as (λ _. (i ≡ j) ⊎ (number_at (set numbers key next) i ≡ 0)) [
            | inl second ↦ inl (first ∙ sym second)
            | inr other ↦ absurd (let e : next ≡ number_at numbers j = sym here ∙ subst (λ (k : ℕ). number_at (set numbers key next) k ≡ number_at (set numbers key next) j) first same ∙ there j other in
                let lt = so.below j in omega (arith, e, lt))
          ]
          | inr first ↦ elim (cases_eq j key) as (λ _. (i ≡ j) ⊎ (number_at (set numbers key next) i ≡ 0)) [
            | inl second ↦ absurd (let e : number_at numbers i ≡ next = sym (there i first) ∙ subst (λ (k : ℕ). number_at (set numbers key next) i ≡ number_at (set numbers key next) k) second same ∙ here in
                let lt = so.below i in omega (arith, e, lt))
            | inr other ↦ rw (there i first) (so.own i j (sym (there i first) ∙ same ∙ there j other))
          ]
        ];
      },
    )

-- a seat has no number, and there is none
pub cleared : (numbers : List ℕ) (key : ℕ) → number_at (set numbers key 0) key ≡ 0
cleared [] key = refl
cleared (n ∷ ns) zero = refl
cleared (n ∷ ns) (suc key) = cleared ns key

pub unnumbered : (numbers : List ℕ) (key : ℕ) → length numbers ≤ key → number_at numbers key ≡ 0
unnumbered [] key none = refl
unnumbered (n ∷ ns) zero none = absurd (omega (arith, none))
unnumbered (n ∷ ns) (suc key) none = unnumbered ns key (omega (arith, none))

pub numbered_none : (numbers : List ℕ) (key next : ℕ) → 0 < next → AreNumbered numbers next → AreNumbered (set numbers key 0) next
numbered_none numbers key next some so =
    let there : (i : ℕ) → (i ≡ key → ⊥) → number_at (set numbers key 0) i ≡ number_at numbers i = λ i other. get_or-set_other numbers key i 0 0 other in
    let either : (i : ℕ) → (number_at (set numbers key 0) i ≡ 0) ⊎ (number_at (set numbers key 0) i ≡ number_at numbers i) = λ i. elim (cases_eq i key) as (λ _. (number_at (set numbers key 0) i ≡ 0) ⊎ (number_at (set numbers key 0) i ≡ number_at numbers i)) [
      | inl same ↦ inl (subst (λ (k : ℕ). number_at (set numbers key 0) k ≡ 0) (sym same) (cleared numbers key))
      | inr other ↦ inr (there i other)
    ] in
    record {
      below = λ i. elim (either i) as (λ _. number_at (set numbers key 0) i < next) [
        | inl none ↦ rw none some
        | inr same ↦ rw same (so.below i)
      ];
      own = λ i j same. elim (either i) as (λ _. (i ≡ j) ⊎ (number_at (set numbers key 0) i ≡ 0)) [
        | inl none ↦ inr none
        | inr first ↦ elim (either j) as (λ _. (i ≡ j) ⊎ (number_at (set numbers key 0) i ≡ 0)) [
          | inl none ↦ inr (same ∙ none)
          | inr second ↦ rw first (so.own i j (sym first ∙ same ∙ second))
        ]
      ];
    }

-- one seat more
number_more : (numbers : List ℕ) (i : ℕ) → number_at (numbers ++ 0 ∷ []) i ≡ number_at numbers i
number_more [] zero = refl
number_more [] (suc i) = refl
number_more (n ∷ ns) zero = refl
number_more (n ∷ ns) (suc i) = number_more ns i

pub numbered_more : (numbers : List ℕ) (next : ℕ) → AreNumbered numbers next → AreNumbered (numbers ++ 0 ∷ []) next
numbered_more numbers next so = record {
  below = λ i. rw (number_more numbers i) (so.below i);
  own = λ i j same. rw (number_more numbers i) (so.own i j (sym (number_more numbers i) ∙ same ∙ number_more numbers j));
}

pub numbered_empty : AreNumbered [] 1
numbered_empty = record { below = λ i. omega arith; own = λ i j same. inr refl }
