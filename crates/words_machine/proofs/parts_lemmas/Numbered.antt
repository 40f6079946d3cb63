-- facts of each of a list, and of what is numbered by rising number
use Rattle.std.proofs.Common.{◌≡◌, ◌≢◌, ℕ, zero, suc, ◌+◌, ◌<◌, ◌≤◌, ap, subst, inl, inr, arith, List, [], ◌∷◌, ◌++◌}
use Rattle.std.proofs.lemmas.Bool.Decides.{eqb_tells}
use Rattle.words_machine.specs.parts.Numbered.{Each, NoneTwice, numbered_from}

module _ {A : Type 0} where
  pub each_map : (P Q : A → Type 0) → ((a : A) → P a → Q a) → (xs : List A) → Each P xs → Each Q xs
  each_map P Q f [] h = tt
  each_map P Q f (x ∷ xs) h = (f x h.0, each_map P Q f xs h.1)

  -- from two
  pub each_both : (P Q R : A → Type 0) → ((a : A) → P a → Q a → R a) → (xs : List A) → Each P xs → Each Q xs → Each R xs
  each_both P Q R f [] h k = tt
  each_both P Q R f (x ∷ xs) h k = (f x h.0 k.0, each_both P Q R f xs h.1 k.1)

  -- of those of two lists
  pub each_joined : (P : A → Type 0) (xs ys : List A) → Each P xs → Each P ys → Each P (xs ++ ys)
  each_joined P [] ys h k = k
  each_joined P (x ∷ xs) ys h k = (h.0, each_joined P xs ys h.1 k)

  -- what is so of each that is numbered is so of each number from `first` on
  pub of_numbered : (P : A → Type 0) (of : ℕ → A) (count first n : ℕ) → Each P (numbered_from of first count) → first ≤ n → n < first + count → P (of n)
  of_numbered P of zero first n all from below = absurd (omega arith)
  of_numbered P of (suc count) first n all from below = elim (eqb_tells first n) [
    | inl e ↦ subst (λ (k : ℕ). P (of k)) e.1 all.0
    | inr e ↦ of_numbered P of count (first + 1) n all.1 (let other = e.1 in omega arith) (omega arith)
  ]

-- it is the one of its number, which is `first` or greater and below `end`
pub record IsNumbered {A : Type 0} (number : A → ℕ) (of : ℕ → A) (first end : ℕ) (x : A) : Type 0 where
  pub from : first ≤ number x
  pub below : number x < end
  pub is : of (number x) ≡ x

module _ {A : Type 0} (number : A → ℕ) (of : ℕ → A) (numbers : (n : ℕ) → number (of n) ≡ n) where
  -- each that is numbered is one
  pub each_numbered : (count first end : ℕ) → first + count ≤ end → Each (IsNumbered number of first end) (numbered_from of first count)
  each_numbered zero first end h = tt
  each_numbered (suc count) first end h = let own = numbers first in (
    record { from = omega arith; below = omega arith; is = ap of own },
    each_map (IsNumbered number of (first + 1) end) (IsNumbered number of first end) (λ x n. record { from = let f = n.from in omega arith; below = n.below; is = n.is })
        (numbered_from of (first + 1) count) (each_numbered count (first + 1) end (omega arith)),
  )

  -- and no two are of one number
  pub none_twice : (count first : ℕ) → NoneTwice number (numbered_from of first count)
  none_twice zero first = tt
  none_twice (suc count) first = (
    each_map (IsNumbered number of (first + 1) (first + 1 + count)) (λ y. number y ≢ number (of first)) (λ y n e. let f = n.from in let own = numbers first in omega arith)
        (numbered_from of (first + 1) count) (each_numbered count (first + 1) (first + 1 + count) (omega arith)),
    none_twice count (first + 1),
  )
