-- what a rising view says of its first pair and of those further on
use Rattle.std.proofs.Common.{◌≡◌, ◌≢◌, ℕ, List, ◌∷◌, Some, None, refl, sym, ap, ◌∙◌, arith, eq-eqb}
use Rattle.text_checker.proofs.judges_lemmas.Common.{ne_eqb, IsRising, value_of}
use Rattle.model_steps.proofs.cited.ViewLemmas.{value_of-below}

module _ (x : ℕ × ℕ) (xs : List (ℕ × ℕ)) where
  pub here : value_of x.0 (x ∷ xs) ≡ Some x.1
  here = rw (eq-eqb x.0 x.0 refl) refl

  pub further : (q : ℕ) → x.0 ≢ q → value_of q (x ∷ xs) ≡ value_of q xs
  further q other = rw (ne_eqb x.0 q other) refl

  -- who is said further on is not the first
  pub not_first : (q n : ℕ) → IsRising (x ∷ xs) → value_of q xs ≡ Some n → x.0 ≢ q
  not_first q n r says same = absurd (let k : None ≡ Some n = sym (value_of-below x.0 x.0 xs r.1 r.0 (omega arith)) ∙ ap (λ p. value_of p xs) same ∙ says in cc)

  -- and says what it does in the whole view
  pub said_further : (q n : ℕ) → IsRising (x ∷ xs) → value_of q xs ≡ Some n → value_of q (x ∷ xs) ≡ Some n
  said_further q n r says = further q (not_first q n r says) ∙ says
