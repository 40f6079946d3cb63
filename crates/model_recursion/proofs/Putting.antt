-- a spot of a seat at one level is put in place of another
use Rattle.std.proofs.Common.{◌≡◌, ◌≢◌, ℕ, inl, inr, refl, sym, ap, ◌∙◌}
use Rattle.std.proofs.lemmas.Bool.Decides.{eqb_tells}
use Rattle.model_steps.specs.SetAt.{set_at}
use Rattle.model_steps.proofs.cited.SetAtLemmas.{set_at-same, set_at-other, set_at-cases}

module _ {X : Type 0} (at : ℕ → ℕ → X) (x p : ℕ) (s : X) where
  pub put : ℕ → ℕ → X
  put = set_at at x (set_at (at x) p s)

  pub put_own : put x p ≡ s
  unfolding put
  put_own = ap (λ (w : ℕ → X). w p) (set_at-same at x (set_at (at x) p s)) ∙ set_at-same (at x) p s

  pub put_level : (y q : ℕ) → y ≢ x → put y q ≡ at y q
  unfolding put
  put_level y q n = ap (λ (w : ℕ → X). w q) (set_at-other at x (set_at (at x) p s) y n)

  pub put_person : (y q : ℕ) → q ≢ p → put y q ≡ at y q
  unfolding put
  put_person y q n = set_at-cases at x (set_at (at x) p s) (λ (w : ℕ → X). w q ≡ at y q) y
      (λ e. set_at-other (at x) p s q n ∙ ap (λ (i : ℕ). at i q) (sym e)) (λ _. refl)

  pub put_cases : (T : X → Type 0) (y q : ℕ) → (y ≡ x → q ≡ p → T s) → ((y ≡ x → q ≡ p → ⊥) → T (at y q)) → T (put y q)
  put_cases T y q here there = elim (eqb_tells y x) [
    | inr n ↦ rw (put_level y q n.1) (there (λ e _. n.1 e))
    | inl e ↦ elim (eqb_tells q p) [
      | inr n ↦ rw (put_person y q n.1) (there (λ _ d. n.1 d))
      | inl d ↦ rw (e.1, d.1, put_own) (here e.1 d.1)
    ]
  ]

  -- elsewhere
  pub put_other : (y q : ℕ) → (y ≡ x → q ≡ p → ⊥) → put y q ≡ at y q
  put_other y q n = put_cases (λ t. t ≡ at y q) y q (λ e d. absurd (n e d)) (λ _. refl)
