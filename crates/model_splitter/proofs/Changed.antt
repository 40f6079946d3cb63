-- tests of a function that was changed at one place
use Rattle.std.proofs.Common.{◌≡◌, ◌≢◌, ℕ, Bool, true, false}
use Rattle.model_splitter.proofs.Common.{set_at, set_at-cases}

module _ {X : Type 0} (f : ℕ → X) (p : ℕ) (s : X) where
  -- who passes a test that the new value fails is another, and passed it before
  pub passed_before : (t : X → Bool) → t s ≡ false → (q : ℕ) → t (set_at f p s q) ≡ true → (q ≢ p) × (t (f q) ≡ true)
  passed_before t fails q = set_at-cases f p s (λ v. t v ≡ true → (q ≢ p) × (t (f q) ≡ true)) q (λ e h. absurd (cc)) (λ n h. (n, h))

  -- who passed a test that the old value failed passes it still
  pub passes_still : (t : X → Bool) → t (f p) ≡ false → (q : ℕ) → t (f q) ≡ true → t (set_at f p s q) ≡ true
  passes_still t fails q h = set_at-cases f p s (λ v. t v ≡ true) q (λ e. absurd (let k : t (f p) ≡ true = rw e at h in cc)) (λ _. h)

  -- nor does one that the new value passes stop
  pub passes_too : (t : X → Bool) → t s ≡ true → (q : ℕ) → t (f q) ≡ true → t (set_at f p s q) ≡ true
  passes_too t passes q h = set_at-cases f p s (λ v. t v ≡ true) q (λ _. passes) (λ _. h)

  pub fails_still : (t : X → Bool) → t s ≡ false → (q : ℕ) → t (f q) ≡ false → t (set_at f p s q) ≡ false
  fails_still t fails q h = set_at-cases f p s (λ v. t v ≡ false) q (λ _. fails) (λ _. h)
