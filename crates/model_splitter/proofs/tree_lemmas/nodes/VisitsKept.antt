-- functions of a node and of a participant, changed for one participant at one node
use Rattle.std.proofs.Common.{◌≡◌, ◌≢◌, ℕ, Bool, true, ◌⊎◌, inl, inr, refl, sym, ap, ◌∙◌}
use Rattle.model_splitter.proofs.tree_lemmas.Common.{set_at, set_at-same, set_at-other, set_at-cases}

module _ {X : Type 0} (f : ℕ → ℕ → X) (k p : ℕ) (x : X) where
  pub with_visit : ℕ → ℕ → X
  with_visit = set_at f k (set_at (f k) p x)

  -- at that node, a participant that was changed at one
  pub with_visit-node : with_visit k ≡ set_at (f k) p x
  unfolding with_visit
  with_visit-node = set_at-same f k (set_at (f k) p x)

  pub with_visit-other_node : (j : ℕ) → j ≢ k → with_visit j ≡ f j
  unfolding with_visit
  with_visit-other_node j n = set_at-other f k (set_at (f k) p x) j n

  pub with_visit-own : with_visit k p ≡ x
  with_visit-own = ap (λ (w : ℕ → X). w p) with_visit-node ∙ set_at-same (f k) p x

  pub with_visit-other : (j q : ℕ) → q ≢ p → with_visit j q ≡ f j q
  unfolding with_visit
  with_visit-other j q n = set_at-cases f k (set_at (f k) p x) (λ (w : ℕ → X). w q ≡ f j q) j
      (λ e. set_at-other (f k) p x q n ∙ ap (λ (i : ℕ). f i q) (sym e)) (λ _. refl)

-- one more who came to a node
pub with_comer : (ℕ → ℕ → Bool) → ℕ → ℕ → ℕ → ℕ → Bool
with_comer came k p = with_visit came k p true

module _ (came : ℕ → ℕ → Bool) (k p : ℕ) where
  pub with_comer-has : with_comer came k p k p ≡ true
  unfolding with_comer
  with_comer-has = with_visit-own came k p true

  pub with_comer-keeps : (j q : ℕ) → came j q ≡ true → with_comer came k p j q ≡ true
  unfolding with_comer with_visit
  with_comer-keeps j q h = set_at-cases came k (set_at (came k) p true) (λ (w : ℕ → Bool). w q ≡ true) j
      (λ e. set_at-cases (came k) p true (λ w. w ≡ true) q (λ _. refl) (λ _. rw e at h)) (λ _. h)

  pub with_comer-cases : (j q : ℕ) → with_comer came k p j q ≡ true → ((j ≡ k) × (q ≡ p)) ⊎ (came j q ≡ true)
  unfolding with_comer with_visit
  with_comer-cases j q = set_at-cases came k (set_at (came k) p true) (λ (w : ℕ → Bool). w q ≡ true → ((j ≡ k) × (q ≡ p)) ⊎ (came j q ≡ true)) j
      (λ e. set_at-cases (came k) p true (λ w. w ≡ true → ((j ≡ k) × (q ≡ p)) ⊎ (came j q ≡ true)) q (λ d _. inl (e, d)) (λ _ h. inr (rw e h))) (λ _ h. inr h)
