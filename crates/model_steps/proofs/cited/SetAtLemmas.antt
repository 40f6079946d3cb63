-- a function changed at one place
use Rattle.std.proofs.Common.{◌≡◌, ◌≢◌, ◌==◌, ◌⊎◌, ℕ, true, false, cond, Option, Some, None, inl, inr, refl, sym, ap, ◌∙◌}
use Rattle.model_steps.proofs.Common.{eqb_tells, Decides-eqb, set_at}
use Rattle.std.proofs.Math.Path.{fun_ext}

module _ {X : Type 0} (f : ℕ → X) (p : ℕ) (s : X) where
  pub set_at-same : set_at f p s p ≡ s
  set_at-same = rw ((Decides-eqb p p).1 refl)

  pub set_at-other : (q : ℕ) → q ≢ p → set_at f p s q ≡ f q
  set_at-other q n = elim (eqb_tells q p) [ inl w ↦ absurd (n w.1) | inr w ↦ rw w.0 ]

  -- at the place that was set, and elsewhere
  pub set_at-cases : (T : X → Type 0) (q : ℕ) → (q ≡ p → T s) → (q ≢ p → T (f q)) → T (set_at f p s q)
  set_at-cases T q here there = elim (eqb_tells q p) [ inl w ↦ rw w.0 (here w.1) | inr w ↦ rw w.0 (there w.1) ]

  -- to set what stands there changes nothing
  pub set_at-as_is : s ≡ f p → set_at f p s ≡ f
  set_at-as_is e = fun_ext (λ q. set_at-cases (λ v. v ≡ f q) q (λ h. e ∙ ap f (sym h)) (λ _. refl))

  -- what it is at any place
  pub set_at-is : (q : ℕ) (x : X) → set_at f p s q ≡ x → ((q ≡ p) × (s ≡ x)) ⊎ ((q ≢ p) × (f q ≡ x))
  set_at-is q x h = elim (eqb_tells q p) [ inl w ↦ inl (w.1, rw w.0 at h) | inr w ↦ inr (w.1, rw w.0 at h) ]

-- what is seen of a function that was changed at one place
pub set_at-map : {X Y : Type 0} (g : X → Y) (f : ℕ → X) (p : ℕ) (s : X) (q : ℕ) → g (set_at f p s q) ≡ set_at (λ u. g (f u)) p (g s) q
set_at-map g f p s q = elim (q == p) as (λ b. g (cond b s (f q)) ≡ cond b (g s) (g (f q))) [ true ↦ refl | false ↦ refl ]

-- what is said alike of nothing and of what is set is said as before where nothing was
pub same_in : {X Y : Type 0} (say : Option Y → X) (f : ℕ → Option Y) (p : ℕ) (new : Y) (q : ℕ) → f p ≡ None → say None ≡ say (Some new) → say (f q) ≡ say (set_at f p (Some new) q)
same_in say f p new q absent same = set_at-cases f p (Some new) (λ o. say (f q) ≡ say o) q (λ e. ap say (ap f e ∙ absent) ∙ same) (λ _. refl)
