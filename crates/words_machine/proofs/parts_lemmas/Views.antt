-- the views of a table's seats, where one of them changes or a new one comes
use Rattle.std.proofs.Common.{◌≡◌, ◌≢◌, ℕ, zero, suc, ◌⊎◌, inl, inr, ⊎_elim, subst, sym, ap, ◌∙◌, refl, List, [], ◌∷◌, ◌++◌, length, set}
use mathlib.Core.Option.{some, some-ne-none, some-injective}
use lib.ListN.{get_elem?}
use mathlib.Core.Logic.{dite}
use native.Mathlib.Decide.{ℕ_discrete}
use Rattle.atomic_table.proofs.Lists.{at_set, set_else, at_longer, at_last}

module _ {V : Type 0} where
  -- a fact of each seat and its view
  abbrev pub AtEach : (ℕ → V → Type 0) → List V → Type 0
  AtEach F views = (seat : ℕ) (v : V) → get_elem? views seat ≡ some v → F seat v

  -- it lasts where one seat has another view
  pub each_set : (F : ℕ → V → Type 0) (views : List V) (seat : ℕ) (w : V) → F seat w → ((j : ℕ) (u : V) → j ≢ seat → get_elem? views j ≡ some u → F j u) → AtEach F (set views seat w)
  each_set F views seat w mine others j u e = ⊎_elim (λ (x : (j ≡ seat) × (w ≡ u)). subst (λ (y : ℕ × V). F y.0 y.1) (λ t. (sym x.0 t, x.1 t)) mine)
      (λ (x : (j ≢ seat) × (get_elem? views j ≡ some u)). others j u x.0 x.1) (at_set views seat j w u e)

  -- a view stands in the list or is the one at its end
  last_or_before : (views : List V) (w u : V) (j : ℕ) → get_elem? (views ++ w ∷ []) j ≡ some u → (get_elem? views j ≡ some u) ⊎ ((j ≡ length views) × (w ≡ u))
  last_or_before [] w u zero e = inr (refl, some-injective w u e)
  last_or_before [] w u (suc j) e = absurd (some-ne-none u (sym e))
  last_or_before (x ∷ xs) w u zero e = inl e
  last_or_before (x ∷ xs) w u (suc j) e = ⊎_elim inl (λ t. inr (ap suc t.0, t.1)) (last_or_before xs w u j e)

  -- and where a seat comes
  pub each_pushed : (F : ℕ → V → Type 0) (views : List V) (w : V) → AtEach F views → F (length views) w → AtEach F (views ++ w ∷ [])
  each_pushed F views w before last j u e = ⊎_elim (λ f. before j u f)
      (λ (x : (j ≡ length views) × (w ≡ u)). subst (λ (y : ℕ × V). F y.0 y.1) (λ t. (sym x.0 t, x.1 t)) last)
      (last_or_before views w u j e)

  -- a seat that is there has its new view
  pub there_still : (views : List V) (seat : ℕ) (v : V) → get_elem? views seat ≡ some v → (w : V) → get_elem? (set views seat w) seat ≡ some w
  there_still [] seat v e w = absurd (some-ne-none v (sym e))
  there_still (u ∷ us) zero v e w = refl
  there_still (u ∷ us) (suc seat) v e w = there_still us seat v e w

-- a fact of the view of one seat
module _ {V : Type 0} (F : V → Type 0) where
  abbrev pub HoldsAt : List V → ℕ → Type 0
  HoldsAt views seat = (v : V) × (get_elem? views seat ≡ some v) × F v

  -- it lasts where a seat gets another view that meets it if the old one did
  pub at_after : (views : List V) (seat : ℕ) (u w : V) → get_elem? views seat ≡ some u → (F u → F w) → (i : ℕ) → HoldsAt views i → HoldsAt (set views seat w) i
  at_after views seat u w e keeps i (v, there, f) = dite (ℕ_discrete i seat)
      (λ z. subst (λ (j : ℕ). HoldsAt (set views seat w) j) (sym z)
      (w, there_still views seat u e w, keeps (subst F (some-injective v u (sym there ∙ ap (λ (j : ℕ). get_elem? views j) z ∙ e)) f)))
      (λ ne. (v, set_else views seat i w ne ∙ there, f))

  -- and where a seat comes
  pub at_longer_list : (views : List V) (w : V) (i : ℕ) → HoldsAt views i → HoldsAt (views ++ w ∷ []) i
  at_longer_list views w i (v, there, f) = (v, at_longer views (w ∷ []) i v there, f)

  -- the seat that came has its view
  pub at_its_end : (views : List V) (w : V) → F w → HoldsAt (views ++ w ∷ []) (length views)
  at_its_end views w f = (w, at_last views w (length views) refl, f)
