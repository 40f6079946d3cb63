-- how many right siblings are still to come
use Rattle.std.proofs.Common.{◌≡◌, ℕ, zero, suc, ◌+◌, ◌*◌, ◌/◌, ◌%◌, ◌<◌, ◌≤◌, ◌==◌, cond, Some, inl, inr, refl, sym, ap, ◌∙◌, arith, Bool, ◌&&◌, nat_lt, ◌⊎◌}
use Rattle.model_splitter.proofs.tree_lemmas.Common.{nat_tests, climbed_in, climbed, node_after}
use Rattle.model_splitter.specs.tree.Ahead.{open_in, open_at}
use Rattle.model_splitter.proofs.tree_lemmas.collects.Climbing.{climbs_tells}
use Rattle.model_splitter.proofs.tree_lemmas.collects.OrderLemmas.{follows}

-- whether it is a left child
abbrev is_left : ℕ → Bool
is_left p = (p % 2 == 0) && nat_lt 1 p

open_zero : (n : ℕ) → open_in n 0 ≡ 0
open_zero zero = refl
open_zero (suc n) = omega (arith, open_zero n)

open_enough : (n m p : ℕ) → p ≤ n → p ≤ m → open_in n p ≡ open_in m p
open_enough zero zero p h k = refl
open_enough (suc n) (suc m) p h k = ap (λ x. cond (is_left p) 1 0 + x) (open_enough n m (p / 2) (omega arith) (omega arith))
open_enough n m p h k = let none : p ≡ 0 = omega arith in rw none (open_zero n ∙ sym (open_zero m))

open_is : (p : ℕ) → open_at p ≡ cond (is_left p) 1 0 + open_at (p / 2)
open_is p = open_enough p (suc p) p (omega arith) (omega arith) ∙ ap (λ x. cond (is_left p) 1 0 + x) (open_enough p (p / 2) (p / 2) (omega arith) (omega arith))

open_left : (p : ℕ) → 1 < p → p % 2 ≡ 0 → open_at p ≡ suc (open_at (p / 2))
open_left p child even = open_is p ∙ grind (arith, nat_tests)

open_other : (p : ℕ) → (p ≤ 1) ⊎ (p % 2 ≡ 1) → open_at p ≡ open_at (p / 2)
open_other p why = open_is p ∙ grind (arith, nat_tests)

-- one more at the left child
pub open_child : (p : ℕ) → 1 ≤ p → open_at (p * 2) ≡ suc (open_at p)
open_child p node =
    let half : p * 2 / 2 ≡ p = omega arith in
    open_left (p * 2) (omega arith) (omega arith) ∙ ap (λ x. suc (open_at x)) half

-- as many after a climb
open_climbed : (n p : ℕ) → open_at (climbed_in n p) ≡ open_at p
open_climbed zero p = refl
open_climbed (suc n) p = elim (climbs_tells p) [
  | inl e ↦ rw e.0 (open_climbed n (p / 2) ∙ sym (open_other p (inr e.1)))
  | inr e ↦ rw e.0 refl
]

-- one less at what follows a subtree
pub open_after : (p n : ℕ) → node_after p ≡ Some n → suc (open_at n) ≡ open_at p
open_after p n e =
    let s : (1 < climbed p) × (climbed p % 2 ≡ 0) × (n ≡ climbed p + 1) = (follows p).sibling n e in
    let half : (climbed p + 1) / 2 ≡ climbed p / 2 = omega (arith, s.1) in
    let right : open_at (climbed p + 1) ≡ open_at ((climbed p + 1) / 2) = open_other (climbed p + 1) (inr (omega (arith, s.1))) in
    let left : open_at (climbed p) ≡ suc (open_at (climbed p / 2)) = open_left (climbed p) s.0 s.1 in
    let here : open_at (climbed p) ≡ open_at p = open_climbed p p in
    ap (λ x. suc (open_at x)) s.2 ∙ ap suc (right ∙ ap open_at half) ∙ sym left ∙ here
