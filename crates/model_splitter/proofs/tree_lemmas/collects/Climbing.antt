-- climbing from right children
use Rattle.std.proofs.Common.{◌≡◌, ℕ, zero, suc, ◌/◌, ◌%◌, ◌<◌, ◌≤◌, ◌==◌, true, false, cond, refl, ap, ◌∙◌, arith, ◌&&◌, nat_lt, Bool, ◌⊎◌}
use Rattle.model_splitter.proofs.tree_lemmas.Common.{nat_tests, climbed_in, climbed}

-- one climbs from here
abbrev pub climbs_from : ℕ → Bool
climbs_from p = (p % 2 == 1) && nat_lt 1 p

-- one climbs from a right child below the root, and from nothing else
pub climbs_tells : (p : ℕ) → ((climbs_from p ≡ true) × (p % 2 ≡ 1) × (1 < p)) ⊎ ((climbs_from p ≡ false) × ((p ≤ 1) ⊎ ((p % 2 ≡ 0) × (1 < p))))
climbs_tells p = grind (arith, nat_tests)

-- as many steps as the number are enough
climb_enough : (n m p : ℕ) → p ≤ n → p ≤ m → climbed_in n p ≡ climbed_in m p
climb_enough zero zero p h k = refl
climb_enough (suc n) (suc m) p h k = ap (λ x. cond (climbs_from p) x p) (climb_enough n m (p / 2) (omega arith) (omega arith))
climb_enough n m p h k = let none : p ≡ 0 = omega arith in rw none refl

-- one step of a climb
pub climbed_is : (p : ℕ) → climbed p ≡ cond (climbs_from p) (climbed (p / 2)) p
climbed_is p = climb_enough p (suc p) p (omega arith) (omega arith) ∙ ap (λ x. cond (climbs_from p) x p) (climb_enough p (p / 2) (p / 2) (omega arith) (omega arith))

pub climbed_up : (p : ℕ) → p % 2 ≡ 1 → 1 < p → climbed p ≡ climbed (p / 2)
climbed_up p odd more = climbed_is p ∙ grind (arith, nat_tests)
