-- the children whose numbers fit
use Rattle.std.proofs.Common.{◌≡◌, ℕ, suc, arith, ◌*◌, ◌<◌, ◌≤◌, ◌^◌, Option, Some, refl, inl, inr}
use Rattle.model_splitter.specs.tree.CollectWalk.{numbers}
use Rattle.model_splitter.proofs.tree_lemmas.Common.{leb_tells, child_or}
use Rattle.std.proofs.Math.Nat.{pow-le-pow_right}
use Rattle.std.proofs.lemmas.Bool.{le-leb}

below_two : (k n m : ℕ) → k < n → n ≤ m → k < m
below_two k n m h l = omega arith

two_some : 0 < 2
two_some = omega arith

up : (b : ℕ) → b ≤ 64 → b ≤ 128
up b h = omega arith

pub child_fits : (p : ℕ) (other : Option ℕ) → p * 2 < 2 ^ 128 → child_or p other ≡ Some (p * 2)
unfolding numbers
child_fits p other h = rw (le-leb (suc (p * 2)) (2 ^ 128) h) refl

pub child_too_far : (p : ℕ) (other : Option ℕ) → (p * 2 < 2 ^ 128 → ⊥) → child_or p other ≡ other
unfolding numbers
child_too_far p other h = elim (leb_tells (suc (p * 2)) (2 ^ 128)) [ inl e ↦ absurd (h e.1) | inr e ↦ rw e.0 refl ]

-- the numbers of nodes of small depth fit
pub small_fits : (b k : ℕ) → b ≤ 64 → k < 2 ^ b → k < numbers
unfolding numbers
small_fits b k few h = below_two k (2 ^ b) (2 ^ 128) h (pow-le-pow_right two_some (up b few))
