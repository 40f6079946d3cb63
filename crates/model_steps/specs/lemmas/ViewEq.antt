-- when two views are equal: where they have the same pairs
use Rattle.std.proofs.Common.{◌≡◌, ◌==◌, ◌&&◌, ℕ, Bool, true, false, List, refl, ap, ◌∙◌}
use Rattle.std.specs.Cmp.{IsEquivalence, decided}
use Rattle.std.specs.Cmp.Lexicographic.{pointwise, pointwise_decides}
use Rattle.std.specs.Bool.{Decides}
use Rattle.std.proofs.lemmas.Bool.Decides.{Decides-eqb}

abbrev pub is_same_pair : ℕ × ℕ → ℕ × ℕ → Bool
is_same_pair p q = p.0 == q.0 && p.1 == q.1

abbrev pub are_same_pairs : List (ℕ × ℕ) → List (ℕ × ℕ) → Bool
are_same_pairs xs ys = pointwise is_same_pair xs ys

both : (a b : Bool) → a && b ≡ true → (a ≡ true) × (b ≡ true)
both true true h = (refl, refl)
both true false h = absurd (cc)
both false b h = absurd (cc)

pub same_pair_decides : (p q : ℕ × ℕ) → Decides (is_same_pair p q) (p ≡ q)
same_pair_decides p q = (
  λ h. let t = both (p.0 == q.0) (p.1 == q.1) h in let a = (Decides-eqb p.0 q.0).0 t.0 in let b = (Decides-eqb p.1 q.1).0 t.1 in ap (λ x. (x, p.1)) a ∙ ap (λ y. (q.0, y)) b,
  λ h. let a = (Decides-eqb p.0 q.0).1 (ap (λ x. x.0) h) in let b = (Decides-eqb p.1 q.1).1 (ap (λ x. x.1) h) in rw (a, b) refl,
)

pub same_pairs_decides : (xs ys : List (ℕ × ℕ)) → Decides (are_same_pairs xs ys) (xs ≡ ys)
same_pairs_decides = pointwise_decides same_pair_decides

pub same_pairs_equiv : IsEquivalence are_same_pairs
same_pairs_equiv = decided are_same_pairs same_pairs_decides
