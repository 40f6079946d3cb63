-- how many keys an object has
use Rattle.std.proofs.Common.{◌≡◌, ℕ, suc, true, inl, inr, List, [], ◌∷◌, length, refl, ap, String}
use Rattle.text_records.proofs.Common.{false≢true, eqb_tells, same_bytes, Value, count_members}
use Rattle.std.specs.declared.alloc.Global.{Global}
use Rattle.serde_json.specs.View.{members_view}

pub count-members_view : (entries : List (String Global × Value)) → count_members (members_view entries) ≡ length entries
count-members_view [] = refl
count-members_view (e ∷ es) = ap suc (count-members_view es)

-- texts that compare equal are
pub same_is : (xs ys : List ℕ) → same_bytes xs ys ≡ true → xs ≡ ys
same_is [] [] h = refl
same_is [] (y ∷ ys) h = absurd (false≢true h)
same_is (x ∷ xs) [] h = absurd (false≢true h)
same_is (x ∷ xs) (y ∷ ys) h = elim (eqb_tells x y) [
  | inl k ↦ let t : same_bytes xs ys ≡ true = rw k.0 at h in λ i. k.1 i ∷ same_is xs ys t i
  | inr k ↦ absurd (false≢true (rw k.0 at h))
]
