-- The last element of a list.
use Rattle.std.proofs.Common.{◌≡◌, ℕ, List, [], ◌∷◌, ◌++◌, length, get_or, ap, sym, ◌∙◌, subst, arith}
use Rattle.std.proofs.Math.Seq.{get_or-append_seam}
use Rattle.std.proofs.lemmas.List.{length-append}

-- two lists that are one end with one element
pub last_is : {A : Type 0} (xs ys : List A) (x y : A) → xs ++ x ∷ [] ≡ ys ++ y ∷ [] → x ≡ y
last_is xs ys x y same =
    let one = length-append xs (x ∷ []) in
    let other = length-append ys (y ∷ []) in
    let both = ap (λ l. length l) same in
    let long : length ys ≡ length xs = omega (arith, one, other, both) in
    let at : get_or (ys ++ y ∷ []) (length xs) x ≡ y = subst (λ (n : ℕ). get_or (ys ++ y ∷ []) n x ≡ y) long (get_or-append_seam ys y [] x) in
    sym (get_or-append_seam xs x [] x) ∙ (ap (λ l. get_or l (length xs) x) same ∙ at)
