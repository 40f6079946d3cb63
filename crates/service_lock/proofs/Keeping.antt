-- places beside exchanges, of which there are as many
use Rattle.std.proofs.Common.{◌≡◌, ℕ, zero, suc, List, [], ◌∷◌, ◌++◌, length, Some, None, slice_get, refl, ap, arith, get_or}
use Rattle.service_lock.proofs.Common.{Exchange, kept_of, side_by_side}

pub kept_many : (ps : List ℕ) (xs : List Exchange) → length ps ≡ length xs → length (side_by_side ps xs) ≡ length ps
kept_many [] xs h = refl
kept_many (p ∷ ps) [] h = absurd (omega arith)
kept_many (p ∷ ps) (x ∷ xs) h = let k = kept_many ps xs (omega arith) in omega arith

pub kept_push : (ps : List ℕ) (xs : List Exchange) (p : ℕ) (x : Exchange) → length ps ≡ length xs → side_by_side (ps ++ p ∷ []) (xs ++ x ∷ []) ≡ side_by_side ps xs ++ kept_of p x ∷ []
kept_push [] [] p x h = refl
kept_push [] (y ∷ xs) p x h = absurd (omega arith)
kept_push (q ∷ ps) [] p x h = absurd (omega arith)
kept_push (q ∷ ps) (y ∷ xs) p x h = ap (λ ks. kept_of q y ∷ ks) (kept_push ps xs p x (omega arith))

pub kept_there : (ps : List ℕ) (xs : List Exchange) (i p : ℕ) (x : Exchange) → length ps ≡ length xs → p ≡ get_or ps i p → slice_get xs i ≡ Some x → slice_get (side_by_side ps xs) i ≡ Some (kept_of p x)
kept_there [] [] i p x h at is = absurd (cc)
kept_there [] (y ∷ xs) i p x h at is = absurd (omega arith)
kept_there (q ∷ ps) [] i p x h at is = absurd (omega arith)
kept_there (q ∷ ps) (y ∷ xs) zero p x h at is = let b : y ≡ x = cc in rw (b, at) refl
kept_there (q ∷ ps) (y ∷ xs) (suc i) p x h at is = kept_there ps xs i p x (omega arith) at is

pub kept_none : (ps : List ℕ) (xs : List Exchange) (i : ℕ) → slice_get xs i ≡ None → slice_get (side_by_side ps xs) i ≡ None
kept_none [] xs i none = refl
kept_none (q ∷ ps) [] i none = refl
kept_none (q ∷ ps) (y ∷ xs) zero none = absurd (cc)
kept_none (q ∷ ps) (y ∷ xs) (suc i) none = kept_none ps xs i none
