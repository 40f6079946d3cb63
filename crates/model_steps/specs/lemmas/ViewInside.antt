-- how a view lies in its array: the pairs, and then zeros
use Rattle.std.proofs.Common.{◌≡◌, ℕ, ◌-◌, ◌≤◌, List, ◌++◌, length, take, drop, replicate, arith}
use Rattle.std.proofs.lemmas.List.{take-append-drop, length-take-le}
use Rattle.model_steps.specs.View.{IsRising}

pub record IsWellKept (pairs : List (ℕ × ℕ)) (len : ℕ) : Type 0 where
  pub room : len ≤ 64
  pub all : length pairs ≡ 64
  pub rising : IsRising (take len pairs)
  pub zeros : drop len pairs ≡ replicate (64 - len) (0, 0)

-- the list gives the array back
pub given_back : (pairs : List (ℕ × ℕ)) (len : ℕ) → IsWellKept pairs len → (take len pairs ++ replicate (64 - length (take len pairs)) (0, 0) ≡ pairs) × (length (take len pairs) ≡ len)
given_back pairs len h =
    let r = h.room in
    let a = h.all in
    let l : length (take len pairs) ≡ len = length-take-le len pairs (omega arith) in
    (rw (l, ← h.zeros) (take-append-drop len pairs), l)
