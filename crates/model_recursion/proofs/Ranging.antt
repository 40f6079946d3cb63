-- what the names of an instance are: arithmetic alone
use Rattle.std.proofs.Common.{◌≡◌, ℕ, suc, ◌+◌, ◌-◌, ◌*◌, ◌%◌, ◌≤◌, ◌⊎◌, inl, inr, refl, arith}
use Rattle.std.proofs.lemmas.Bool.Decides.{eqb_tells}
use Rattle.model_recursion.specs.Program.{turn_of, last_of}
use Rattle.model_recursion.specs.Ranges.{IsWithin, IsLast, IsTurn}

pub parity : (f : ℕ) → (f % 2 ≡ 1) ⊎ (f % 2 ≡ 0)
parity f = elim (eqb_tells (f % 2) 1) [ inl e ↦ inl e.1 | inr e ↦ inr (let n = e.1 in omega arith) ]

-- the first name is there, where a seat is
pub within_first : (f c : ℕ) → 1 ≤ c → IsWithin f c f
within_first f c some = record { up_from = λ _. omega arith; up_to = λ _. omega arith; down_from = λ _. omega arith; down_to = λ _. omega arith }

-- of those that went straight on
pub within_more : (f c d n : ℕ) → c ≤ d → IsWithin f c n → IsWithin f d n
within_more f c d n l w = record {
  up_from = w.up_from;
  up_to = λ o. let k = w.up_to o in omega arith;
  down_from = w.down_from;
  down_to = λ e. let k = w.down_to e in omega arith;
}

-- the other way goes from names of the other parity
pub turn_odd : (k f g : ℕ) → IsTurn k f g → f % 2 ≡ 1 → g % 2 ≡ 0
turn_odd k f g t o = let e = t.up o in omega arith

pub turn_even : (k f g : ℕ) → IsTurn k f g → f % 2 ≡ 0 → g % 2 ≡ 1
turn_even k f g t o = let e = t.down o in omega arith

-- those that turned
pub within_turn : (k f g c d n : ℕ) → IsTurn k f g → suc k ≤ d → c ≤ k → IsWithin g c n → IsWithin f d n
within_turn k f g c d n t full few w = elim (parity f) [
  | inl o ↦
      let e = t.up o in let g_even = turn_odd k f g t o in let a = w.down_from g_even in let b = w.down_to g_even in
      record { up_from = λ _. omega arith; up_to = λ _. omega arith; down_from = λ z. absurd (omega arith); down_to = λ z. absurd (omega arith) }
  | inr o ↦
      let e = t.down o in let g_odd = turn_even k f g t o in let a = w.up_from g_odd in let b = w.up_to g_odd in
      record { up_from = λ z. absurd (omega arith); up_to = λ z. absurd (omega arith); down_from = λ _. omega arith; down_to = λ _. omega arith }
]

-- the first name of those that turned is within the range of the whole
pub turn_first : (k f g d : ℕ) → IsTurn k f g → 1 ≤ k → suc k ≤ d → IsWithin f d g
turn_first k f g d t some full = within_turn k f g 1 d g t full some (within_first g 1 (omega arith))

-- those that went straight on and those that turned do not meet
pub ways_apart : (k f g y z n : ℕ) → IsTurn k f g → y + z ≤ suc k → IsWithin f y n → IsWithin g z n → ⊥
ways_apart k f g y z n t few w v = elim (parity f) [
  | inl o ↦ let e = t.up o in let g_even = turn_odd k f g t o in let a = v.down_from g_even in let b = v.down_to g_even in let c = w.up_from o in let d = w.up_to o in omega arith
  | inr o ↦ let e = t.down o in let g_odd = turn_even k f g t o in let a = v.up_from g_odd in let b = v.up_to g_odd in let c = w.down_from o in let d = w.down_to o in omega arith
]

-- a turn leads to another first name
pub turn_moves : (k f g : ℕ) → IsTurn k f g → f ≡ g → ⊥
turn_moves k f g t same = elim (parity f) [ inl o ↦ let e = turn_odd k f g t o in let s = same in omega arith | inr o ↦ let e = turn_even k f g t o in omega arith ]

-- two that turned to one came from one, if both go one way
pub turn_back : (k f h g : ℕ) → IsTurn k f g → IsTurn k h g → f ≡ h
turn_back k f h g t u = elim (parity f) [
  | inl o ↦ elim (parity h) [
    | inl p ↦ let a = t.up o in let b = u.up p in omega arith
    | inr p ↦ absurd (let a = turn_odd k f g t o in let b = turn_even k h g u p in omega arith)
  ]
  | inr o ↦ elim (parity h) [
    | inl p ↦ absurd (let a = turn_even k f g t o in let b = turn_odd k h g u p in omega arith)
    | inr p ↦ let a = t.down o in let b = u.down p in omega arith
  ]
]

pub turn_one : (k f g h : ℕ) → IsTurn k f g → IsTurn k f h → g ≡ h
turn_one k f g h t u = elim (parity f) [ inl o ↦ let a = t.up o in let b = u.up o in omega arith | inr o ↦ let a = t.down o in let b = u.down o in omega arith ]

-- the last name is in the range of a full group
pub within_last : (k f c n : ℕ) → IsLast k f n → suc k ≤ c → IsWithin f c n
within_last k f c n l full = elim (parity f) [
  | inl o ↦ let e = l.up o in record { up_from = λ _. omega arith; up_to = λ _. omega arith; down_from = λ z. absurd (omega arith); down_to = λ z. absurd (omega arith) }
  | inr o ↦ let e = l.down o in record { up_from = λ z. absurd (omega arith); up_to = λ z. absurd (omega arith); down_from = λ _. omega arith; down_to = λ _. omega arith }
]

-- and in that of none that went on
pub last_straight : (k f c n : ℕ) → IsLast k f n → c ≤ k → IsWithin f c n → ⊥
last_straight k f c n l few w = elim (parity f) [
  | inl o ↦ let e = l.up o in let a = w.up_to o in omega arith
  | inr o ↦ let e = l.down o in let a = w.down_to o in omega arith
]

pub last_turned : (k f g c n : ℕ) → IsLast k f n → IsTurn k f g → IsWithin g c n → ⊥
last_turned k f g c n l t w = elim (parity f) [
  | inl o ↦ let e = l.up o in let d = t.up o in let g_even = turn_odd k f g t o in let a = w.down_from g_even in omega arith
  | inr o ↦ let e = l.down o in let d = t.down o in let g_odd = turn_even k f g t o in let a = w.up_from g_odd in omega arith
]

-- the range of an instance that begins with 1
pub first_range : (c n : ℕ) → IsWithin 1 c n → (1 ≤ n) × (n + 1 ≤ 2 * c)
first_range c n w = let a = w.up_from refl in let b = w.up_to refl in (omega arith, omega arith)

-- the program's names are these, where no range passes 1 and 2m - 1
module _ (k f c m : ℕ) (few : m ≤ 64) (full : suc k ≤ c) (within : (n : ℕ) → IsWithin f c n → (1 ≤ n) × (n + 1 ≤ 2 * m)) where
  up_bound : f % 2 ≡ 1 → f + 2 * k + 1 ≤ 2 * m
  up_bound o = let w : IsWithin f c (f + 2 * k) = record { up_from = λ _. omega arith; up_to = λ _. omega arith; down_from = λ z. absurd (omega arith); down_to = λ z. absurd (omega arith) } in (within (f + 2 * k) w).1

  down_bound : f % 2 ≡ 0 → 2 * k + 1 ≤ f
  down_bound o =
      let w : IsWithin f c (f - 2 * k) = record { up_from = λ z. absurd (omega arith); up_to = λ z. absurd (omega arith); down_from = λ _. omega arith; down_to = λ _. omega arith } in
      let low = (within (f - 2 * k) w).0 in
      omega arith

  pub turn_is : 1 ≤ k → IsTurn k f (turn_of (suc k) f)
  turn_is some = elim (eqb_tells (f % 2) 1) [
    | inl e ↦ let high = up_bound e.1 in rw e.0 (record { up = λ _. omega arith; down = λ z. absurd (let o = e.1 in omega arith) })
    | inr e ↦ let even : f % 2 ≡ 0 = (let n = e.1 in omega arith) in let low = down_bound even in rw e.0 (record { up = λ z. absurd (omega arith); down = λ _. omega arith })
  ]

  pub last_is : IsLast k f (last_of (suc k) f)
  last_is = elim (eqb_tells (f % 2) 1) [
    | inl e ↦ let high = up_bound e.1 in rw e.0 (record { up = λ _. omega arith; down = λ z. absurd (let o = e.1 in omega arith) })
    | inr e ↦ let even : f % 2 ≡ 0 = (let n = e.1 in omega arith) in let low = down_bound even in rw e.0 (record { up = λ z. absurd (omega arith); down = λ _. omega arith })
  ]
