-- each word has a place of its own
use Rattle.std.proofs.Common.{◌≡◌, ℕ, ◌+◌, ◌-◌, ◌*◌, ◌%◌, ◌==◌, true, false, subst, ◌<◌, ◌≤◌, ◌⊎◌, inl, inr, sym, ap, arith}
use Rattle.std.proofs.lemmas.Bool.Decides.{eqb_tells, leb_tells}
use Rattle.std.proofs.lemmas.Nat.{mul-le}
use Rattle.words_machine.specs.Names.{IsCell, slot_of, place_of, cells}
use Rattle.model_recursion.specs.Ranges.{IsInstance}
use Rattle.model_recursion.specs.declared.namer.Cell.{Cell}

above : (n a b c d : ℕ) → b < n → a < c → a * n + b ≡ c * n + d → ⊥
above n a b c d low less e = let l = mul-le (a + 1) n c n (omega arith) (omega arith) in omega arith

radix : (n a b c d : ℕ) → b < n → d < n → a * n + b ≡ c * n + d → (a ≡ c) × (b ≡ d)
radix n a b c d b_low d_low e = elim (eqb_tells a c) [
  | inl s ↦ (s.1, let t = ap (λ (x : ℕ). x * n) s.1 in omega arith)
  | inr s ↦ elim (leb_tells a c) [
    | inl l ↦ absurd (let n1 = s.1 in let l1 = l.1 in above n a b c d b_low (omega arith) e)
    | inr l ↦ absurd (let l1 = l.1 in above n c d a b d_low (omega arith) (sym e))
  ]
]

cell_is : (c d : Cell) → c.level ≡ d.level → c.first ≡ d.first → c.seat ≡ d.seat → c ≡ d
cell_is c d a b e = λ i. record { level = a i; first = b i; seat = e i }

parity : (f : ℕ) → ((f % 2 == 1) ≡ true × (f % 2 ≡ 1)) ⊎ ((f % 2 == 1) ≡ false × (f % 2 ≡ 0))
parity f = elim (eqb_tells (f % 2) 1) [ inl e ↦ inl (e.0, e.1) | inr e ↦ inr (e.0, (let n = e.1 in omega arith)) ]

-- a level has so many instances
slot_low : (m x f : ℕ) → x ≤ m → 1 ≤ x → IsInstance m x f → slot_of m f ≤ 2 * (m - x)
slot_low m x f to from h = elim (parity f) [ inl o ↦ let l = h.up o.1 in rw o.0 (omega arith) | inr e ↦ let l = h.down_from e.1 in rw e.0 (omega arith) ]

slot_apart : (m x f g : ℕ) → IsInstance m x f → IsInstance m x g → slot_of m f ≡ slot_of m g → f ≡ g
slot_apart m x f g h k e = elim (parity f) [
  | inl o ↦ elim (parity g) [
    | inl p ↦ let s = rw (o.0, p.0) at e in let a = o.1 in let b = p.1 in omega arith
    | inr p ↦ absurd (let s = rw (o.0, p.0) at e in let a = o.1 in let b = p.1 in let high = k.down_to p.1 in omega arith)
  ]
  | inr o ↦ elim (parity g) [
    | inl p ↦ absurd (let s = rw (o.0, p.0) at e in let a = o.1 in let b = p.1 in let high = h.down_to o.1 in omega arith)
    | inr p ↦ let s = rw (o.0, p.0) at e in let a = h.down_to o.1 in let b = k.down_to p.1 in omega arith
  ]
]

-- squares and what is between them
square_above : (a b s t : ℕ) → s ≤ 2 * a → a < b → a * a + s ≡ b * b + t → ⊥
square_above a b s t low less e = let l = mul-le (a + 1) (a + 1) b b (omega arith) (omega arith) in omega arith

square : (a b s t : ℕ) → s ≤ 2 * a → t ≤ 2 * b → a * a + s ≡ b * b + t → (a ≡ b) × (s ≡ t)
square a b s t s_low t_low e = elim (eqb_tells a b) [
  | inl d ↦ (d.1, let q = ap (λ (x : ℕ). x * x) d.1 in omega arith)
  | inr d ↦ elim (leb_tells a b) [
    | inl l ↦ absurd (let n = d.1 in let l1 = l.1 in square_above a b s t s_low (omega arith) e)
    | inr l ↦ absurd (let l1 = l.1 in square_above b a t s t_low (omega arith) (sym e))
  ]
]

pub apart : (most : ℕ) (c d : Cell) → IsCell most c → IsCell most d → place_of most c ≡ place_of most d → c ≡ d
apart most c d h k e =
    let hs = h.some in let ks = k.some in let hf = h.few in let kf = k.few in let ht = h.to in let kt = k.to in
    let one = radix most ((most - c.level) * (most - c.level) + slot_of most c.first) (c.seat - 1) ((most - d.level) * (most - d.level) + slot_of most d.first) (d.seat - 1) (omega arith) (omega arith) e in
    let two = square (most - c.level) (most - d.level) (slot_of most c.first) (slot_of most d.first) (slot_low most c.level c.first h.to h.from h.instance) (slot_low most d.level d.first k.to k.from k.instance) one.0 in
    let level : c.level ≡ d.level = (let same = two.0 in omega arith) in
    let seat : c.seat ≡ d.seat = (let same = one.1 in omega arith) in
    cell_is c d level (slot_apart most c.level c.first d.first h.instance (subst (λ (x : ℕ). IsInstance most x d.first) (sym level) k.instance) two.1) seat

pub level_low : (m x f : ℕ) → x ≤ m → 1 ≤ x → IsInstance m x f → (m - x) * (m - x) + slot_of m f + 1 ≤ m * m
level_low m x f to from h =
    let low = slot_low m x f to from h in
    let a = mul-le (m - x + 1) (m - x + 1) m m (omega arith) (omega arith) in
    square_up (m - x) (slot_of m f) m low a
  where
    square_up : (a s n : ℕ) → s ≤ 2 * a → (a + 1) * (a + 1) ≤ n * n → a * a + s + 1 ≤ n * n
    square_up a s n low l = omega arith

pub within : (most : ℕ) (c : Cell) → IsCell most c → place_of most c < cells most
within most c h =
    let low = level_low most c.level c.first h.to h.from h.instance in
    let some = h.some in let few = h.few in
    let b = mul-le ((most - c.level) * (most - c.level) + slot_of most c.first + 1) most (most * most) most low (omega arith) in
    row_up ((most - c.level) * (most - c.level) + slot_of most c.first) most (most * most) (c.seat - 1) b (omega arith)
  where
    row_up : (a n b s : ℕ) → (a + 1) * n ≤ b * n → s < n → a * n + s < b * n
    row_up a n b s l low = omega arith

pub some_cells : (most : ℕ) → 1 ≤ most → 0 < cells most
some_cells most some = let a = mul-le 1 1 most most some some in let b = mul-le 1 1 (most * most) most (omega arith) some in omega arith

pub few_cells : (most : ℕ) → most ≤ 64 → cells most ≤ 64 * 64 * 64
few_cells most few =
    let a = mul-le most most 64 64 few few in
    mul-le (most * most) most (64 * 64) 64 a few
