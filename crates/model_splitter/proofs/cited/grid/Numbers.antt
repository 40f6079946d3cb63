-- doors have different numbers
use Rattle.std.proofs.Common.{◌≡◌, ◌≢◌, ℕ, zero, suc, ◌+◌, ◌*◌, ◌/◌, ◌<◌, ◌≤◌, ◌⊎◌, inl, inr, refl, sym, ap, ◌∙◌, arith}
use Rattle.std.proofs.lemmas.Bool.Decides.{eqb_tells, leb_tells}
use Rattle.model_splitter.specs.grid.Door.{door_number, IsDoorWithin}

-- the doors above a diagonal
pub triangle : ℕ → ℕ
triangle zero = 0
triangle (suc d) = triangle d + suc d

pub twice_triangle : (d : ℕ) → 2 * triangle d ≡ d * (d + 1)
unfolding triangle
twice_triangle zero = refl
twice_triangle (suc d) = let before = twice_triangle d in omega arith

pub number_is : (d c : ℕ) → door_number d c ≡ triangle d + c
number_is d c = let twice = twice_triangle d in let half : d * (d + 1) / 2 ≡ triangle d = rw (← twice) (omega arith) in omega arith

triangle_grows : (d e : ℕ) → d < e → triangle d + d < triangle e
unfolding triangle
triangle_grows d zero l = absurd (omega arith)
triangle_grows d (suc e) l = elim (eqb_tells d e) [ inl s ↦ let same : triangle d ≡ triangle e = ap triangle s.1 in omega arith | inr s ↦ let before = triangle_grows d e (omega arith) in omega (arith, before) ]

apart : (d e : ℕ) → d ≢ e → (d < e) ⊎ (e < d)
apart d e n = elim (leb_tells d e) [ inl l ↦ inl (omega arith) | inr l ↦ inr (omega arith) ]

pub number_depth : (d c e f : ℕ) → c ≤ d → f ≤ e → door_number d c ≡ door_number e f → d ≡ e
number_depth d c e f k l h =
    let same : triangle d + c ≡ triangle e + f = sym (number_is d c) ∙ h ∙ number_is e f in
    elim (eqb_tells d e) [
      | inl s ↦ s.1
      | inr s ↦ elim (apart d e s.1) [
        | inl less ↦ absurd (let up = triangle_grows d e less in omega arith)
        | inr more ↦ absurd (let up = triangle_grows e d more in omega arith)
      ]
    ]

pub number_column : (d c e f : ℕ) → c ≤ d → f ≤ e → door_number d c ≡ door_number e f → c ≡ f
number_column d c e f k l h =
    let same : triangle d + c ≡ triangle e + f = sym (number_is d c) ∙ h ∙ number_is e f in
    let depth : triangle d ≡ triangle e = ap triangle (number_depth d c e f k l h) in
    omega arith

-- both registers of a door above diagonal m are there
pub number_below : (d c m : ℕ) → c ≤ d → d < m → 2 * door_number d c + 1 < m * (m + 1)
number_below d c m l k = let up = triangle_grows d m k in let twice = twice_triangle m in let is = number_is d c in omega arith

-- every number is that of a door
pub record IsNumbered (k : ℕ) : Type 0 where
  pub depth : ℕ
  pub column : ℕ
  pub inside : column ≤ depth
  pub is : k ≡ door_number depth column

pub numbered : (k : ℕ) → IsNumbered k
unfolding triangle
numbered zero = record { depth = 0; column = 0; inside = omega arith; is = refl }
numbered (suc k) =
    let before = numbered k in
    let k_is : k ≡ triangle before.depth + before.column = before.is ∙ number_is before.depth before.column in
    elim (leb_tells before.depth before.column) [
      | inl last ↦ record { depth = suc before.depth; column = 0; inside = omega arith; is = let i = before.inside in let l = last.1 in let number = number_is (suc before.depth) 0 in omega arith }
      | inr more ↦ record { depth = before.depth; column = suc before.column; inside = let l = more.1 in omega arith; is = let number = number_is before.depth (suc before.column) in omega arith }
    ]

-- the doors of the first b diagonals are those with the lowest numbers
pub number_within : (b k : ℕ) → IsDoorWithin b k → k < triangle b
number_within b k d = let up = triangle_grows d.depth b d.within in let number = number_is d.depth d.column in let inside = d.inside in let is = d.is in omega arith

-- as many numbers as there are doors on them
pub number_low : (b k : ℕ) → IsDoorWithin b k → k < b * (b + 1) / 2
number_low b k d =
    let low = number_within b k d in
    let twice = twice_triangle b in
    let half : b * (b + 1) / 2 ≡ triangle b = rw (← twice) (omega arith) in
    omega arith
