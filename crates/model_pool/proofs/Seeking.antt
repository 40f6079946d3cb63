-- probes of the bits, one after the other, until one gets a number
use Rattle.std.proofs.Common.{◌≡◌, ◌∙◌, ap, sym, subst, set, List, Bool, zero, ℕ, suc, ◌+◌, ◌-◌, ◌<◌, ◌≤◌, ◌⊎◌, true, false, inl, inr, refl, get_or, arith, nat_lt, max}
use Rattle.model_pool.proofs.Common.{eqb_tells, leb_tells, Registers, TestAndSet, Clear, after_access, Gets, Stay, Seeking, Settled, probe_access, leave_access}
use Rattle.std.proofs.lemmas.Bool.{le-leb}
use Rattle.std.proofs.lemmas.List.{set-get_or, get_or-set_other}
use Rattle.model_pool.specs.Invariant.{AreSetBelow, AreSetFrom}

-- probes from the bit `start` on have missed those below this one. What probes from here on get, all of them get; and past
-- the last bit they have got the last number
pub record Missed (size start : ℕ) (first : Registers (Unit {0})) (bit : ℕ) (now : Registers (Unit {0})) : Type 0 where
  pub onward : (bit < size) ⊎ (size ≤ bit) × (bit ≡ start) → (n : ℕ) (new : Registers (Unit {0})) → Gets size bit now n new → Gets size start first n new
  pub past : size ≤ bit → start < bit → Gets size start first size now

module _ (size start : ℕ) (first : Registers (Unit {0})) (bit : ℕ) (now : Registers (Unit {0})) (m : Missed size start first bit now) where
  -- where the bit is clear the probe gets its number
  pub got_bit : bit < size → get_or now.bits bit false ≡ false → Gets size start first bit (after_access now (TestAndSet bit))
  got_bit below clear = m.onward (inl below) bit (after_access now (TestAndSet bit)) (record { misses = 0; after = rw (le-leb (suc bit) size (omega arith), clear) (refl, refl) })

  -- where it is set the next one is probed, if there is one
  pub missed_bit : start ≤ bit → bit < size → get_or now.bits bit false ≡ true → Missed size start first (bit + 1) (after_access now (TestAndSet bit))
  missed_bit low below was =
      let here : nat_lt bit size ≡ true = le-leb (suc bit) size (omega arith) in
      elim (leb_tells (suc (bit + 1)) size) [
        | inl k ↦ record {
          onward = λ h n new gets. m.onward (inl below) n new (record { misses = suc gets.misses; after = rw (here, was, k.0) (refl, gets.after) });
          past = λ end more. absurd (let e = k.1 in omega arith);
        }
        | inr k ↦ record {
          onward = λ h n new gets. absurd (elim h [ inl more ↦ (let e = k.1 in omega arith) | inr one ↦ (let e = one.1 in omega arith) ]);
          past = λ end more. m.onward (inl below) size (after_access now (TestAndSet bit)) (record { misses = 0; after = rw (here, was, k.0) (refl, refl) });
        }
      ]

  -- past the last bit the last number is left
  pub got_last : start ≤ bit → size ≤ bit → Gets size start first size now
  got_last low end = elim (leb_tells (suc start) bit) [
    | inl l ↦ m.past end (omega (arith, l.1))
    | inr l ↦ elim (leb_tells (suc bit) size) [
      | inl k ↦ absurd (let e = k.1 in omega arith)
      | inr k ↦ m.onward (inr (end, omega (arith, l.1))) size now (record { misses = 0; after = rw k.0 (refl, refl) })
    ]
  ]

-- to set a bit that is set changes nothing
pub set_again : (m : Registers (Unit {0})) (bit : ℕ) → get_or m.bits bit false ≡ true → after_access m (TestAndSet bit) ≡ m
set_again m bit was =
    let same : set m.bits bit true ≡ m.bits = ap (λ (b : Bool). set m.bits bit b) (sym was) ∙ set-get_or m.bits bit false in
    ap (λ (bits : List Bool). let n : Registers (Unit {0}) = record { first = m.first; values = m.values; bits = bits } in n) same

-- probes that begin where all bits up to here are set have missed these
missed_on : (size start k : ℕ) (first : Registers (Unit {0})) → (k ≡ 0) ⊎ (start + k ≤ size) → AreSetFrom start (start + k) first → Missed size start first (start + k) first
missed_on size start zero first high set =
    subst (λ (bit : ℕ). Missed size start first bit first) (omega arith) (record { onward = λ h n new gets. gets; past = λ end more. absurd (omega (arith, more)) })
missed_on size start (suc k) first high set =
    let room : start + suc k ≤ size = elim high [ inl none ↦ absurd (omega (arith, none)) | inr h ↦ h ] in
    let was = set (start + k) (omega arith) (omega arith) in
    let m = missed_on size start k first (inr (omega (arith, room))) (λ i from less. set i from (omega (arith, less))) in
    subst (λ (now : Registers (Unit {0})). Missed size start first (start + suc k) now) (set_again first (start + k) was)
    (subst (λ (bit : ℕ). Missed size start first bit (after_access first (TestAndSet (start + k)))) (omega arith) (missed_bit size start first (start + k) first m (omega arith) (omega (arith, room)) was))

pub missed_from : (size start from : ℕ) (first : Registers (Unit {0})) → start ≤ from → from ≤ max start size → AreSetFrom start from first → Missed size start first from first
missed_from size start from first low high set =
    let is : start + (from - start) ≡ from = omega (arith, low) in
    let room : (from - start ≡ 0) ⊎ (start + (from - start) ≤ size) = elim (leb_tells from size) [ inl l ↦ inr (omega (arith, is, l.1)) | inr l ↦ inl (omega (arith, low, high, l.1)) ] in
    subst (λ (bit : ℕ). Missed size start first bit first) is (missed_on size start (from - start) first room (λ i from less. set i from (omega (arith, less, is))))

-- a bit more that is set
pub set_from_more : (now : Registers (Unit {0})) (start bit : ℕ) → AreSetFrom start bit now → get_or now.bits bit false ≡ true → AreSetFrom start (bit + 1) now
set_from_more now start bit below was i from less = elim (eqb_tells i bit) [
  | inl e ↦ subst (λ (k : ℕ). get_or now.bits k false ≡ true) (sym e.1) was
  | inr e ↦ below i from (let apart = e.1 in omega (arith, less, apart))
]

set_stays : (bits : List Bool) (i bit : ℕ) → i ≡ bit → get_or bits i false ≡ true → get_or (set bits bit true) i false ≡ true
set_stays bits i bit e was =
    let own : get_or bits bit false ≡ true = subst (λ (k : ℕ). get_or bits k false ≡ true) e was in
    let same : set bits bit true ≡ bits = ap (λ (b : Bool). set bits bit b) (sym own) ∙ set-get_or bits bit false in
    ap (λ (xs : List Bool). get_or xs i false) same ∙ was

-- other bits stay
pub set_from_set : (now : Registers (Unit {0})) (start low bit : ℕ) → AreSetFrom start low now → AreSetFrom start low (after_access now (TestAndSet bit))
set_from_set now start low bit below i from less = elim (eqb_tells i bit) [
  | inl e ↦ set_stays now.bits i bit e.1 (below i from less)
  | inr e ↦ get_or-set_other now.bits bit i true false e.1 ∙ below i from less
]

pub set_below_clear : (now : Registers (Unit {0})) (low bit : ℕ) → low ≤ bit → AreSetBelow low now → AreSetBelow low (after_access now (Clear bit))
set_below_clear now low bit beyond below i from less = get_or-set_other now.bits bit i false false (λ e. omega (arith, less, beyond, e)) ∙ below i from less

pub set_below_probe : (now : Registers (Unit {0})) (low size : ℕ) (stay : Stay) → AreSetBelow low now → AreSetBelow low (after_access now (probe_access size stay))
set_below_probe now low size (Settled number) below = below
set_below_probe now low size (Seeking next) below = elim (leb_tells (suc next) size) [
  | inl e ↦ rw e.0 (set_from_set now 1 low next below)
  | inr e ↦ rw e.0 below
]

pub set_below_leave : (now : Registers (Unit {0})) (low size number : ℕ) → low ≤ number → AreSetBelow low now → AreSetBelow low (after_access now (leave_access size (Settled number)))
set_below_leave now low size number beyond below = elim (leb_tells (suc number) size) [
  | inl e ↦ rw e.0 (set_below_clear now low number beyond below)
  | inr e ↦ rw e.0 below
]
