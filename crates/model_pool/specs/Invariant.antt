-- an invariant of every pool, after any calls
use Rattle.std.specs.Prelude.{◌≡◌, ℕ, ◌≤◌, ◌<◌, List, All, true, false, slice_index_or}
use Rattle.model_steps.specs.RegisterState.{Registers}
use Rattle.model_pool.specs.declared.competitor.Competitor.{Competitor}
use Rattle.model_pool.specs.Stay.{IsWithin}

-- all bits from one on below another are set
abbrev pub AreSetFrom : ℕ → ℕ → Registers (Unit {0}) → Type 0
AreSetFrom start low bits = (i : ℕ) → start ≤ i → i < low → slice_index_or bits.bits i false ≡ true

-- all bits below this one are set
abbrev pub AreSetBelow : ℕ → Registers (Unit {0}) → Type 0
AreSetBelow low bits = AreSetFrom 1 low bits

pub record IsSound (most size low : ℕ) (bits : Registers (Unit {0})) (cs : List Competitor) : Type 0 where
  pub first : 1 ≤ size
  pub last : size ≤ most
  pub top : most ≤ 65536
  pub low_first : 1 ≤ low
  pub low_last : low ≤ size
  pub below : AreSetBelow low bits
  pub stays : All (λ c. IsWithin size c.stay) cs
