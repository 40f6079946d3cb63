-- what a contract sees of the lines of those who own their identities
use Rattle.std.specs.Prelude.{ℕ, List}

-- the line that is begun, and what is ready for the service
pub record OwnerState : Type 0 where
  pub begun : List ℕ
  pub ready : List ℕ
