-- what contracts see of a replica
use Rattle.std.specs.Prelude.{ℕ, Bool}

-- its machine, how many entries were applied to it, whether it was refused memory while it applied one: then nothing is known of it; and
-- whether it is behind: then it reads what stands at its place before it offers anything for it
pub record ReplicaState (M : Type 0) : Type 0 where
  pub machine : M
  pub place : ℕ
  pub poisoned : Bool
  pub behind : Bool
