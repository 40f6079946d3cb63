-- A log in memory, and its replicas.
use Rattle.std.specs.Prelude.{ℕ, List}
use Rattle.service_log.specs.ReplicaState.{ReplicaState}

pub record GroupState (M : Type 0) : Type 0 where
  pub log : List (List ℕ)
  pub replicas : List (ReplicaState M)
