-- Replicas that share one log (state machine replication: Schneider 1990).
use Rattle.std.specs.Prelude.{◌≡◌, ℕ, List, [], ◌∷◌, ◌++◌, All}
use mathlib.Core.List.{IsPrefix}
use Rattle.service_log.specs.GroupState.{GroupState}
use Rattle.service_log.specs.Places.{stands_in}
use Rattle.service_log.specs.Replicas.{IsReplica, Leads}
use Rattle.service_log.specs.ReplicaState.{ReplicaState}

-- a batch, and the replies that were reported to whom it came from
pub record Reported (R : Type 0) : Type 0 where
  pub batch : List ℕ
  pub replies : R

module _ {M R : Type 0} (applies : M → List ℕ → R → M → Type 0) where
  -- the batch stands in the log, and the replies are those due at its place, behind all that stands before it
  pub record IsDueIn (start : M) (log : List (List ℕ)) (reported : Reported R) : Type 0 where
    pub before : List (List ℕ)
    pub stands : IsPrefix (before ++ reported.batch ∷ []) log
    pub was : M
    pub is : M
    pub led : Leads applies start before was
    pub due : applies was reported.batch reported.replies is

  -- each replica that is not poisoned was led from this start by a prefix of the log, and each reply that was reported is due at its batch's
  -- place of it
  pub record IsOneHistory (start : M) (log : List (List ℕ)) (replicas : List (ReplicaState M)) (reported : List (Reported R)) : Type 0 where
    pub prefixes : All (IsReplica applies (stands_in log) start) replicas
    pub answers : All (IsDueIn start log) reported

  -- one history from this start with all that was reported before is one still
  abbrev pub StaysOneHistory : M → GroupState M → GroupState M → Type 0
  StaysOneHistory start old new = (reported : List (Reported R)) → IsOneHistory start old.log old.replicas reported → IsOneHistory start new.log new.replicas reported

  -- and it is one with these replies to a batch told behind all others
  abbrev pub TellsOneMore : M → GroupState M → GroupState M → List ℕ → R → Type 0
  TellsOneMore start old new batch replies = (reported : List (Reported R)) → IsOneHistory start old.log old.replicas reported →
      IsOneHistory start new.log new.replicas (reported ++ record { batch = batch; replies = replies } ∷ [])

  -- what is said to an entry, and the machine after it, are determined by the entry and the machine before it
  abbrev pub IsDetermined : Type 0
  IsDetermined = (m : M) (entry : List ℕ) (said other : R) (n k : M) → applies m entry said n → applies m entry other k → (said ≡ other) × (n ≡ k)

  -- machines that are so related are it still behind an entry that was applied to both, whatever was said to it
  abbrev pub StaysAlike : (M → M → Type 0) → Type 0
  StaysAlike Alike = (m n : M) (entry : List ℕ) (said other : R) (m' n' : M) → Alike m n → applies m entry said m' → applies n entry other n' → Alike m' n'
