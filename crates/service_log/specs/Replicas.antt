-- Replicas of a machine that apply the entries of one log (state machine replication: Schneider 1990).
use Rattle.std.specs.Prelude.{◌≡◌, ◌≤◌, ℕ, ◌+◌, List, [], ◌∷◌, ◌++◌, length, false, true}
use Rattle.service_log.specs.declared.serve_fault.Cause.{Cause}
use Rattle.service_log.specs.declared.serve_fault.Cause.TheVariants.{Store, Memory, Damaged, Poisoned, Full, Busy}
use Rattle.service_log.specs.declared.serve_fault.ServeFault.{ServeFault}
use Rattle.service_log.specs.declared.serve_fault.ServeFault.TheVariants.{TooLong, Unknown}
use Rattle.service_log.specs.declared.store.TheConstants.{MOST_PLACES}
use Rattle.service_log.specs.Places.{Adds}
use Rattle.service_log.specs.ReplicaState.{ReplicaState}

-- these entries stand in order at the places from this one on
abbrev pub StandsFrom : (ℕ → List ℕ → Type 0) → ℕ → List (List ℕ) → Type 0
StandsFrom stands place [] = Unit {0}
StandsFrom stands place (e ∷ es) = stands place e × StandsFrom stands (place + 1) es

-- all that stood stands, and beside it at most a batch, at one place
pub record AddsOnce (before : ℕ → List ℕ → Type 0) (batch : List ℕ) (after : ℕ → List ℕ → Type 0) : Type 0 where
  pub at : ℕ
  pub adds : Adds before at batch after

-- so a fault of a step leaves a replica: where an entry was not applied it is poisoned, and else as it was, but that it may be
-- behind now. No place is left where all were applied, and no step learns that others came first
abbrev pub FaultLeaves : {M : Type 0} → ReplicaState M → Cause → ReplicaState M → Type 0
FaultLeaves old (Store fault) new = new ≡ record old { behind = new.behind }
FaultLeaves old Memory new = new.poisoned ≡ true
FaultLeaves old Damaged new = new.poisoned ≡ true
FaultLeaves old Poisoned new = (old.poisoned ≡ true) × (new ≡ old)
FaultLeaves old Full new = (MOST_PLACES ≤ old.place) × (new ≡ old)
FaultLeaves old Busy new = ⊥

-- so a fault ends some steps of a replica, which may have applied entries before it
abbrev pub EndsBy : {M : Type 0} → ReplicaState M → Cause → ReplicaState M → Type 0
EndsBy old (Store fault) new = new.poisoned ≡ false
EndsBy old Memory new = new.poisoned ≡ true
EndsBy old Damaged new = new.poisoned ≡ true
EndsBy old Poisoned new = (old.poisoned ≡ true) × (new ≡ old)
EndsBy old Full new = (MOST_PLACES ≤ new.place) × (new.poisoned ≡ false)
EndsBy old Busy new = new.poisoned ≡ false

-- so one leaves a replica that was to serve a batch
abbrev pub ServeLeaves : {M : Type 0} → ReplicaState M → ServeFault → ReplicaState M → Type 0
ServeLeaves old TooLong new = new ≡ old
ServeLeaves old (Unknown cause) new = EndsBy old cause new

-- where an entry applied to a machine, what is said to it and the machine after it are so related
module _ {M R : Type 0} (applies : M → List ℕ → R → M → Type 0) where
  -- these entries, applied in order, lead the machine from m to n, whatever is said to them
  abbrev pub Leads : M → List (List ℕ) → M → Type 0
  Leads m [] n = m ≡ n
  Leads m (e ∷ es) n = (said : R) × (mid : M) × applies m e said mid × Leads mid es n

  -- where an entry stands at a place, so far as a store tells
  module _ (stands : ℕ → List ℕ → Type 0) where
    -- the entry that stands at the replica's place was applied, and this was said to it
    pub record IsApplied (old : ReplicaState M) (entry : List ℕ) (replies : R) (new : ReplicaState M) : Type 0 where
      pub applied : applies old.machine entry replies new.machine
      pub stood : stands old.place entry
      pub count : new.place ≡ old.place + 1
      pub was_well : old.poisoned ≡ false
      pub is_well : new.poisoned ≡ false

    -- one more entry was applied
    pub record OneMore (old new : ReplicaState M) : Type 0 where
      pub entry : List ℕ
      pub said : R
      pub more : IsApplied old entry said new

    -- some more entries were applied, each once, in the order in which they stand
    pub record GoesOn (old new : ReplicaState M) : Type 0 where
      pub more : List (List ℕ)
      pub led : Leads old.machine more new.machine
      pub stood : StandsFrom stands old.place more
      pub count : new.place ≡ old.place + length more
      pub was_well : old.poisoned ≡ false

    -- a batch was applied last, at its place behind what had been applied and the entries of others, and the replies are those due there
    pub record IsAnswered (old : ReplicaState M) (batch : List ℕ) (new : ReplicaState M) (replies : R) : Type 0 where
      pub others : List (List ℕ)
      pub before : M
      pub led : Leads old.machine others before
      pub reported : applies before batch replies new.machine
      pub stood : StandsFrom stands old.place (others ++ batch ∷ [])
      pub count : new.place ≡ old.place + length others + 1
      pub was_well : old.poisoned ≡ false
      pub is_well : new.poisoned ≡ false

    -- what was applied to the machine from a place on, since it was so there
    pub record HasAppliedFrom (from : ℕ) (start : M) (r : ReplicaState M) : Type 0 where
      pub entries : List (List ℕ)
      pub led : Leads start entries r.machine
      pub stood : StandsFrom stands from entries
      pub count : r.place ≡ from + length entries

    -- its machine was led from this start by the entries of the log between that place and its own, but where it is poisoned
    abbrev pub IsReplicaFrom : ℕ → M → ReplicaState M → Type 0
    IsReplicaFrom from start r = r.poisoned ≡ false → HasAppliedFrom from start r

    -- these are the replies due to a batch at its place, behind all that stands before it from a place on, and the replica has applied all that
    -- up to it
    pub record IsDueFrom (from : ℕ) (start : M) (batch : List ℕ) (replies : R) (r : ReplicaState M) : Type 0 where
      pub before : List (List ℕ)
      pub was : M
      pub led : Leads start before was
      pub due : applies was batch replies r.machine
      pub stood : StandsFrom stands from (before ++ batch ∷ [])
      pub count : r.place ≡ from + length before + 1
      pub is_well : r.poisoned ≡ false

    -- the same from the first entry of the log on
    abbrev pub HasApplied : M → ReplicaState M → Type 0
    HasApplied start r = HasAppliedFrom 0 start r

    abbrev pub IsReplica : M → ReplicaState M → Type 0
    IsReplica start r = IsReplicaFrom 0 start r

    abbrev pub IsDueAt : M → List ℕ → R → ReplicaState M → Type 0
    IsDueAt start batch replies r = IsDueFrom 0 start batch replies r
