-- which stays a front end ends, and where that stands in the log
use Rattle.std.specs.Prelude.{◌≡◌, ◌+◌, ◌-◌, ◌^◌, ℕ, min, List, map, take}
use Rattle.model_asked.specs.declared.config.Config.{Config}
use Rattle.service_log.specs.Places.{Adds}
use Rattle.service_log.specs.Replicas.{HasAppliedFrom}
use Rattle.service_log.specs.ReplicaState.{ReplicaState}
use Rattle.service_follow.specs.Batches.{batch_of}
use Rattle.service_follow.specs.FollowState.{FollowState}
use Rattle.service_follow.specs.Hosted.{IsAtEnd}
use Rattle.service_follow.specs.Releases.{lines_of}
use Rattle.service_follow.specs.Stays.{StayApplies, start_of}
use Rattle.service_follow.specs.StayState.{StayState}
use Rattle.service_follow.specs.Watched.{due_of, watched}
use Rattle.service_follow.specs.declared.front_end_stay.FrontEndStay.{FrontEndStay}
use Rattle.service_follow.specs.declared.watches.Watch.{Watch}

-- how often the log was read to its end, once it was read once more, in 64 bits
abbrev pub next_read : ℕ → ℕ
next_read n = min (n + 1) (2 ^ 64 - 1)

-- The identities whose stays the front end of a token ends, sixteen at a time: nothing was heard of others for more than the grace time and
-- the 20 ticks for which they may answer
abbrev pub ended_of : List ℕ → List ℕ → ℕ → ℕ → List Watch → List FrontEndStay → List ℕ
ended_of token left grace tick watches kept = take 16 (due_of token left (grace + 20) tick (map (watched tick watches) kept))

-- the lines that end them
abbrev pub release_lines : List ℕ → List ℕ → ℕ → ℕ → List Watch → StayState → List ℕ
release_lines token left grace tick watches w = lines_of w.hall (ended_of token left grace tick watches w.kept)

-- at most a batch of these lines was added to a log, at the place of a hall that follows it
abbrev pub AddsBatch : {S : Type 0} → (S → ℕ → List ℕ → Type 0) → FollowState S → List ℕ → ℕ → List ℕ → FollowState S → Type 0
AddsBatch stands old token count lines new = Adds (stands old.store) old.stays.place (batch_of token count lines) (stands new.store)

-- A replica has applied all entries of the log, in order, from a hall of the config with no event, or from a later place on: a store told that
-- none stands behind them
pub record HasRead {S : Type 0} (lacks : S → ℕ → Type 0) (stood : ℕ → List ℕ → Type 0) (config : Config) (r : ReplicaState StayState) : Type 0 where
  pub from : ℕ
  pub applied : HasAppliedFrom StayApplies stood from (start_of config from) r
  pub end : S
  pub at_end : IsAtEnd (lacks end) r.place

-- A release was decided by all entries before its place. It is the entry of the front end, at the place up to which it had read the log; its
-- lines end the stays that were due to the hall there, and nothing else was added to the log
pub record IsDecided {S : Type 0} (lacks : S → ℕ → Type 0) (stood stands : ℕ → List ℕ → Type 0) (config : Config) (token : List ℕ) (count : ℕ) (left : List ℕ)
    (grace tick : ℕ) (watches : List Watch) : Type 0 where
  pub at : ReplicaState StayState
  pub read : HasRead lacks stood config at
  pub adds : Adds stood at.place (batch_of token count (release_lines token left grace tick watches at.machine)) stands

-- the stays were looked at where the log was read to its end, and that was counted
pub record HasLooked {S : Type 0} (lacks : S → ℕ → Type 0) (stood : ℕ → List ℕ → Type 0) (config : Config) (tick tick' : ℕ) (watches watches' : List Watch) : Type 0 where
  pub at : ReplicaState StayState
  pub read : HasRead lacks stood config at
  pub counted : tick' ≡ next_read tick
  pub looked : watches' ≡ map (watched tick' watches) at.machine.kept
