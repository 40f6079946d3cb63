-- what contracts see of a hall that follows a log
use Rattle.std.specs.Prelude.{ℕ}
use Rattle.model_asked.specs.declared.config.Config.{Config}
use Rattle.service_log.specs.ReplicaState.{ReplicaState}
use Rattle.service_hall.specs.HallState.{HallState}
use Rattle.service_follow.specs.StayState.{StayState}

-- the replica of the hall, the same with who keeps its stays, the store of the log, what the hall was opened for, and the place from which on
-- entries were applied
pub record FollowState (S : Type 0) : Type 0 where
  pub replica : ReplicaState HallState
  pub stays : ReplicaState StayState
  pub store : S
  pub config : Config
  pub from : ℕ
