-- what contracts see of a hall that a log leads, and of who keeps its stays
use Rattle.std.specs.Prelude.{ℕ, List, Bool, Option}
use Rattle.service_hall.specs.HallState.{HallState}
use Rattle.service_follow.specs.declared.gathering.Gathering.{Gathering}
use Rattle.service_follow.specs.declared.front_end_stay.FrontEndStay.{FrontEndStay}

-- The hall, the stays with the front end that keeps each, how many entries were applied, how many of them stood before the compaction that was read
-- last, and the part of one that was read. It is blind where it began at a later place of the log than the first, and has read no compaction whole:
-- then its hall is nobody's
pub record StayState : Type 0 where
  pub hall : HallState
  pub kept : List FrontEndStay
  pub entries : ℕ
  pub compacted : ℕ
  pub gathered : Option Gathering
  pub blind : Bool
