-- a hall that a log leads, and who keeps its stays
use Rattle.std.specs.Prelude.{◌≡◌, ◌==◌, ◌-◌, ◌⊎◌, ℕ, List, [], Bool, true, false, if◌then◌else◌, Option, Some, None}
use Rattle.model_asked.specs.declared.config.Config.{Config}
use Rattle.service_log.specs.ReplicaState.{ReplicaState}
use Rattle.service_hall.specs.Compactions.{IsCompacted}
use Rattle.service_hall.specs.HallState.{HallState}
use Rattle.service_hall.specs.Halls.{hall_of}
use Rattle.service_follow.specs.Batches.{next_count}
use Rattle.service_follow.specs.Entries.{HallApplies}
use Rattle.service_follow.specs.Kept.{kept_behind, token_of}
use Rattle.service_follow.specs.Marks.{entries_in, head_at, kept_in, mark_of, next_in}
use Rattle.service_follow.specs.Said.{reply_queue_of}
use Rattle.service_follow.specs.ReplyQueueState.{ReplyQueueState}
use Rattle.service_follow.specs.StayState.{StayState}
use Rattle.service_follow.specs.declared.gathering.Gathering.{Gathering}
use Rattle.service_follow.specs.declared.marks.Mark.{Mark}
use Rattle.service_follow.specs.declared.marks.Mark.TheVariants.{Ordinary, Begins, GoesOn, Ends}

-- a hall of a config with no event
abbrev pub stays_of : Config → StayState
stays_of config = record { hall = hall_of config []; kept = []; entries = 0; compacted = 0; gathered = None; blind = false }

-- of a hall of a config nothing is known
abbrev pub blind_of : Config → StayState
blind_of config = record { hall = hall_of config []; kept = []; entries = 0; compacted = 0; gathered = None; blind = true }

-- from the first place of a log a hall with no event starts, and from others one of which nothing is known
abbrev pub start_of : Config → ℕ → StayState
start_of config from = if from == 0 then stays_of config else blind_of config

-- how many entries were applied since the compaction that was read last, or from the first one on
abbrev pub since_compaction : StayState → ℕ
since_compaction w = w.entries - w.compacted

-- the token and the count of the entry that was read last, where it is one of a compaction that goes on
abbrev pub under_way : Option Gathering → Option (List ℕ)
under_way None = None
under_way (Some part) = Some part.head

-- The hall answered the lines of the entry. The front end of the entry's token was heard of, and keeps the stays that the lines entered
pub record TakesLines (w : StayState) (entry : List ℕ) (reply_queue : ReplyQueueState) (u : StayState) : Type 0 where
  pub hall : HallApplies w.hall entry reply_queue u.hall
  pub kept : u.kept ≡ kept_behind (token_of entry) w.entries w.kept reply_queue.left
  pub entries : u.entries ≡ next_count w.entries
  pub compacted : u.compacted ≡ w.compacted
  pub gathered : u.gathered ≡ None
  pub blind : u.blind ≡ false

-- nothing was said, and a part of a compaction that was read is let go
pub record LetsGo (w : StayState) (reply_queue : ReplyQueueState) (u : StayState) : Type 0 where
  pub silent : reply_queue ≡ reply_queue_of []
  pub state : u ≡ record w { gathered = None }

-- the lines of an entry lead on to the hall of a part of a compaction, of which it is the last entry
pub record Gathers (from : HallState) (entry : List ℕ) (g : Gathering) : Type 0 where
  pub said : ReplyQueueState
  pub hall : HallApplies from entry said g.halls
  pub head : g.head ≡ head_at 0 entry

-- a part of a compaction was read from this hall on, and nothing was said
pub record ReadsPart (from : HallState) (w : StayState) (entry : List ℕ) (reply_queue : ReplyQueueState) (u : StayState) : Type 0 where
  pub part : Gathering
  pub gathers : Gathers from entry part
  pub silent : reply_queue ≡ reply_queue_of []
  pub state : u ≡ record w { gathered = Some part }

-- a hall is what a compaction tells, with who keeps its stays
abbrev pub told_by : Gathering → List ℕ → StayState
told_by part entry = record { hall = part.halls; kept = kept_in entry; entries = entries_in entry; compacted = entries_in entry; gathered = None; blind = false }

-- a hall is told by fewer events, or by the very same
abbrev pub IsRetold : HallState → HallState → Type 0
IsRetold h new = IsCompacted h new ⊎ (new ≡ h)

-- a compaction tells the same of a hall by no more events, and the very same of who keeps its stays
pub record TellsTheSame (w u : StayState) : Type 0 where
  pub hall : IsRetold w.hall u.hall
  pub kept : u.kept ≡ w.kept
  pub entries : u.entries ≡ w.entries

-- A compaction was read from this hall to its end, nothing was said, and all is what it tells. Where anything was known before, that is the same
pub record ReadsLast (from : HallState) (w : StayState) (entry : List ℕ) (reply_queue : ReplyQueueState) (u : StayState) : Type 0 where
  pub part : Gathering
  pub gathers : Gathers from entry part
  pub silent : reply_queue ≡ reply_queue_of []
  pub state : u ≡ told_by part entry
  pub same : w.blind ≡ false → TellsTheSame w u

abbrev pub TakesIfKnown : Bool → StayState → List ℕ → ReplyQueueState → StayState → Type 0
TakesIfKnown false w entry reply_queue u = TakesLines w entry reply_queue u
TakesIfKnown true w entry reply_queue u = LetsGo w reply_queue u

abbrev pub GoesOnFrom : Option Gathering → StayState → List ℕ → ReplyQueueState → StayState → Type 0
GoesOnFrom None w entry reply_queue u = LetsGo w reply_queue u
GoesOnFrom (Some part) w entry reply_queue u = ReadsPart part.halls w entry reply_queue u

abbrev pub EndsFrom : Option Gathering → StayState → List ℕ → ReplyQueueState → StayState → Type 0
EndsFrom None w entry reply_queue u = LetsGo w reply_queue u
EndsFrom (Some part) w entry reply_queue u = ReadsLast part.halls w entry reply_queue u

-- Lines of commands are answered where the hall is known. A compaction begins with a hall with no event, goes on and ends by entries that stand
-- one behind the other, and any other entry between lets it go
abbrev pub AppliesBy : Mark → StayState → List ℕ → ReplyQueueState → StayState → Type 0
AppliesBy Ordinary w entry reply_queue u = TakesIfKnown w.blind w entry reply_queue u
AppliesBy Begins w entry reply_queue u = ReadsPart (hall_of w.hall.config []) w entry reply_queue u
AppliesBy GoesOn w entry reply_queue u = GoesOnFrom (next_in w.gathered entry) w entry reply_queue u
AppliesBy Ends w entry reply_queue u = EndsFrom (next_in w.gathered entry) w entry reply_queue u

abbrev pub StayApplies : StayState → List ℕ → ReplyQueueState → StayState → Type 0
StayApplies w entry reply_queue u = AppliesBy (mark_of entry) w entry reply_queue u

-- a replica of the hall alone
abbrev pub hall_part : ReplicaState StayState → ReplicaState HallState
hall_part r = record { machine = r.machine.hall; place = r.place; poisoned = r.poisoned; behind = r.behind }
