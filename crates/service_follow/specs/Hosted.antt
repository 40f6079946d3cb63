-- a turn of the loop over a queue of replies that was prefetched of a log
use Rattle.std.specs.Prelude.{◌≡◌, ◌+◌, ◌≤◌, ◌<◌, ◌⊎◌, ℕ, List, [], ◌∷◌, ◌++◌, length, true, false, Option}
use Rattle.model_asked.specs.Config.{gives_names}
use Rattle.model_asked.specs.declared.config.Config.{Config}
use Rattle.service_log.specs.Places.{Keeps, Same}
use Rattle.service_log.specs.Replicas.{HasAppliedFrom, IsDueFrom, Leads, StandsFrom}
use Rattle.service_log.specs.ReplicaState.{ReplicaState}
use Rattle.service_log.specs.declared.store.TheConstants.{MOST_PLACES}
use Rattle.text_player.specs.Shared.{TurnLog}
use Rattle.service_hall.specs.Reading.{Serves, all_admitted}
use Rattle.service_hall.specs.declared.rules.Rules.{Rules}
use Rattle.service_hall.specs.declared.reads.Reads.{Reads}
use Rattle.service_hall.specs.declared.reads.Reads.TheVariants.{Plain}
use Rattle.service_loop.specs.Seats.{RepliesSent, Seating, TurnsTaken}
use Rattle.service_follow.specs.Batches.{batch_by, next_count}
use Rattle.service_follow.specs.Entries.{behind_first_line, rules_of}
use Rattle.service_follow.specs.FollowState.{FollowState}
use Rattle.service_follow.specs.Marks.{mark_of}
use Rattle.service_follow.specs.Readings.{are_reads, read_by, requests_in}
use Rattle.service_follow.specs.Said.{reply_queue_of}
use Rattle.service_follow.specs.ReplyQueueState.{ReplyQueueState}
use Rattle.service_follow.specs.Stays.{StayApplies, start_of}
use Rattle.service_follow.specs.StayState.{StayState}
use Rattle.service_follow.specs.Terms.{HasFirstLine}
use Rattle.service_follow.specs.declared.marks.Mark.TheVariants.{Ordinary}

-- nothing stands at the place behind all that was applied, as a store tells, or there is none
abbrev pub IsAtEnd : (ℕ → Type 0) → ℕ → Type 0
IsAtEnd lacks place = (MOST_PLACES ≤ place) ⊎ lacks place

-- Where entries stand so in a log: the answers to these lines are on the queue of replies, as they are due at the place of an entry of just them, to a
-- hall to which all entries before it were applied and nothing else, from the first or from a later place on. It stands behind all that had been
-- applied before, up to this place. All is known of the hall there
pub record IsPrefetched (stands : ℕ → List ℕ → Type 0) (config : Config) (from place : ℕ) (lines : List ℕ) (reply_queue : ReplyQueueState) (r : ReplicaState StayState) : Type 0 where
  pub batch : List ℕ
  pub lines_are : behind_first_line batch ≡ lines
  pub ordinary : mark_of batch ≡ Ordinary
  pub due : IsDueFrom StayApplies stands from (start_of config from) batch reply_queue r
  pub later : place < r.place
  pub known : r.machine.blind ≡ false

-- Where entries stand so in a log, and a store tells so what it lacks: these lines ask for reads alone, and the replies to them are on the queue of replies,
-- as the desk of a hall gives them to which all entries before a place were applied and nothing else, from the first or from a later place on. Nothing
-- stands at that place, as the store tells, and all that had been applied before, up to this place, stands before it. All is known of the hall there
pub record IsReadAtEnd (stands : ℕ → List ℕ → Type 0) (lacks : ℕ → Type 0) (config : Config) (from place : ℕ) (lines : List ℕ) (reply_queue : ReplyQueueState) (r : ReplicaState StayState) : Type 0 where
  pub reads : are_reads config.world lines ≡ true
  pub applied : HasAppliedFrom StayApplies stands from (start_of config from) r
  pub at_end : IsAtEnd lacks r.place
  pub later : place ≤ r.place
  pub known : r.machine.blind ≡ false
  pub replies : reply_queue ≡ reply_queue_of (read_by r.machine.hall (requests_in config.world lines))

-- a replica is poisoned, or was not, and has applied no fewer entries than before
abbrev pub IsNoEarlier : {M : Type 0} → ReplicaState M → ReplicaState M → Type 0
IsNoEarlier old new = new.poisoned ≡ false → (old.poisoned ≡ false) × (old.place ≤ new.place)

-- where entries stand so in a log, as each state of its store tells
module _ {S : Type 0} (stands : S → ℕ → List ℕ → Type 0) where
  -- the same of a hall that follows the log, and of just this batch
  pub record IsServed (old new : FollowState S) (batch : List ℕ) (reply_queue : ReplyQueueState) : Type 0 where
    pub prefetched : IsPrefetched (stands new.store) new.config new.from old.replica.place (behind_first_line batch) reply_queue new.stays
    pub batch_is : prefetched.batch ≡ batch

  -- the same, of a batch of these lines, whose first line has the token of its front end, the count behind that of the batch before, and the rules of its front
  -- end
  pub record IsPrefetchedBy (old new : FollowState S) (rules : Rules) (token : List ℕ) (count count' : ℕ) (lines : List ℕ) (reply_queue : ReplyQueueState) : Type 0 where
    pub prefetched : IsPrefetched (stands new.store) new.config new.from old.replica.place lines reply_queue new.stays
    pub batch_is : prefetched.batch ≡ batch_by rules token count' lines
    pub rules_are : rules_of prefetched.batch ≡ rules
    pub count_is : count' ≡ next_count count

  -- a hall that follows a log has applied all entries, in order, and its store told that none stands behind them
  pub record HasAppliedAll (lacks : S → ℕ → Type 0) (f : FollowState S) : Type 0 where
    pub applied : HasAppliedFrom StayApplies (stands f.store) f.from (start_of f.config f.from) f.stays
    pub at_end : IsAtEnd (lacks f.store) f.stays.place
    pub well : f.replica.poisoned ≡ false
    pub place : f.replica.place ≡ f.stays.place

  -- a hall of this config was opened, whose world gives names: its log begins with the line of the config, all that stood there was applied up to a place at
  -- which nothing stands, as the store told, and all is known of the hall
  pub record IsOpened (lacks : S → ℕ → Type 0) (config : Config) (f : FollowState S) : Type 0 where
    pub named : gives_names config.world ≡ true
    pub config_is : f.config ≡ config
    pub begins : HasFirstLine (stands f.store) config
    pub at_end : IsAtEnd (lacks f.store) f.replica.place
    pub known : f.stays.machine.blind ≡ false

  -- Reads of a front end that has none stored are answered so, where the log was read to its end since they came. They add nothing to the log
  pub record IsReadBy (lacks : S → ℕ → Type 0) (old new : FollowState S) (reads : Reads) (lines : List ℕ) (reply_queue : ReplyQueueState) : Type 0 where
    pub read : IsReadAtEnd (stands new.store) (lacks new.store) new.config new.from old.replica.place lines reply_queue new.stays
    pub plain : reads ≡ Plain
    pub unwritten : Same (stands old.store) (stands new.store)

  -- all that stood in a log stands, and a hall that follows it is of the same config, started where it did, and is no earlier
  pub record HasMovedOn (old new : FollowState S) : Type 0 where
    pub keeps : Keeps (stands old.store) (stands new.store)
    pub config : new.config ≡ old.config
    pub from : new.from ≡ old.from
    pub later : IsNoEarlier old.replica new.replica

  -- what stands new in a log is this entry, at the place of a hall to which all entries before it were applied, and no others
  abbrev pub AddsWhereApplied : FollowState S → FollowState S → List ℕ → Type 0
  AddsWhereApplied old new entry = (place : ℕ) (written : List ℕ) → stands new.store place written → stands old.store place written ⊎ ((old.stays.place ≡ place) ×
      (written ≡ entry) × HasAppliedFrom StayApplies (stands new.store) new.from (start_of new.config new.from) old.stays)

  -- A front end went on by itself, or waited in vain: its hall moved on, and its queue of replies tells nothing. Its count is that of one batch more,
  -- where one may stand in the log
  pub record HasGoneOn (old new : FollowState S) (count count' : ℕ) (reply_queue : ReplyQueueState) : Type 0 where
    pub moved : HasMovedOn old new
    pub counts : (count' ≡ count) ⊎ (count' ≡ next_count count)
    pub unreported : reply_queue ≡ reply_queue_of []

-- all that was on the queue of replies was said again, to just those who asked for it, and persister and queue of replies are as they were
pub record IsUsedUp {K : Type 0} (k : K) (w : ReplyQueueState) (l : K) (u : ReplyQueueState) : Type 0 where
  pub all : w.left ≡ []
  pub well : w.poisoned ≡ false
  pub persister_is : l ≡ k
  pub reply_queue_is : u ≡ w

-- A turn of the loop is over the hall of a log: behind entries that all stand in the log an entry of just these lines stands, at a later
-- place than had been applied before the turn. From the hall to which just those entries were applied, in order, of which all is known there, all
-- turns of all connections, in the one order of the turn's log, are a run of the hall to where that entry leads it, by the rules of that
-- entry; each connection takes its own lines and waits for the replies to them, and some of what waits is sent
pub record IsHostedOverLog {C : Type 0} (on : Seating C) (stands : ℕ → List ℕ → Type 0) (config : Config) (log : TurnLog) (from place : ℕ) (lines : List ℕ)
    (r : ReplicaState StayState) (seats seats' : List (Option C)) : Type 0 where
  pub batch : List ℕ
  pub lines_are : behind_first_line batch ≡ lines
  pub before : List (List ℕ)
  pub stood : StandsFrom stands from (before ++ batch ∷ [])
  pub was : StayState
  pub led : Leads StayApplies (start_of config from) before was
  pub known : was.blind ≡ false
  pub later : place ≤ from + length before
  pub between : List (Option C)
  pub taken : TurnsTaken on (Serves (rules_of batch)) was.hall seats log r.machine.hall between
  pub sent : RepliesSent on between seats'

-- A turn of the loop over reads alone is over the hall of a log: the one to which just the entries before a place were applied, in order. All is known of
-- it. Nothing stands at that place, as a store tells, and no fewer entries stand before it than had been applied before the turn. All turns of all
-- connections, in the one order of the turn's log, are a run of that hall, which stores no read, and leave it as it is; each connection takes its own
-- lines and waits for the replies to them, and some of what waits is sent
pub record IsHostedAtEnd {C : Type 0} (on : Seating C) (stands : ℕ → List ℕ → Type 0) (lacks : ℕ → Type 0) (config : Config) (log : TurnLog) (from place : ℕ)
    (r : ReplicaState StayState) (seats seats' : List (Option C)) : Type 0 where
  pub before : List (List ℕ)
  pub stood : StandsFrom stands from before
  pub led : Leads StayApplies (start_of config from) before r.machine
  pub known : r.machine.blind ≡ false
  pub at_end : IsAtEnd lacks (from + length before)
  pub later : place ≤ from + length before
  pub between : List (Option C)
  pub taken : TurnsTaken on (Serves (all_admitted Plain)) r.machine.hall seats log r.machine.hall between
  pub sent : RepliesSent on between seats'
