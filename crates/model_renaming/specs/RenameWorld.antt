-- the replies of a renaming world, and its state after each call
use Rattle.std.specs.Prelude.{◌≡◌, true, ℕ, if◌then◌else◌, [], ◌∷◌, ◌++◌, Bool, Option, Some, None, Result, Ok, Err, is_some, List}
use Rattle.model_steps.specs.declared.participant.Participant.{Participant}
use Rattle.model_steps.specs.declared.refusal.Refusal.{Refusal}
use Rattle.model_steps.specs.declared.refusal.Refusal.TheVariants.{NotBegun}
use Rattle.model_steps.specs.Participant.{program_of, with_participant, beginner}
use Rattle.model_steps.specs.View.{inserted}
use Rattle.model_steps.specs.World.{begin_refusal}
use Rattle.model_snapshot.specs.declared.client.SnapReply.{SnapReply}
use Rattle.model_snapshot.specs.SnapWorld.{SnapState, place_in, after_snap_begin, after_update, after_scan, snap_answer, after_snap_step, may_lack_memory}
use Rattle.model_renaming.specs.Reply.{StepReply}
use Rattle.model_renaming.specs.declared.round.Follow.{Follow}
use Rattle.model_renaming.specs.declared.round.Round.{Round}
use Rattle.model_renaming.specs.declared.round.Wish.{Wish}
use Rattle.model_renaming.specs.declared.round.Wish.TheVariants.{Nothing, Update, Scan}
use Rattle.model_snapshot.specs.Places.{KnownPlaces}
use Rattle.model_renaming.specs.RenameState.{RenameState}
use Rattle.model_renaming.specs.Round.{stage_refusal, name_at, has_name, standing_by, followed, first_round, first_wish}

-- what the snapshot object is asked for, with no access
abbrev pub after_wish : {S U K : Type 0} → SnapState S U K → ℕ → Wish → SnapState S U K
after_wish w id Nothing = w
after_wish w id (Update value) = after_update w id value
after_wish w id Scan = after_scan w id

abbrev pub refusal_by : Option Round → Option Refusal
refusal_by None = Some NotBegun
refusal_by (Some r) = stage_refusal r.stage

abbrev pub name_by : Option Round → Option ℕ
name_by None = None
name_by (Some r) = name_at r.stage r.proposal

-- the participant that has a name, by the rounds
abbrev pub owner_by : ℕ → List (Participant Round) → Option ℕ
owner_by n [] = None
owner_by n (v ∷ vs) = if has_name v.program.stage v.program.proposal n then Some v.identity else owner_by n vs

-- a view with the proposal of one more
abbrev pub shown_with : List (ℕ × ℕ) → ℕ → Option ℕ → List (ℕ × ℕ)
shown_with view id None = view
shown_with view id (Some number) = inserted view (id, number)

-- and with those of all of them
abbrev pub shown_by : List (ℕ × ℕ) → List (Participant Round) → List (ℕ × ℕ)
shown_by view [] = view
shown_by view (v ∷ vs) = shown_by (shown_with view v.identity (standing_by v.program)) vs

module _ {S U K : Type 0} where
  -- why a step is refused before it asks the snapshot object
  abbrev pub step_refusal : RenameState S U K → ℕ → Option Refusal
  step_refusal w id = refusal_by (program_of id w.rounds)

  -- the name of an identity, once it has one
  abbrev pub name_in : RenameState S U K → ℕ → Option ℕ
  name_in w id = name_by (program_of id w.rounds)

  -- a new world over this memory
  abbrev pub fresh_world : S → ℕ → ℕ → RenameState S U K
  fresh_world first most limit = record { snap = record { memory = first; most = most; participants = [] }; rounds = []; limit = limit }

  -- the world with this snapshot object, and another round for p
  abbrev pub world_with : RenameState S U K → SnapState S U K → ℕ → Round → RenameState S U K
  world_with w snap p r = record { snap = snap; rounds = with_participant (beginner p r) w.rounds; limit = w.limit }

module _ {S R V U K : Type 0} (W : KnownPlaces S R V U K) where
  abbrev pub begun_snap : RenameState S U K → ℕ → SnapState S U K
  begun_snap w id = after_snap_begin W w.snap id

  -- whether a participant begins with a place
  abbrev pub has_place : RenameState S U K → ℕ → Bool
  has_place w id = is_some (place_in W (begun_snap w id) id)

  abbrev pub begun_unless : Option Refusal → RenameState S U K → ℕ → RenameState S U K
  begun_unless None w id = record {
    snap = after_wish (begun_snap w id) id (first_wish (has_place w id));
    rounds = w.rounds ++ beginner id (first_round (has_place w id)) ∷ [];
    limit = w.limit;
  }
  begun_unless (Some why) w id = w

  -- the world after `begin`
  abbrev pub after_rename_begin : RenameState S U K → ℕ → RenameState S U K
  after_rename_begin w id = begun_unless (begin_refusal w.snap id) w id

  abbrev pub snap_step : RenameState S U K → ℕ → SnapState S U K
  snap_step w id = after_snap_step W w.snap id

  abbrev pub snap_reported : RenameState S U K → ℕ → Result SnapReply Refusal
  snap_reported w id = snap_answer W w.snap id

  abbrev pub answer_reported : RenameState S U K → ℕ → Round → Result SnapReply Refusal → Result StepReply Refusal
  answer_reported w id r (Ok reply) = Ok (followed r id reply w.limit).reply
  answer_reported w id r (Err why) = Err why

  abbrev pub answer_open : RenameState S U K → ℕ → Round → Option Refusal → Result StepReply Refusal
  answer_open w id r None = answer_reported w id r (snap_reported w id)
  answer_open w id r (Some why) = Err why

  abbrev pub answer_by : RenameState S U K → ℕ → Option Round → Result StepReply Refusal
  answer_by w id None = Err NotBegun
  answer_by w id (Some r) = answer_open w id r (stage_refusal r.stage)

  -- the reply of a step, if no allocation fails
  abbrev pub rename_answer : RenameState S U K → ℕ → Result StepReply Refusal
  rename_answer w id = answer_by w id (program_of id w.rounds)

  abbrev pub after_follow : RenameState S U K → ℕ → Follow → RenameState S U K
  after_follow w id f = world_with w (after_wish (snap_step w id) id f.wish) id f.round

  abbrev pub after_reported : RenameState S U K → ℕ → Round → Result SnapReply Refusal → RenameState S U K
  after_reported w id r (Ok reply) = after_follow w id (followed r id reply w.limit)
  after_reported w id r (Err why) = w

  abbrev pub after_open : RenameState S U K → ℕ → Round → Option Refusal → RenameState S U K
  after_open w id r None = after_reported w id r (snap_reported w id)
  after_open w id r (Some why) = w

  abbrev pub after_by : RenameState S U K → ℕ → Option Round → RenameState S U K
  after_by w id None = w
  after_by w id (Some r) = after_open w id r (stage_refusal r.stage)

  -- the world after that step
  abbrev pub after_rename_step : RenameState S U K → ℕ → RenameState S U K
  after_rename_step w id = after_by w id (program_of id w.rounds)

  -- whether that step may be refused because an allocation failed
  abbrev pub may_lack : RenameState S U K → ℕ → Bool
  may_lack w id = may_lack_memory W w.snap id

  -- the step may fail with `NoMemory`, and no other refusal is due
  abbrev pub LacksMemory : RenameState S U K → ℕ → Type 0
  LacksMemory w id = (step_refusal w id ≡ None) × (may_lack w id ≡ true)
