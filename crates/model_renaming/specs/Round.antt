-- a round after each reply of the snapshot object
use Rattle.std.specs.Prelude.{ℕ, ◌+◌, Bool, true, false, ◌==◌, nat_le, nat_lt, if◌then◌else◌, List, Option, Some, None}
use Rattle.model_steps.specs.declared.refusal.Refusal.{Refusal}
use Rattle.model_steps.specs.declared.refusal.Refusal.TheVariants.{Finished, Spent as IsSpent}
use Rattle.model_snapshot.specs.declared.client.SnapReply.{SnapReply}
use Rattle.model_snapshot.specs.declared.client.SnapReply.TheVariants.{Quiet as Silent, Placed as HasPlace, Written, View as Viewed}
use Rattle.model_renaming.specs.declared.reply.Reply.TheVariants.{Quiet, Placed, Proposed, Saw, Named, Spent}
use Rattle.model_renaming.specs.declared.round.Round.{Round}
use Rattle.model_renaming.specs.declared.round.Follow.{Follow}
use Rattle.model_renaming.specs.declared.round.Wish.{Wish}
use Rattle.model_renaming.specs.declared.round.Wish.TheVariants.{Nothing, Update, Scan}
use Rattle.model_renaming.specs.declared.round.RoundStage.{RoundStage}
use Rattle.model_renaming.specs.declared.round.RoundStage.TheVariants.{Placing, Proposing, Looking, Settled, Over}
use Rattle.model_asked.specs.rounds.Proposals.{is_taken, next_proposal}

-- why there is no further step
abbrev pub stage_refusal : RoundStage → Option Refusal
stage_refusal Settled = Some Finished
stage_refusal Over = Some IsSpent
stage_refusal s = None

-- who walks to its place
abbrev pub is_placing : RoundStage → Bool
is_placing Placing = true
is_placing s = false

-- the number that is proposed next
abbrev pub number_of : RoundStage → ℕ
number_of (Proposing number) = number
number_of s = 0

-- the name that a round has ended with
abbrev pub name_at : RoundStage → ℕ → Option ℕ
name_at Settled proposal = Some proposal
name_at s proposal = None

-- whether it has ended with this name
abbrev pub has_name : RoundStage → ℕ → ℕ → Bool
has_name Settled proposal number = proposal == number
has_name s proposal number = false

-- the proposal that is written in the memory
abbrev pub standing_by : Round → Option ℕ
standing_by r = if r.count == 0 then None else Some r.proposal

-- the round at another stage
abbrev pub at_stage : Round → RoundStage → Round
at_stage r stage = record { count = r.count; proposal = r.proposal; stage = stage }

-- once its proposal is written
abbrev pub written_round : Round → ℕ → Round
written_round r limit = record { count = if nat_lt r.count limit then r.count + 1 else r.count; proposal = number_of r.stage; stage = Looking }

abbrev pub named_by : Round → List (ℕ × ℕ) → Follow
named_by r view = record { round = at_stage r Settled; wish = Nothing; reply = Named r.proposal view }

abbrev pub spent_by : Round → Follow
spent_by r = record { round = at_stage r Over; wish = Nothing; reply = Spent }

abbrev pub saw_by : Round → ℕ → List (ℕ × ℕ) → Follow
saw_by r id view = record { round = at_stage r (Proposing (next_proposal id view)); wish = Update (next_proposal id view); reply = Saw view }

-- what follows a view
abbrev pub decided : Round → ℕ → List (ℕ × ℕ) → ℕ → Follow
decided r id view limit =
    if is_taken id view r.proposal then (if nat_le limit r.count then spent_by r else saw_by r id view)
    else named_by r view

-- what follows a reply of the snapshot object
abbrev pub followed : Round → ℕ → SnapReply → ℕ → Follow
followed r id Silent limit = record { round = r; wish = Nothing; reply = Quiet }
followed r id (HasPlace place) limit = record { round = at_stage r (Proposing 1); wish = Update 1; reply = Placed place }
followed r id Written limit = record { round = written_round r limit; wish = Scan; reply = Proposed (number_of r.stage) }
followed r id (Viewed view) limit = decided r id view limit

-- the round of a participant that begins. With a place it proposes at once
abbrev pub first_round : Bool → Round
first_round placed = record { count = 0; proposal = 0; stage = if placed then Proposing 1 else Placing }

abbrev pub first_wish : Bool → Wish
first_wish placed = if placed then Update 1 else Nothing
