-- what a reply shows
use Rattle.std.specs.Prelude.{ℕ, List, Option, Some, None, Result, Ok, Err}
use Rattle.model_steps.specs.declared.refusal.Refusal.{Refusal}
use Rattle.model_renaming.specs.declared.reply.Reply.{Reply}
use Rattle.model_renaming.specs.declared.reply.Reply.TheVariants.{Quiet, Placed, Proposed, Saw, Named, Spent}

-- a reply with the view that it shows
abbrev pub StepReply : Type 0
StepReply = Reply (List (ℕ × ℕ))

-- the view by which it was decided
abbrev pub view_reported : {V : Type 0} → Reply V → Option V
view_reported (Saw view) = Some view
view_reported (Named name view) = Some view
view_reported r = None

-- the reply with this view in the place of what it carries
abbrev pub with_view : {V W : Type 0} → Reply V → W → Reply W
with_view Quiet view = Quiet
with_view (Placed place) view = Placed place
with_view (Proposed number) view = Proposed number
with_view (Saw old) view = Saw view
with_view (Named name old) view = Named name view
with_view Spent view = Spent

-- and the outcome
abbrev pub outcome_with : {V W : Type 0} → Result (Reply V) Refusal → W → Result (Reply W) Refusal
outcome_with (Ok said) view = Ok (with_view said view)
outcome_with (Err why) view = Err why
