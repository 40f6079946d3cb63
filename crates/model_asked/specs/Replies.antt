-- replies: of outcomes, refusals among them, and with their views
use Rattle.std.specs.Prelude.{ℕ, Bool, true, false, List, Result, Ok, Err}
use Rattle.model_steps.specs.declared.refusal.Refusal.{Refusal}
use Rattle.model_asked.specs.declared.reply.Reply.{Reply}
use Rattle.model_asked.specs.declared.reply.Reply.TheVariants as reply

-- a reply with the view that it shows
abbrev pub ShownReply : Type 0
ShownReply = Reply (List (ℕ × ℕ))

abbrev pub done_reply : Result (Unit {0}) Refusal → ShownReply
done_reply (Ok done) = reply.Ok
done_reply (Err refusal) = reply.Refused refusal

abbrev pub left_reply : Result ℕ Refusal → ShownReply
left_reply (Ok number) = reply.Left number
left_reply (Err refusal) = reply.Refused refusal

abbrev pub value_reply : Result ℕ Refusal → ShownReply
value_reply (Ok value) = reply.Value value
value_reply (Err refusal) = reply.Refused refusal

-- whether an event was not accepted
abbrev pub is_refusal : {V : Type 0} → Reply V → Bool
is_refusal (reply.Refused refusal) = true
is_refusal r = false

-- the reply with this view in the place of what it carries
abbrev pub with_view : {V W : Type 0} → Reply V → W → Reply W
with_view reply.Ok view = reply.Ok
with_view reply.Quiet view = reply.Quiet
with_view reply.Stop view = reply.Stop
with_view reply.Right view = reply.Right
with_view reply.Down view = reply.Down
with_view (reply.Place place) view = reply.Place place
with_view (reply.Proposed number) view = reply.Proposed number
with_view (reply.Saw old) view = reply.Saw view
with_view (reply.Named name old) view = reply.Named name view
with_view reply.Spent view = reply.Spent
with_view reply.Missed view = reply.Missed
with_view (reply.Got number) view = reply.Got number
with_view (reply.Left number) view = reply.Left number
with_view (reply.Value value) view = reply.Value value
with_view (reply.Owner owner) view = reply.Owner owner
with_view (reply.Refused refusal) view = reply.Refused refusal
