-- what outcomes of steps and probes are answered as
use Rattle.std.specs.Prelude.{ℕ, Result, Ok, Err}
use Rattle.model_steps.specs.declared.refusal.Refusal.{Refusal}
use Rattle.model_pool.specs.declared.probe.Probe.{Probe}
use Rattle.model_pool.specs.declared.probe.Probe.TheVariants as probe
use Rattle.model_renaming.specs.Reply.{StepReply}
use Rattle.model_renaming.specs.declared.reply.Reply.TheVariants as step
use Rattle.model_asked.specs.Replies.{ShownReply}
use Rattle.model_asked.specs.declared.reply.Reply.TheVariants as reply

-- what an accepted step of renaming is shown as
abbrev pub shown_step : StepReply → ShownReply
shown_step step.Quiet = reply.Quiet
shown_step (step.Placed place) = reply.Place place
shown_step (step.Proposed number) = reply.Proposed number
shown_step (step.Saw view) = reply.Saw view
shown_step (step.Named name view) = reply.Named name view
shown_step step.Spent = reply.Spent

abbrev pub step_reply : Result StepReply Refusal → ShownReply
step_reply (Ok said) = shown_step said
step_reply (Err refusal) = reply.Refused refusal

abbrev pub shown_probe : Probe → ShownReply
shown_probe probe.Missed = reply.Missed
shown_probe (probe.Got number) = reply.Got number

abbrev pub probe_reply : Result Probe Refusal → ShownReply
probe_reply (Ok said) = shown_probe said
probe_reply (Err refusal) = reply.Refused refusal

abbrev pub seek_reply : Result ℕ Refusal → ShownReply
seek_reply (Ok number) = reply.Got number
seek_reply (Err refusal) = reply.Refused refusal
