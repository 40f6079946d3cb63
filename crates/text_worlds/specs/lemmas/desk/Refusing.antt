-- an event is refused, failed allocations aside, just as the desk says beforehand
use Rattle.std.proofs.Common.{◌≡◌, ◌↔◌, ℕ, List, Option, Some, None, Result, Ok, Err, IsOk, refl}
use Rattle.text_worlds.specs.lemmas.desk.Common.{Refusal, begin_refusal, done_unless, KnownPlaces, StepReply, Quiet, Event, DeskState}
use Rattle.model_steps.specs.Participant.{program_of}
use Rattle.model_renaming.specs.declared.round.Round.{Round}
use Rattle.model_renaming.specs.RenameState.{RenameState}
use Rattle.model_renaming.specs.RenameWorld.{rename_answer, answer_by, answer_open, refusal_by, step_refusal}
use Rattle.model_renaming.specs.Round.{stage_refusal}
use Rattle.model_pool.specs.declared.probe.Probe.{Probe}
use Rattle.model_pool.specs.declared.probe.Probe.TheVariants.{Missed, Got}
use Rattle.model_pool.specs.declared.stay.Stay.{Stay}
use Rattle.model_pool.specs.declared.stay.Stay.TheVariants.{Seeking, Settled}
use Rattle.model_pool.specs.Competitors.{stay_of}
use Rattle.model_pool.specs.Pool.{enter_refusal, probe_answer_by, probe_refusal_by, number_answer}
use Rattle.model_pool.specs.Sought.{seek_answer_by}
use Rattle.model_pool.specs.PoolState.{PoolState}
use Rattle.model_pool.specs.Widening.{widen_refusal}
use Rattle.model_pool.specs.slots.Slots.{stored_reply}
use Rattle.model_asked.specs.declared.event.Event.TheVariants.{Begin, Step, Enter, Probe as Probing, Seek, Leave, Put, Get, Widen}
use Rattle.model_asked.specs.declared.reply.Reply.TheVariants.{Refused}
use Rattle.model_asked.specs.Replies.{ShownReply, done_reply, left_reply, value_reply}
use Rattle.text_worlds.specs.desk.Replies.{shown_step, step_reply, shown_probe, probe_reply, seek_reply}
use Rattle.text_worlds.specs.desk.DeskRules.{fetched, refusal_of, refusal_over, reply_over}

-- this reply is a refusal just where there is a reason for one
abbrev IsSaid : ShownReply → Option Refusal → Type 0
IsSaid reported said = (why : Refusal) → (reported ≡ Refused why) ↔ (said ≡ Some why)

said_done : (o : Option Refusal) → IsSaid (done_reply (done_unless o)) o
said_done None why = (λ e. cc, λ e. cc)
said_done (Some due) why = (λ e. cc, λ e. cc)

said_left : (o : Result ℕ Refusal) → IsSaid (left_reply o) (refusal_of o)
said_left (Ok number) why = (λ e. cc, λ e. cc)
said_left (Err due) why = (λ e. cc, λ e. cc)

said_stored : (o : Result ℕ Refusal) → IsSaid (done_reply (stored_reply o)) (refusal_of o)
said_stored (Ok number) why = (λ e. cc, λ e. cc)
said_stored (Err due) why = (λ e. cc, λ e. cc)

said_fetched : (values : List ℕ) (o : Result ℕ Refusal) → IsSaid (value_reply (fetched values o)) (refusal_of o)
said_fetched values (Ok number) why = (λ e. cc, λ e. cc)
said_fetched values (Err due) why = (λ e. cc, λ e. cc)

no_refused_probe : (said : Probe) (why : Refusal) → shown_probe said ≡ Refused why → ⊥
no_refused_probe Missed why e = cc
no_refused_probe (Got number) why e = cc

said_probe : (w : PoolState) (stay : Option Stay) → IsSaid (probe_reply (probe_answer_by w stay)) (probe_refusal_by stay)
said_probe w None why = (λ e. cc, λ e. cc)
said_probe w (Some (Seeking next)) why = (λ e. absurd (no_refused_probe _ why e), λ e. cc)
said_probe w (Some (Settled number)) why = (λ e. cc, λ e. cc)

said_seek : (w : PoolState) (stay : Option Stay) → IsSaid (seek_reply (seek_answer_by w stay)) (probe_refusal_by stay)
said_seek w None why = (λ e. cc, λ e. cc)
said_seek w (Some (Seeking next)) why = (λ e. cc, λ e. cc)
said_seek w (Some (Settled number)) why = (λ e. cc, λ e. cc)

no_refused_step : (said : StepReply) (why : Refusal) → shown_step said ≡ Refused why → ⊥
no_refused_step Quiet why e = cc
no_refused_step said why e = cc

-- an answer that is none, or the refusal that is due
said_step : (answer : Result StepReply Refusal) (due : Option Refusal) → (due ≡ None → IsOk answer) → ((why : Refusal) → due ≡ Some why → answer ≡ Err why) → IsSaid (step_reply answer) due
said_step (Ok said) None ok err why = (λ e. absurd (no_refused_step said why e), λ e. cc)
said_step (Ok said) (Some due) ok err why = absurd (let e = err due refl in cc)
said_step (Err reported) None ok err why = absurd (let e = ok refl in cc)
said_step (Err reported) (Some due) ok err why = let same = err due refl in (λ e. cc, λ e. cc)

-- a step that its round refuses is refused so
module _ {S R V U K : Type 0} (W : KnownPlaces S R V U K) (w : RenameState S U K) (p : ℕ) where
  closed : (o : Option Refusal) (r : Round) (why : Refusal) → o ≡ Some why → answer_open W w p r o ≡ Err why
  closed None r why e = absurd (cc)
  closed (Some due) r why e = cc

  by_round : (r : Option Round) (why : Refusal) → refusal_by r ≡ Some why → answer_by W w p r ≡ Err why
  by_round None why e = cc
  by_round (Some r) why e = closed (stage_refusal r.stage) r why e

  refused_step : (why : Refusal) → step_refusal w p ≡ Some why → rename_answer W w p ≡ Err why
  refused_step why e = by_round (program_of p w.rounds) why e

module _ {S R V U K : Type 0} (W : KnownPlaces S R V U K) (w : DeskState S U K) (answered : (p : ℕ) → step_refusal w.names p ≡ None → IsOk (rename_answer W w.names p)) where
  pub refuses_as_said : (e : Event) (why : Refusal) → (reply_over W w e ≡ Refused why) ↔ (refusal_over w e ≡ Some why)
  refuses_as_said (Begin p) = said_done (begin_refusal w.names.snap p)
  refuses_as_said (Step p) = said_step (rename_answer W w.names p) (step_refusal w.names p) (answered p) (refused_step W w.names p)
  refuses_as_said (Enter p) = said_done (enter_refusal w.slots.pool p)
  refuses_as_said (Probing p) = said_probe w.slots.pool (stay_of p w.slots.pool.competitors)
  refuses_as_said (Seek p) = said_seek w.slots.pool (stay_of p w.slots.pool.competitors)
  refuses_as_said (Leave p) = said_left (number_answer w.slots.pool p)
  refuses_as_said (Put p value) = said_stored (number_answer w.slots.pool p)
  refuses_as_said (Get p) = said_fetched w.slots.values (number_answer w.slots.pool p)
  refuses_as_said (Widen more) = said_done (widen_refusal w.slots.pool.most w.slots.pool.size more)
