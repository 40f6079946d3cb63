-- the replies of a world, and its state after each call
use Rattle.std.specs.Prelude.{◌≡◌, ℕ, Bool, false, [], ◌∷◌, ◌++◌, length, Option, Some, None, Result, Ok, Err, ◌==◌, nat_le, if◌then◌else◌, is_some}
use Rattle.model_steps.specs.declared.access.Answer.{Answer}
use Rattle.model_steps.specs.declared.note.Note.{Note}
use Rattle.model_steps.specs.declared.refusal.Refusal.{Refusal}
use Rattle.model_steps.specs.declared.refusal.Refusal.TheVariants.{ZeroIdentity, AlreadyBegun, Full, NotBegun, Finished}
use Rattle.model_steps.specs.declared.participant.Participant.{Participant}
use Rattle.model_steps.specs.Participant.{beginner, resumed, participant_of, program_of, with_participant}
use Rattle.model_steps.specs.Steps.{ProgramSteps, MemorySteps, answer_got}
use Rattle.model_steps.specs.WorldState.{WorldState}

-- why `begin` is refused: the first of these that holds
abbrev pub begin_refusal : {S P : Type 0} → WorldState S P → ℕ → Option Refusal
begin_refusal w id =
    if id == 0 then Some ZeroIdentity
    else if is_some (participant_of id w.participants) then Some AlreadyBegun
    else if nat_le w.most (length w.participants) then Some Full
    else None

-- the reply of a call that is refused for this reason, or for none
abbrev pub done_unless : Option Refusal → Result (Unit {0}) Refusal
done_unless None = Ok tt
done_unless (Some r) = Err r

abbrev pub begun_unless : {S P : Type 0} → Option Refusal → WorldState S P → ℕ → P → WorldState S P
begun_unless None w id program = record w { participants = w.participants ++ beginner id program ∷ [] }
begun_unless (Some r) w id program = w

-- the world after `begin`
abbrev pub after_begin : {S P : Type 0} → WorldState S P → ℕ → P → WorldState S P
after_begin w id program = begun_unless (begin_refusal w id) w id program

abbrev pub set_answer_by : {P : Type 0} → Option (Participant P) → Result (Unit {0}) Refusal
set_answer_by None = Err NotBegun
set_answer_by (Some p) = Ok tt

-- what `set` answers
abbrev pub set_answer : {S P : Type 0} → WorldState S P → ℕ → Result (Unit {0}) Refusal
set_answer w id = set_answer_by (participant_of id w.participants)

-- the world after `set`: with no participant of that identity it is as before
abbrev pub after_set : {S P : Type 0} → WorldState S P → ℕ → P → WorldState S P
after_set w id program = record w { participants = with_participant (beginner id program) w.participants }

-- the request may be made of the participant of this identity, if there is one
abbrev pub CanAsk : {Q S P : Type 0} → (Q → P → Type 0) → Q → ℕ → WorldState S P → Type 0
CanAsk {Q} {S} {P} can_ask request id w = (program : P) → program_of id w.participants ≡ Some program → can_ask request program

abbrev pub after_asked_by : {S P : Type 0} → (P → P) → WorldState S P → ℕ → Option P → WorldState S P
after_asked_by asked w id None = w
after_asked_by asked w id (Some program) = after_set w id (asked program)

-- the world after a program was asked: with no participant of that identity it is as before
abbrev pub after_asked : {S P : Type 0} → (P → P) → WorldState S P → ℕ → WorldState S P
after_asked asked w id = after_asked_by asked w id (program_of id w.participants)

module _ {P S R V O : Type 0} (program : ProgramSteps P R V O) (memory : MemorySteps S R V) where
  -- the answer of the memory to a participant
  abbrev pub got_by : S → Participant P → Answer V
  got_by s p = answer_got program memory p.program s

  abbrev pub step_answer_by : S → Option (Participant P) → Result (Note O) Refusal
  step_answer_by s None = Err NotBegun
  step_answer_by s (Some p) = if p.ended then Err Finished else Ok (program.note p.program (got_by s p))

  abbrev pub after_step_by : WorldState S P → Option (Participant P) → WorldState S P
  after_step_by w None = w
  after_step_by w (Some p) =
      if p.ended then w
      else record { memory = memory.after w.memory (program.next p.program); most = w.most; participants = with_participant (resumed program p (got_by w.memory p)) w.participants }

  -- the reply to a step of an identity, if no allocation fails
  abbrev pub step_answer : WorldState S P → ℕ → Result (Note O) Refusal
  step_answer w id = step_answer_by w.memory (participant_of id w.participants)

  -- the world after that step
  abbrev pub after_step : WorldState S P → ℕ → WorldState S P
  after_step w id = after_step_by w (participant_of id w.participants)

  abbrev pub may_refuse_by : S → Option (Participant P) → Bool
  may_refuse_by s None = false
  may_refuse_by s (Some p) = if p.ended then false else memory.may_refuse s (program.next p.program)

  -- whether that step may be refused because an allocation failed
  abbrev pub may_refuse_step : WorldState S P → ℕ → Bool
  may_refuse_step w id = may_refuse_by w.memory (participant_of id w.participants)
