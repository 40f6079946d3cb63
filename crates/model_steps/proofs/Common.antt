-- The names that several proofs of this crate cite, passed on from one place. Declares nothing.
pub use Rattle.std.proofs.lemmas.Bool.Decides.{eqb_tells, leb_tells, Decides-eqb}
pub use Rattle.std.proofs.lemmas.List.{get_or_default}
pub use Rattle.model_steps.specs.SetAt.{set_at}
pub use Rattle.model_steps.specs.declared.participant.Participant.{Participant}
pub use Rattle.model_steps.specs.Participant.{index_of, participant_of, with_participant, beginner, resumed}
pub use Rattle.model_steps.specs.declared.note.Note.{Note}
pub use Rattle.model_steps.specs.declared.refusal.Refusal.{Refusal}
pub use Rattle.model_steps.specs.declared.refusal.Refusal.TheVariants.{NotBegun, Finished, NoMemory, ZeroIdentity, AlreadyBegun, Full}
pub use Rattle.model_steps.specs.declared.access.Access.{Access}
pub use Rattle.model_steps.specs.Steps.{ProgramSteps, MemorySteps}
pub use Rattle.model_steps.specs.WorldState.{WorldState}
pub use Rattle.model_steps.specs.World.{begin_refusal, begun_unless, done_unless, after_step, after_step_by, step_answer, step_answer_by, may_refuse_step, got_by}
pub use Rattle.model_steps.specs.Calls.{Call, next, IsReply, begun_in, begun_by, outcome_of, outcome_by, first_of, reply_of, lacked_memory, steps_of, steps_by}
pub use Rattle.model_steps.specs.Calls.Call.{Began, Stepped}
pub use Rattle.model_steps.specs.Runs.{Run}
