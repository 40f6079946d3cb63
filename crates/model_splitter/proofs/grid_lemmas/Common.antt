-- The names that several proofs of this crate cite, passed on from one place. Declares nothing.
pub use Rattle.std.proofs.lemmas.Bool.Decides.{eqb_tells, Decides-eqb}
pub use Rattle.std.proofs.Math.Path.{fun_ext}
pub use Rattle.std.proofs.lemmas.Bool.{cases_Bool}
pub use Rattle.model_steps.specs.SetAt.{set_at}
pub use Rattle.model_steps.specs.RegisterState.{Registers}
pub use Rattle.model_steps.specs.Registers.{answer_of, after_access, memory_steps}
pub use Rattle.model_steps.specs.Count.{count_to}
pub use Rattle.model_steps.specs.declared.participant.Participant.{Participant}
pub use Rattle.model_steps.specs.declared.refusal.Refusal.{Refusal}
pub use Rattle.model_steps.specs.Calls.Call.{Began, Stepped}
pub use Rattle.model_steps.specs.declared.access.Answer.{Answer}
pub use Rattle.model_splitter.specs.declared.stage.VisitStage.{VisitStage}
pub use Rattle.model_splitter.specs.declared.stage.VisitStage.TheVariants.{Outside, WroteX, SawClear, WroteY, Gone}
pub use Rattle.model_splitter.specs.Stage.{has_entered, went_right, went_down, x_after, y_after, stage_after}
pub use Rattle.model_splitter.specs.declared.grid.walker.Walker.{Walker}
pub use Rattle.model_splitter.specs.grid.Door.{door_number, number_of, door_at, right_of, down_of, IsDoorWithin}
pub use Rattle.model_splitter.specs.grid.Walk.{walker_at, walk_of, visit_on, walked_to, walker_after, next_access, walker_steps, walker_note, place_of, place_by, accesses_by}
pub use Rattle.model_splitter.specs.grid.Invariant.{StandsAt, DoorsAgree, x_in, y_in, IsConsistent, was_entered, IsGrid}
pub use Rattle.model_splitter.specs.grid.Machine.{empty_doors, GridState, fresh, grid}
