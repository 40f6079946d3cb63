-- The names that several proofs of this crate cite, passed on from one place. Declares nothing.
pub use Rattle.std.proofs.Math.Path.{fun_ext}
pub use Rattle.atomic_table.specs.Table.{Me, Step, Allows, Splits, Joins, keeps, step, opening}
pub use Rattle.model_steps.specs.SetAt.{set_at}
pub use Rattle.model_steps.proofs.cited.SetAtLemmas.{set_at-same, set_at-other, set_at-cases}
pub use Rattle.model_steps.specs.Count.{count_to}
pub use Rattle.model_steps.specs.Calls.{outcome_in}
pub use Rattle.model_steps.specs.Machine.{Reaches}
pub use Rattle.model_steps.specs.Note.{ends}
pub use Rattle.model_steps.specs.Steps.{ProgramSteps}
pub use Rattle.model_steps.specs.declared.access.Access.{Access}
pub use Rattle.model_steps.specs.declared.access.Access.TheVariants.{Read, Write, TestAndSet, Clear, Nothing}
pub use Rattle.model_steps.specs.declared.access.Answer.{Answer}
pub use Rattle.model_steps.specs.declared.access.Answer.TheVariants.{Value, Done}
pub use Rattle.model_steps.specs.declared.participant.Participant.{Participant}
pub use Rattle.model_steps.specs.declared.note.Note.{Note}
pub use Rattle.words_machine.specs.parts.Numbered.{Each}
pub use Rattle.words_machine.proofs.parts_lemmas.Views.{each_set, each_pushed, there_still}
pub use Rattle.words_machine.proofs.parts_lemmas.Numbered.{each_map, each_both}
pub use Rattle.words_machine.specs.declared.seat_view.Stand.{Stand}
pub use Rattle.words_machine.specs.declared.seat_view.Ending.{Ending}
pub use Rattle.words_machine.specs.declared.seat_view.SeatView.{SeatView}
pub use Rattle.words_machine.specs.SeatViews.{own, stand_at, view_of, lone_view, unbegun, unbegun_from, undealt_from}
pub use Rattle.words_machine.specs.WordLaw.{WordLaw, IsAlike, IsOwnAccess, IsSound, IsOnce, IsFresh, answer_in, one_more, program_at, moved, GoesOn}
pub use Rattle.words_machine.specs.RunRule.{begun_of, Spells, IsStand, IsEnding, Shows, IsRunning, KeepsRun}
pub use Rattle.words_machine.specs.RunSteps.{accesses_in, IsAtRest, standing, stand_after, IsUnderRule, IsUnder, Looks, Reads, Writes, Stands, HasGot, HasStepped, HasEnded, ended_at}
pub use Rattle.words_machine.specs.Ids.{WordsId}
