-- The names that several proofs of this crate cite, passed on from one place. Declares nothing.
pub use Rattle.std.proofs.lemmas.Bool.{cases_Bool}
pub use Rattle.std.proofs.lemmas.Bool.Decides.{eqb_tells, Decides-eqb, nat_tests, leb_tells}
pub use Rattle.std.proofs.Math.Path.{fun_ext}
pub use Rattle.model_steps.specs.declared.access.Access.TheVariants.{Read, Write}
pub use Rattle.model_steps.specs.declared.access.Answer.{Answer}
pub use Rattle.model_steps.specs.declared.note.Note.{Note}
pub use Rattle.model_steps.specs.declared.note.Note.TheVariants.{Quiet}
pub use Rattle.model_steps.specs.declared.participant.Participant.{Participant}
pub use Rattle.model_steps.specs.declared.refusal.Refusal.{Refusal}
pub use Rattle.model_steps.specs.declared.refusal.Refusal.TheVariants.{AlreadyBegun, NotBegun, Finished, NoMemory}
pub use Rattle.model_steps.specs.Participant.{participant_of, beginner, program_of}
pub use Rattle.model_steps.specs.SetAt.{set_at}
pub use Rattle.model_steps.specs.Steps.{MemorySteps, answer_from, Spares}
pub use Rattle.model_steps.specs.World.{done_unless, after_set, begin_refusal, begun_unless}
pub use Rattle.model_steps.specs.Calls.{outcome_in, begun_in}
pub use Rattle.model_steps.proofs.cited.ParticipantLemmas.{participant_of-put, participant_of-push, length-with_participant}
pub use Rattle.model_steps.proofs.cited.SetAtLemmas.{set_at-same, set_at-cases, set_at-other}
pub use Rattle.model_steps.specs.declared.record.Record.{Record}
pub use Rattle.model_steps.specs.Due.{EndsOnce}
pub use Rattle.model_steps.proofs.cited.RunLemmas.{run_keeps}
pub use Rattle.model_steps.specs.Runs.{Run}
pub use Rattle.model_steps.proofs.cited.WorldKeeps.{let_in}
pub use Rattle.model_steps.specs.Count.{count_to}
pub use Rattle.model_steps.proofs.cited.CountLemmas.{count_le, count_more}
pub use Rattle.model_splitter.specs.declared.stage.VisitStage.{VisitStage}
pub use Rattle.model_splitter.specs.declared.stage.VisitStage.TheVariants.{Outside}
pub use Rattle.model_splitter.specs.declared.tree.register.TreeRegister.{TreeRegister}
pub use Rattle.model_splitter.specs.declared.tree.register.TreeValue.{TreeValue}
pub use Rattle.model_splitter.specs.declared.tree.collect.Collect.{Collect}
pub use Rattle.model_splitter.specs.declared.tree.client.Client.{Client}
pub use Rattle.model_splitter.specs.declared.tree.client.Task.{Task}
pub use Rattle.model_splitter.specs.declared.tree.client.Task.TheVariants.{Placing, Nothing, Collecting, Storing}
pub use Rattle.model_splitter.specs.declared.tree.walker.Walker.{Walker}
pub use Rattle.model_splitter.specs.tree.Walk.{next_access, walker_after, walker_note, place_of, place_by, walk_of}
pub use Rattle.model_splitter.specs.tree.Client.{is_placing, is_collecting, is_placed, place_reported, collecting_after, storing, collecting, with_task, write_at, record_of, client_of, client_steps, access_for, task_after}
pub use Rattle.model_splitter.specs.tree.Collect.{collect_reads, collect_view, collect_after, first_collect, view_with}
pub use Rattle.model_splitter.specs.tree.TreeWorld.{TreeState, asking_refusal, after_store, after_collect_begin, view_answer, after_collecting, may_lack_memory}
pub use Rattle.model_splitter.specs.tree.TreeCalls.{next, IsReply, TreeCall}
pub use Rattle.model_splitter.specs.tree.TreeCalls.TreeCall.{Stepped, Began as TreeBegan, Stepped as TreeStepped, Stored, CollectBegan, CollectStepped, Began}
pub use Rattle.model_splitter.specs.declared.tree.register.TreeRegister.TheVariants.{Mark, X, Y, Contents}
pub use Rattle.model_splitter.specs.tree.TreeMemory.{IsTreeMemory, IsEmptyTree, word_in, segment_in, mark_at, segment_at}
pub use Rattle.model_splitter.specs.tree.Machine.{fresh_over, TreeWorldState, tree}
pub use Rattle.model_splitter.specs.tree.PlacesLaw.{way_calls, PlacesSpec, walker_in, walkers}
pub use Rattle.model_splitter.specs.tree.TreeDue.{collects_after, collects, TreeRefusesAsDue}
pub use Rattle.model_splitter.specs.declared.tree.register.TreeValue.TheVariants.{Word, Contents as Held}
pub use Rattle.model_splitter.specs.tree.TreeSteps.{tree_steps, NodeMap, may_refuse, empty_tree}
pub use Rattle.model_splitter.specs.tree.CollectWalk.{walk_is_over, place_read, finds_mark, walk_resumed}
pub use Rattle.model_splitter.specs.tree.Ahead.{marked_in, HasRead, HasGrown, Sees, IsPathMarked, IsAhead, IsUpcoming}
pub use Rattle.model_splitter.specs.tree.Invariant.{IsTree, IsConsistent, accesses_by}
pub use Rattle.model_splitter.specs.declared.tree.collect_walk.CollectWalk.{CollectWalk}
pub use Rattle.model_splitter.specs.tree.Depth.{IsNodeWithin}
