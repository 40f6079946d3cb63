-- The names that several proofs of this crate cite, passed on from one place. Declares nothing.
pub use Rattle.std.proofs.lemmas.Bool.{cases_Bool}
pub use Rattle.std.proofs.lemmas.Bool.Decides.{eqb_tells, Decides-eqb, nat_tests, leb_tells}
pub use Rattle.std.specs.Ordering.{nat_cmp}
pub use Rattle.std.proofs.Math.Path.{fun_ext}
pub use Rattle.std.proofs.lemmas.Nat.{pow_pos}
pub use Rattle.model_steps.specs.declared.access.Access.TheVariants.{Write}
pub use Rattle.model_steps.specs.declared.access.Answer.{Answer}
pub use Rattle.model_steps.specs.SetAt.{set_at}
pub use Rattle.model_steps.specs.Steps.{MemorySteps, answer_from, Spares}
pub use Rattle.model_steps.specs.Calls.{outcome_in}
pub use Rattle.model_steps.proofs.cited.SetAtLemmas.{set_at-same, set_at-cases, set_at-other, set_at-as_is}
pub use Rattle.model_steps.specs.declared.record.Record.{Record}
pub use Rattle.model_steps.specs.declared.access.Access.{Access}
pub use Rattle.model_steps.specs.Count.{count_to}
pub use Rattle.model_steps.proofs.cited.CountLemmas.{count_le, count_none, count_more}
pub use Rattle.model_splitter.specs.declared.stage.VisitStage.{VisitStage}
pub use Rattle.model_splitter.specs.declared.stage.VisitStage.TheVariants.{Outside, Gone}
pub use Rattle.model_splitter.specs.Visitor.{access_at, stage_by}
pub use Rattle.model_splitter.specs.declared.way.Way.TheVariants.{Right, Down}
pub use Rattle.model_splitter.specs.Stage.{has_entered, went_right, went_down, x_after, y_after, stage_after}
pub use Rattle.model_splitter.specs.declared.tree.register.TreeRegister.{TreeRegister}
pub use Rattle.model_splitter.specs.declared.tree.register.TreeValue.{TreeValue}
pub use Rattle.model_splitter.specs.declared.tree.walker.Walker.{Walker}
pub use Rattle.model_splitter.specs.tree.Walk.{next_access, walker_after, walker_note, place_of, in_words, place_by, walker_at, walk_of, visit_on, left_child, right_child, reported, walked_to}
pub use Rattle.model_splitter.specs.declared.tree.register.TreeRegister.TheVariants.{Mark, X, Y, Contents}
pub use Rattle.model_splitter.specs.tree.TreeMemory.{IsTreeMemory, IsEmptyTree, word_in, segment_in, mark_at, IsWithinReach, segment_at, x_at, y_at}
pub use Rattle.model_splitter.specs.declared.tree.register.TreeValue.TheVariants.{Word, Contents as Held}
pub use Rattle.model_splitter.specs.tree.TreeSteps.{number_in, fresh_registers, written, value_of}
pub use Rattle.model_splitter.specs.declared.tree.node_registers.NodeRegisters.{NodeRegisters}
pub use Rattle.model_splitter.specs.tree.CollectWalk.{node_after, climbed, climbed_in, walk_is_over, place_read, first_walk, walk_at, finds_mark, walk_resumed, child_or}
pub use Rattle.model_splitter.specs.tree.Ahead.{HasRead, HasGrown, open_at, Sees, IsPathMarked, IsAhead, IsUpcoming}
pub use Rattle.model_splitter.specs.tree.Invariant.{IsTree, IsConsistent, was_made, NodesAgree}
pub use Rattle.model_splitter.specs.tree.NodeOrder.{above, IsUnder, IsRightOf, IsFrom}
pub use Rattle.model_splitter.specs.declared.tree.collect_walk.CollectWalk.{CollectWalk}
pub use Rattle.model_splitter.specs.tree.Depth.{depth_of, IsNodeWithin}
