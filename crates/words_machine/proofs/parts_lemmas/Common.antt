-- The names that several proofs of this crate cite, passed on from one place. Declares nothing.
pub use Rattle.std.proofs.lemmas.List.{set-get_or}
pub use Rattle.atomic_table.specs.Table.{Me, Step, Allows, keeps, step, Joins}
pub use Rattle.atomic_table.proofs.Lists.{at_set, at_snoc, at_last, set_else, set_again, at_longer}
pub use Rattle.atomic_table.specs.Seated.{TableId}
pub use Rattle.model_steps.specs.SetAt.{set_at}
pub use Rattle.model_steps.proofs.cited.SetAtLemmas.{set_at-cases, set_at-same, set_at-other}
pub use Rattle.model_splitter.specs.declared.way.Way.TheVariants.{Stop, Right, Down}
pub use Rattle.model_splitter.specs.declared.stage.VisitStage.{VisitStage}
pub use Rattle.model_splitter.specs.declared.stage.VisitStage.TheVariants.{Outside, WroteX, WroteY, SawClear, Gone}
pub use Rattle.words_machine.specs.declared.parts.splitter_view.Visit.{Visit}
pub use Rattle.words_machine.specs.declared.parts.splitter_view.SplitterView.{SplitterView}
pub use Rattle.words_machine.specs.parts.SplitterView.{own_word, visit_at, lone_view, fresh_visit, view_of}
pub use Rattle.words_machine.specs.parts.SplitterRule.{IsShown, IsAmong, Meets, Shows, IsKept, KeepsRule}
pub use Rattle.words_machine.specs.parts.SplitterSteps.{IsUnderRule, after_access}
pub use Rattle.words_machine.specs.declared.parts.board_view.BoardClaim.{BoardClaim}
pub use Rattle.words_machine.specs.declared.parts.board_view.BoardView.{BoardView}
pub use Rattle.words_machine.specs.parts.BoardRule.{IsClaimed}
pub use Rattle.words_machine.specs.parts.BoardView.{claim, claims_of, lone_claim, united}
pub use Rattle.words_machine.specs.parts.Boards.{ReaderId, GrantId, HasClaimOf}
