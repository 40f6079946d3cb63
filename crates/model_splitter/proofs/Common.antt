-- The names that several proofs of this crate cite, passed on from one place. Declares nothing.
pub use Rattle.std.proofs.lemmas.Bool.Decides.{eqb_tells}
pub use Rattle.model_steps.specs.SetAt.{set_at}
pub use Rattle.model_steps.proofs.cited.SetAtLemmas.{set_at-cases}
pub use Rattle.model_splitter.specs.declared.way.Way.TheVariants.{Stop, Right, Down}
pub use Rattle.model_splitter.specs.declared.stage.VisitStage.{VisitStage}
pub use Rattle.model_splitter.specs.declared.stage.VisitStage.TheVariants.{Outside, WroteX, SawClear, WroteY, Gone}
pub use Rattle.model_splitter.specs.Stage.{went_right, went_down, stage_after}
pub use Rattle.model_splitter.specs.Invariant.{DoorSatisfiesSpec, IsSplitter}
pub use Rattle.model_splitter.specs.declared.visitor.Visitor.{Visitor}
