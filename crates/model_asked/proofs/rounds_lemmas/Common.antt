-- The names that several proofs of this crate cite, passed on from one place. Declares nothing.
pub use Rattle.std.proofs.lemmas.Bool.Decides.{eqb_tells, leb_tells}
pub use Rattle.model_steps.specs.View.{value_of, IsRising}
pub use Rattle.model_steps.specs.Count.{count_to}
pub use Rattle.model_steps.specs.SetAt.{set_at}
