-- The names that several proofs of this crate cite, passed on from one place. Declares nothing.
pub use Rattle.std.proofs.lemmas.Bool.Decides.{nat_tests, leb_tells, Decides-eqb, eqb_tells}
pub use Rattle.model_steps.specs.RegisterState.{Registers}
pub use Rattle.model_steps.specs.Registers.{after_access}
pub use Rattle.model_steps.proofs.cited.SetAtLemmas.{set_at-same, set_at-is, set_at-other}
pub use Rattle.model_steps.specs.declared.refusal.Refusal.{Refusal}
pub use Rattle.model_steps.specs.declared.access.Access.TheVariants.{TestAndSet, Clear, Nothing}
pub use Rattle.model_steps.specs.declared.refusal.Refusal.TheVariants.{NotCompeting, Holding, NotHolding}
pub use Rattle.model_steps.specs.SetAt.{set_at}
pub use Rattle.model_pool.specs.declared.competitor.Competitor.{Competitor}
pub use Rattle.model_pool.specs.declared.probe.Probe.TheVariants.{Missed, Got}
pub use Rattle.model_pool.specs.declared.stay.Stay.{Stay}
pub use Rattle.model_pool.specs.declared.stay.Stay.TheVariants.{Seeking, Settled}
pub use Rattle.model_pool.specs.Stay.{probe_access, probe_reply, held_at, stay_probed, leave_access, IsWithin}
pub use Rattle.model_pool.specs.Competitors.{stay_of, with_stay, identities, without, holds_at, holder_in, held_in, index_of}
pub use Rattle.model_pool.specs.PoolState.{PoolState}
pub use Rattle.model_pool.specs.Pool.{fresh_pool, enter_refusal, probe_answer, after_probe, got_by, number_answer, number_by, after_leave, after_leave_by, probe_answer_by, after_probe_by, probe_refusal_by}
pub use Rattle.model_pool.specs.Calls.{Call}
pub use Rattle.model_pool.specs.Calls.Call.{Probed, Sought, Entered, Left, Widened}
pub use Rattle.model_pool.specs.Machine.{next, IsReply, pool}
pub use Rattle.model_pool.specs.Acquired.{Gets}
