-- The names that several proofs of this crate cite, passed on from one place. Declares nothing.
pub use Rattle.model_steps.specs.declared.refusal.Refusal.{Refusal}
pub use Rattle.model_steps.specs.World.{done_unless}
pub use Rattle.model_steps.proofs.cited.MachineLemmas.{call_leads_on}
pub use Rattle.model_pool.specs.Pool.{number_answer, widen_answer}
pub use Rattle.model_pool.specs.Widening.{widen_refusal}
pub use Rattle.model_pool.specs.Calls.Call.{Entered, Probed, Sought, Left}
pub use Rattle.model_pool.specs.slots.SlotsState.{SlotsState}
pub use Rattle.model_pool.specs.slots.Slots.{slot, stored_in, after_put, extended_in, after_extend, stored_reply, IsFetched}
pub use Rattle.model_pool.specs.slots.SlotCalls.SlotCall.{Pooled, Stored, Fetched, Extended}
pub use Rattle.model_pool.specs.slots.Machine.{slots, slots_next}
