-- The names that several proofs of this crate cite, passed on from one place. Declares nothing.
pub use Rattle.std.proofs.lemmas.Bool.Decides.{eqb_tells, Decides-eqb}
pub use Rattle.model_steps.specs.declared.refusal.Refusal.{Refusal}
pub use Rattle.model_steps.specs.Calls.{Call}
pub use Rattle.model_steps.specs.Calls.Call.{Began, Stepped}
pub use Rattle.model_steps.specs.World.{begin_refusal, done_unless}
pub use Rattle.model_steps.specs.Runs.{Run}
pub use Rattle.model_asked.specs.declared.kind.WorldKind.{WorldKind}
pub use Rattle.model_asked.specs.declared.event.Event.{Event}
pub use Rattle.model_asked.specs.Replies.{ShownReply}
pub use Rattle.model_asked.specs.declared.exchange.Exchange.{Exchange}
pub use Rattle.model_snapshot.specs.Places.{KnownPlaces}
pub use Rattle.model_snapshot.specs.Snapshot.{SnapBounds}
pub use Rattle.model_renaming.specs.Reply.{StepReply}
pub use Rattle.model_renaming.specs.declared.reply.Reply.TheVariants.{Quiet, Placed, Proposed, Saw, Named, Spent}
pub use Rattle.model_pool.specs.Calls.Call.{Entered, Probed, Sought, Left}
pub use Rattle.model_pool.specs.slots.SlotCalls.{SlotCall}
pub use Rattle.model_pool.specs.slots.SlotCalls.SlotCall.{Pooled, Stored, Fetched, Extended}
pub use Rattle.text_worlds.specs.desk.DeskState.{DeskState}
pub use Rattle.text_worlds.specs.desk.DeskRun.{IsDeskRun, desk_terms}
pub use Rattle.text_worlds.specs.desk.DeskCalls.{DeskCall, rename_calls, exchange, exchange_of, ReachesDesk}
pub use Rattle.text_worlds.specs.desk.DeskCalls.DeskCall.{Renamed, Slotted}
