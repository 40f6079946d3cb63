-- The names that several proofs of this crate cite, passed on from one place. Declares nothing.
pub use Rattle.std.proofs.Math.Nat.{mul-le-mul_right}
pub use Rattle.model_steps.specs.declared.access.Access.TheVariants.{Read}
pub use Rattle.model_steps.specs.Calls.{reply_of, lacked_memory}
pub use Rattle.model_steps.specs.declared.participant.Participant.{Participant}
pub use Rattle.model_steps.specs.Participant.{participant_of, program_of}
pub use Rattle.model_steps.specs.declared.note.Note.{Note}
pub use Rattle.model_steps.specs.declared.note.Note.TheVariants.{Quiet}
pub use Rattle.model_steps.specs.declared.refusal.Refusal.TheVariants.{Spent, NotBegun, Finished, NoMemory}
pub use Rattle.model_steps.specs.declared.record.Record.{Record}
pub use Rattle.model_steps.specs.declared.refusal.Refusal.{Refusal}
pub use Rattle.model_snapshot.specs.declared.client.Client.{Client}
pub use Rattle.model_snapshot.specs.declared.client.Pending.{Pending}
pub use Rattle.model_snapshot.specs.declared.client.SnapReply.{SnapReply}
pub use Rattle.model_snapshot.specs.Client.{is_idle, access_for, placed_note, updating, scanning}
pub use Rattle.model_snapshot.specs.Places.{KnownPlaces, BoundsScans, places_by}
pub use Rattle.model_snapshot.specs.Machine.{snapshot}
pub use Rattle.model_snapshot.specs.SnapCalls.SnapCall.{Stepped, Began, Updated, Scanned}
pub use Rattle.model_snapshot.specs.SnapWorld.{SnapState, reported, clients_over, snap_answer, after_snap_step, after_scan, after_update, scan_refusal, update_refusal, scan_refusal_by, update_refusal_by, reported_of_way}
