-- The names that several proofs of this crate cite, passed on from one place. Declares nothing.
pub use Rattle.std.proofs.lemmas.Bool.{cases_Bool, or_left, or_right}
pub use Rattle.std.proofs.lemmas.Bool.Decides.{eqb_tells}
pub use Rattle.std.proofs.lemmas.List.{length-map, length-take-le, get_or-take}
pub use Rattle.std.proofs.Math.Nat.{mul-le-mul_right}
pub use Rattle.model_steps.specs.declared.access.Access.TheVariants.{Read, Write}
pub use Rattle.model_steps.specs.Calls.{reply_of, lacked_memory}
pub use Rattle.model_steps.specs.declared.access.Answer.{Answer}
pub use Rattle.model_steps.specs.declared.participant.Participant.{Participant}
pub use Rattle.model_steps.specs.Note.{ends}
pub use Rattle.model_steps.specs.Participant.{participant_of, program_of, with_participant, beginner}
pub use Rattle.model_steps.specs.SetAt.{set_at}
pub use Rattle.model_steps.proofs.cited.ParticipantLemmas.{participant_of-put, participant_of-push, length-with_participant, some_begun}
pub use Rattle.model_steps.proofs.cited.SetAtLemmas.{set_at-same, set_at-other}
pub use Rattle.model_steps.proofs.cited.StepLemmas.{going_answer, going_after}
pub use Rattle.model_steps.specs.declared.note.Note.{Note}
pub use Rattle.model_steps.specs.declared.note.Note.TheVariants.{Quiet, Said, Ended}
pub use Rattle.model_steps.specs.declared.refusal.Refusal.TheVariants.{Spent, NotBegun, Finished, NoMemory}
pub use Rattle.model_steps.specs.World.{begin_refusal, may_refuse_by, begun_unless, done_unless}
pub use Rattle.model_steps.proofs.cited.WorldKeeps.{let_in}
pub use Rattle.model_steps.specs.declared.record.Record.{Record}
pub use Rattle.model_steps.specs.Count.{count_to}
pub use Rattle.model_steps.specs.View.{IsRising, value_of}
pub use Rattle.model_steps.specs.declared.refusal.Refusal.{Refusal}
pub use Rattle.model_snapshot.specs.declared.client.Client.{Client}
pub use Rattle.model_snapshot.specs.declared.client.Pending.{Pending}
pub use Rattle.model_snapshot.specs.declared.client.Pending.TheVariants.{Nothing, Placing as Places, Scan as Scans, Update, Write as Writing}
pub use Rattle.model_snapshot.specs.declared.client.SnapReply.{SnapReply}
pub use Rattle.model_snapshot.specs.Client.{is_idle, access_for, after_for, note_for, note_after, pending_after, placed_note, updating, scanning}
pub use Rattle.model_snapshot.specs.Places.{KnownPlaces, PlacesLaws, value_for, BoundsScans, KeepsWalks, segment_in}
pub use Rattle.model_snapshot.specs.Scan.{scan_after, scan_view, scan_from, is_change, is_second_change, met_anew, met_at, view_at, goes_after, goes_view}
pub use Rattle.model_snapshot.specs.SnapCalls.{SnapCall, next}
pub use Rattle.model_snapshot.specs.Machine.{snapshot}
pub use Rattle.model_snapshot.specs.SnapCalls.SnapCall.{Stepped, Began, Updated, Scanned}
pub use Rattle.model_snapshot.specs.Snapshot.{SnapObject, new_object, observed, Allows, IsMoment, Task}
pub use Rattle.model_snapshot.specs.Snapshot.Task.{Absent, Idle, Placing, Scanning, Updating}
pub use Rattle.model_snapshot.specs.SnapWorld.{SnapState, reported, clients_over, snap_answer, after_snap_step, way_now, ways_of, beginner_at, after_scan, after_update, scan_refusal, update_refusal, scan_refusal_by, update_refusal_by, may_lack_memory}
pub use Rattle.model_snapshot.specs.declared.sightings.Sighting.{Sighting}
pub use Rattle.model_snapshot.specs.Sightings.{met_in, number_met, sighting_of, noted, with_sighting, carried_over, shown_by, unknown, index_of}
