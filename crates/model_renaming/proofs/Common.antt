-- The names that several proofs of this crate cite, passed on from one place. Declares nothing.
pub use Rattle.std.proofs.lemmas.Bool.Decides.{eqb_tells, leb_tells}
pub use Rattle.model_steps.specs.declared.refusal.Refusal.{Refusal}
pub use Rattle.model_steps.specs.declared.refusal.Refusal.TheVariants.{NotBegun, Finished, NoMemory}
pub use Rattle.model_steps.specs.Calls.{lacked_memory, Call, steps_by}
pub use Rattle.model_steps.specs.Calls.Call.{Stepped, Began}
pub use Rattle.model_steps.specs.Machine.{Reaches}
pub use Rattle.model_steps.proofs.cited.MachineLemmas.{call_leads_on}
pub use Rattle.model_steps.proofs.cited.SetAtLemmas.{set_at-same, set_at-other}
pub use Rattle.model_steps.specs.View.{value_of, IsRising}
pub use Rattle.model_steps.specs.declared.participant.Participant.{Participant}
pub use Rattle.model_steps.specs.Participant.{participant_of, beginner, program_of, identities, resumed, with_participant, AreDistinct, index_of}
pub use Rattle.model_steps.proofs.cited.ParticipantLemmas.{participant_of-put, participant_of-push, length-with_participant}
pub use Rattle.model_steps.specs.World.{begin_refusal, done_unless}
pub use Rattle.model_steps.proofs.cited.WorldKeeps.{let_in}
pub use Rattle.model_steps.proofs.cited.RunLemmas.{run_more, run_one}
pub use Rattle.model_steps.specs.Runs.{Run}
pub use Rattle.model_steps.specs.SetAt.{set_at}
pub use Rattle.model_steps.proofs.cited.Found.{found, none-index_of, index_of-below}
pub use Rattle.model_asked.specs.declared.kind.WorldKind.{WorldKind}
pub use Rattle.model_asked.specs.Config.{is_tree}
pub use Rattle.model_snapshot.specs.Places.{KnownPlaces, PlacesLaws, BoundsScans, places_by}
pub use Rattle.model_snapshot.proofs.cited.Clients.{has_begun, goes_busy, goes_idle}
pub use Rattle.model_snapshot.specs.Standing.{GoesBusy, is_quiet, StandsAt}
pub use Rattle.model_snapshot.specs.declared.client.SnapReply.{SnapReply}
pub use Rattle.model_snapshot.specs.declared.client.SnapReply.TheVariants.{Quiet as Silent, Placed as HasPlace, Written, View as Viewed}
pub use Rattle.model_snapshot.specs.SnapCalls.{SnapCall, next as snap_next, IsReply as IsSnapReply}
pub use Rattle.model_snapshot.specs.Snapshot.{Task, SnapObject, SnapBounds, observed, Allows as SnapAllows, asked_for, with_update}
pub use Rattle.model_snapshot.specs.Snapshot.Task.{Placing as ToPlace, Scanning as ToScan, Updating as ToUpdate, Idle}
pub use Rattle.model_snapshot.specs.SnapWorld.{SnapState, beginner_at, snap_answer, after_snap_step, after_scan, after_update}
pub use Rattle.model_snapshot.specs.declared.client.Client.{Client}
pub use Rattle.model_snapshot.specs.Client.{is_idle, updating, scanning}
pub use Rattle.model_snapshot.specs.Machine.{snapshot}
pub use Rattle.model_renaming.specs.Reply.{StepReply, outcome_with}
pub use Rattle.model_renaming.specs.RenameState.{RenameState}
pub use Rattle.model_renaming.specs.Machine.{renaming, next, IsReply, BeginsTheSame}
pub use Rattle.model_renaming.specs.RenameWorld.{rename_answer, after_rename_step, step_refusal, may_lack, after_wish, begun_snap, begun_unless, has_place, world_with, snap_step, snap_reported, after_follow, answer_reported, answer_open, answer_by, after_reported, after_open, after_by, name_in, owner_by, shown_by, name_by}
pub use Rattle.model_renaming.specs.declared.reply.Reply.TheVariants.{Quiet, Proposed, Saw, Placed, Named, Spent}
pub use Rattle.model_renaming.specs.declared.round.Round.{Round}
pub use Rattle.model_renaming.specs.declared.round.Follow.{Follow}
pub use Rattle.model_renaming.specs.declared.round.RoundStage.{RoundStage}
pub use Rattle.model_renaming.specs.declared.round.RoundStage.TheVariants.{Placing, Proposing, Looking, Settled, Over}
pub use Rattle.model_renaming.specs.Pace.{Pace, IsInTime, most_steps, paced, paced_step, InTime}
pub use Rattle.model_renaming.specs.Pace.Phase.{ToPlace as ToGo, ToPropose, ToLook}
pub use Rattle.model_asked.specs.rounds.Proposals.{is_taken, next_proposal}
pub use Rattle.model_renaming.specs.RenameObject.{RenameTerms, RenameObject, IsRecent, IsConflict, Allows, after, after_step, no_step, new_object, IsRun, IsSole, MayPropose, ShowsSole}
pub use Rattle.model_renaming.specs.Round.{stage_refusal, followed, decided, named_by, spent_by, saw_by, number_of, written_round, first_round, first_wish, name_at, standing_by}
pub use Rattle.model_renaming.specs.declared.round.Wish.{Wish}
pub use Rattle.model_renaming.specs.declared.round.Wish.TheVariants.{Nothing, Update, Scan}
pub use Rattle.model_renaming.specs.Locality.{client_of, round_of, wished, access_of}
