-- The names that several proofs of this crate cite, passed on from one place. Declares nothing.
pub use Rattle.std.proofs.lemmas.Bool.Decides.{eqb_tells, leb_tells}
pub use Rattle.std.specs.List.{Contains}
pub use Rattle.std.proofs.lemmas.List.{length-map, append-nil}
pub use Rattle.std.specs.Option.{option_copied}
pub use Rattle.std.proofs.lemmas.Result.{on_ok_weaker}
pub use Rattle.std.specs.Io.KnownBytes.{Appends}
pub use Rattle.model_steps.specs.declared.participant.Participant.{Participant}
pub use Rattle.model_steps.specs.Participant.{participant_of, program_of}
pub use Rattle.model_steps.specs.Calls.Call.{Began, Stepped}
pub use Rattle.model_steps.specs.Runs.{Run}
pub use Rattle.model_steps.specs.declared.refusal.Refusal.{Refusal}
pub use Rattle.model_steps.specs.World.{done_unless}
pub use Rattle.model_steps.specs.SetAt.{set_at}
pub use Rattle.model_steps.proofs.cited.RunLemmas.{run_more, run_one, run_splits}
pub use Rattle.model_asked.specs.declared.exchange.Exchange.{Exchange}
pub use Rattle.model_asked.specs.declared.event.Event.{Event}
pub use Rattle.model_asked.specs.declared.config.Config.{Config}
pub use Rattle.model_asked.specs.declared.kind.WorldKind.{WorldKind}
pub use Rattle.model_asked.specs.Replies.{done_reply, value_reply, ShownReply}
pub use Rattle.text_lines.specs.Lines.{left_length}
pub use Rattle.text_player.specs.Records.{header_line, exchange_line, record_of}
pub use Rattle.text_player.specs.Turns.Turn.{Answered, Reported, Ended, Misread}
pub use Rattle.model_snapshot.specs.Snapshot.{IsMoment}
pub use Rattle.model_renaming.specs.RenameObject.{RenameTerms, RenameObject, IsRecent, ShowsSole, no_begin, no_step, ShowsConflict}
pub use Rattle.model_renaming.specs.Reply.{StepReply}
pub use Rattle.model_asked.specs.lemmas.ConfigProofs.{few_take_part}
pub use Rattle.model_pool.specs.Calls.Call.{Entered, Probed, Sought, Widened, Left}
pub use Rattle.model_pool.specs.PoolObject.{number_in, competes}
pub use Rattle.model_pool.specs.PoolState.{PoolStart}
pub use Rattle.model_pool.proofs.cited.PoolKeeps.{may_widen}
pub use Rattle.model_pool.specs.slots.SlotCalls.SlotCall.{Pooled, Stored, Fetched, Extended}
pub use Rattle.model_pool.specs.slots.Slots.{stored_reply, stored_in, IsFetched}
pub use Rattle.text_worlds.specs.desk.DeskCalls.{DeskCall, exchange_of}
pub use Rattle.text_worlds.specs.desk.DeskCalls.DeskCall.{Renamed, Slotted}
pub use Rattle.text_worlds.specs.desk.DeskValue.{DeskValue}
pub use Rattle.text_worlds.specs.desk.Start.{pool_start}
pub use Rattle.text_records.specs.declared.line.Line.{Line}
pub use Rattle.text_records.specs.Lines.{reported_of, line_of, IsLineOf, IsShown}
pub use Rattle.text_records.specs.Records.{record_lines, lines_left, IsRecordOf, AreRead}
pub use Rattle.text_records.specs.declared.header.Header.{Header}
pub use Rattle.text_records.specs.RecordLine.{FindsLine, IsEventLine, IsHeaderLine}
pub use Rattle.text_records.specs.declared.header.Version.{Version}
pub use Rattle.text_records.proofs.cited.written.Lines.{record_is}
pub use Rattle.text_checker.specs.ObjectRun.{AllowsCall, after_call, IsObjectRun, DeskObject, fresh_desk_object}
pub use Rattle.text_checker.specs.Lines.{CanFollow, after_line, AreLinesOfRun}
pub use Rattle.text_checker.specs.declared.reason.Reason.{Reason}
pub use Rattle.text_checker.specs.Config.{terms_of}
pub use Rattle.text_checker.specs.declared.judges.firsts.Firsts.{Firsts}
pub use Rattle.text_checker.specs.Stages.{StandsAfter, HasTakenBut, bytes_left, HasTakenAll, JudgesRow}
pub use Rattle.text_checker.specs.declared.judge.Judge.{Judge}
pub use Rattle.text_checker.specs.Verdict.{IsSaid, HasHeader, IsSaidOfRows, LacksHeader, SpellRun, IsFaultyRow, IsBadRow, IsSaidAfter}
pub use Rattle.text_checker.specs.declared.verdict.Verdict.{Verdict}
pub use Rattle.text_checker.specs.Judged.{HasTaken, TakesOn, TakesMore, IsFaultAfter}
pub use Rattle.text_checker.specs.Migrated.{IsMigratedTo, Telling, IsTelling, after_telling, exchanges_in, HasMigrated}
pub use Rattle.text_checker.specs.declared.checker.Checker.{Checker}
pub use Rattle.text_checker.specs.Gathered.{Gathers, AreGathered}
pub use Rattle.text_checker.specs.SoFar.{RowsSoFar, TakesRow}
pub use Rattle.text_checker.specs.declared.migration.Migration.{Migration}
pub use Rattle.text_checker.specs.declared.verdict.Verdict.TheVariants.{Yes}
pub use Rattle.std.proofs.lemmas.Bool.{false≢true}
pub use Rattle.text_checker.specs.Reasons.{Keeps}
