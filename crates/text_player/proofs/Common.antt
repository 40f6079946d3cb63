-- The names that several proofs of this crate cite, passed on from one place. Declares nothing.
pub use Rattle.std.specs.List.{list_all}
pub use Rattle.std.proofs.lemmas.Bool.{and_parts, eqb-true, not-true, not_from_false}
pub use Rattle.std.proofs.lemmas.List.{append-nil, take_more, map-append, take-append-drop, take_all}
pub use Rattle.std.proofs.lemmas.Bool.Decides.{nat_tests}
pub use Rattle.std.specs.Io.KnownBytes.{Appends, Consumes, IsAtEnd}
pub use Rattle.std.proofs.lemmas.Grind.{flat_map-append}
pub use Rattle.std.proofs.lemmas.Result.{err_from_is_err_and, on_err_weaker, on_ok_weaker}
pub use Rattle.model_asked.specs.declared.bad.Bad.{Bad}
pub use Rattle.model_asked.specs.declared.command.Command.{Command}
pub use Rattle.model_asked.specs.declared.kind.WorldKind.{WorldKind}
pub use Rattle.model_asked.specs.declared.bad.Bad.TheVariants.{TooLong, NotPrintable}
pub use Rattle.model_asked.specs.Replies.{ShownReply}
pub use Rattle.model_asked.specs.Requests.{Request}
pub use Rattle.text_lines.specs.Meaning.{meaning, is_printable, command_in, words}
pub use Rattle.text_lines.specs.Lines.{has_no_lf, whole_lines, lines}
pub use Rattle.text_lines.specs.HeldLine.{HeldLine, held}
pub use Rattle.text_lines.specs.Written.{HasPartOf}
pub use Rattle.text_player.specs.Progress.{Progress, with_line, after_meaning, after_line, after_bytes, ends, at_start, after_end, after_rest}
pub use Rattle.text_player.specs.Turns.{Turn, answers_of, asked}
pub use Rattle.text_player.specs.Turns.Turn.{Answered, Reported, Ended, Misread}
pub use Rattle.text_player.specs.Runs.{Runs, CanRun}
pub use Rattle.text_player.specs.lemmas.RunProofs.{runs-append}
pub use Rattle.text_player.specs.PlayerState.{PlayerState}
pub use Rattle.text_player.specs.Stands.{Stands, StandsPart}
pub use Rattle.text_player.specs.declared.summary.Summary.{Summary}
pub use Rattle.text_player.specs.Counts.{CountsAnswers}
pub use Rattle.text_player.specs.ResponderState.{ResponderState}
pub use Rattle.text_player.specs.Says.{SaysFrom, Says, Afresh, GoingOn, Anywhere}
pub use Rattle.text_player.specs.declared.form.TheConstants.{TURN_ROOM}
pub use Rattle.text_lines.specs.declared.fault.Fault.{Fault}
pub use Rattle.text_lines.specs.declared.fault.Fault.TheVariants.{Memory}
pub use Rattle.text_player.specs.Asked.{asked_by}
pub use Rattle.text_player.specs.declared.playing.TheConstants.{READ_BYTES}
