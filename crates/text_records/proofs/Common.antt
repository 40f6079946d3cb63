-- The names that several proofs of this crate cite, passed on from one place. Declares nothing.
pub use Rattle.std.proofs.lemmas.Bool.{false≢true, ne_eqb, lt-ltb, and_parts}
pub use Rattle.std.proofs.lemmas.Bool.Decides.{eqb_tells, leb_tells, nat_tests}
pub use Rattle.std.specs.List.{list_all}
pub use Rattle.std.specs.Result.{IfOk}
pub use Rattle.std.specs.declared.alloc.AllocError.{AllocError}
pub use Rattle.std.specs.Option.{option_copied}
pub use Rattle.std.proofs.lemmas.Str.{IsUtf8-append}
pub use Rattle.std.proofs.lemmas.Fmt.{decimal_digit, length-decimal-le_wide}
pub use Rattle.std.proofs.lemmas.List.Folds.{list_all-append}
pub use Rattle.serde_json.specs.declared.value.Value.{Value}
pub use Rattle.serde_json.specs.View.{view}
pub use Rattle.serde_json.specs.Data.{Data}
pub use Rattle.json.proofs.Printed.Utf8.{are_ascii, IsUtf8-are_ascii}
pub use Rattle.model_steps.specs.View.{inserted}
pub use Rattle.model_asked.specs.Config.{is_wide, gives_names}
pub use Rattle.model_asked.specs.declared.kind.WorldKind.{WorldKind}
pub use Rattle.model_asked.specs.declared.event.Event.{Event}
pub use Rattle.model_asked.specs.declared.event.Event.TheVariants.{Begin, Step, Enter, Probe, Seek, Leave, Put, Get, Widen}
pub use Rattle.model_asked.specs.lemmas.KindProofs.{named_apart}
pub use Rattle.model_asked.specs.Replies.{ShownReply}
pub use Rattle.text_lines.specs.Lines.{pieces_from, pieces_left, has_no_lf, with_ends}
pub use Rattle.text_lines.specs.Meaning.{same_bytes, is_digit, is_printable, decimal_from, number_in, command_in, words, meaning, number_below}
pub use Rattle.text_lines.specs.lemmas.PieceProofs.{pieces-cut, lacks, pieces-last}
pub use Rattle.text_lines.specs.Replies.{reply_words}
pub use Rattle.text_lines.specs.Events.{event_words}
pub use Rattle.text_records.specs.declared.header.Header.{Header}
pub use Rattle.text_records.specs.RecordLine.{IsHeaderLine, IsEventLine, SaysLine}
pub use Rattle.text_records.specs.Json.{count_members, SaysSizes, is_plain}
pub use Rattle.text_records.specs.declared.header.Version.{Version}
pub use Rattle.text_records.specs.declared.header.Version.TheVariants.{One, Two}
pub use Rattle.text_records.specs.declared.line.Line.{Line}
pub use Rattle.text_records.specs.declared.reported.Reported.{Reported}
pub use Rattle.text_records.specs.ReplyText.{reported_in, reported_of_words, word_with, saw_of, reported_with, reported_by, pairs_after}
pub use Rattle.text_records.specs.Pairs.{HasAt}
pub use Rattle.text_records.specs.PlainLine.{SpellsReported, SpellsLine, IsPlainView}
pub use Rattle.text_records.specs.Lines.{reported_of}
pub use Rattle.text_records.specs.declared.reported.Reported.TheVariants.{Saw}
