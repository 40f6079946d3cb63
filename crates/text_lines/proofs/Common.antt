-- The names that several proofs of this crate cite, passed on from one place. Declares nothing.
pub use Rattle.std.specs.List.{list_all}
pub use Rattle.std.proofs.lemmas.Bool.{and_from, and_parts, eqb-true, not-true}
pub use Rattle.std.proofs.lemmas.List.{append-nil, take-append-le, length-take-le, drop_more, take-append-drop, take_all, length-drop}
pub use Rattle.std.proofs.lemmas.Bool.Decides.{nat_tests, leb_tells, eqb_tells}
pub use Rattle.std.proofs.Math.Seq.{take-add, take-append-add}
pub use Rattle.std.proofs.lemmas.Fmt.{decimal_digit, decimal_step}
pub use Rattle.std.specs.Io.KnownBytes.{Appends}
pub use Rattle.model_asked.specs.declared.bad.Bad.{Bad}
pub use Rattle.model_asked.specs.declared.command.Command.{Command}
pub use Rattle.model_asked.specs.declared.kind.WorldKind.{WorldKind}
pub use Rattle.model_asked.specs.declared.bad.Bad.TheVariants.{TooLong}
pub use Rattle.model_asked.specs.declared.event.Event.{Event}
pub use Rattle.text_lines.specs.Meaning.{is_digit, decimal_from, meaning, is_printable, words, if_below, command_of, number_in, event_if_both, event_of_two}
pub use Rattle.text_lines.specs.Lines.{pieces_from}
pub use Rattle.text_lines.specs.HeldLine.{HeldLine, held}
pub use Rattle.text_lines.specs.Written.{HasPartOf}
