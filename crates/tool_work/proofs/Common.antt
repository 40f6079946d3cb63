-- The names that several proofs of this crate cite, passed on from one place. Declares nothing.
pub use Rattle.std.proofs.lemmas.List.{append-nil}
pub use Rattle.std.specs.Io.KnownBytes.{Consumes, Appends}
pub use Rattle.std.proofs.KnownBytes.{Consumes-nil, Consumes-trans}
pub use Rattle.text_lines.specs.Written.{HasPartOf}
pub use Rattle.text_lines.specs.declared.fault.Fault.{Fault}
pub use Rattle.text_lines.specs.declared.fault.Fault.TheVariants.{Read, Write, Memory}
pub use Rattle.text_player.specs.Played.{Reading, Writing, reading, writing}
pub use Rattle.text_player.specs.declared.playing.TheConstants.{MOST_READS, READ_BYTES}
pub use Rattle.text_checker.specs.declared.verdict.Verdict.{Verdict}
pub use Rattle.text_checker.specs.Migrated.{IsMigrated}
pub use Rattle.text_checker.specs.declared.verdict.Verdict.TheVariants.{Yes, NoMemory}
pub use Rattle.tool_work.specs.page.Shown.{IsShown}
pub use Rattle.std.proofs.lemmas.Option.{same_Some}
pub use Rattle.std.specs.Result.{result_ok}
pub use Rattle.std.proofs.lemmas.Result.{IfOk-weaker}
pub use Rattle.clap.specs.Words.{Row, first_of, Rule, app_of, with_rule, new_app, found_of, rows_of}
pub use Rattle.clap.specs.Simple.{app_of_fields}
pub use Rattle.clap.specs.declared.builder.action.ArgAction.TheVariants.{Set}
pub use Rattle.clap.specs.declared.builder.command.Command.TheViews.{out-Command}
pub use Rattle.clap.specs.declared.builder.value_parser.ValueParser.TheVariants.{Unsigned}
pub use Rattle.clap.proofs.WalkLemmas.{first_value-rows}
pub use Rattle.model_asked.specs.declared.config.Config.{Config}
pub use Rattle.tool_work.specs.declared.asked.Ask.{Ask}
pub use Rattle.tool_work.specs.declared.asked.Drawing.{Drawing}
pub use Rattle.tool_work.specs.declared.asked.Hosting.{Hosting}
pub use Rattle.tool_work.specs.declared.asked.Playing.{Playing}
pub use Rattle.tool_work.specs.declared.asked.Racing.{Racing}
pub use Rattle.tool_work.specs.declared.asked.Serving.{Serving}
pub use Rattle.tool_work.specs.declared.asked.Showing.{Showing}
pub use Rattle.tool_work.specs.CommandLine.{IsCommandOf, slotctl_app}
