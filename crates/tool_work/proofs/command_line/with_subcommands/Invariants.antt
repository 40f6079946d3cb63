use Rattle.std.proofs.Common.{◌≡◌, fold, take}
use Rattle.tool_work.proofs.Common.{app_of}
use Rattle.tool_work.specs.CommandLine.{with_entry}
use Rattle.tool_work.proofs.command_line.with_subcommands.Given as goal

abbrev pub invariant-loop-subcommand : goal.invariant-loop-subcommand
invariant-loop-subcommand l = app_of l.program ≡ fold with_entry (app_of l.fn.program) (take l.subcommand-index l.subcommands)
