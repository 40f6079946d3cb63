use Rattle.std.proofs.Common.{fold, take}
use Rattle.tool_work.proofs.Common.{IsCommandOf, new_app}
use Rattle.tool_work.specs.CommandLine.{with_choice}
use Rattle.tool_work.proofs.command_line.command_of.Given as goal

abbrev pub invariant-loop-choice : goal.invariant-loop-choice
invariant-loop-choice l = IsCommandOf (fold with_choice (new_app l.manual.name.now) (take l.choice-index l.manual.choices.now)) l.command
