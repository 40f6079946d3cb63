use Rattle.std.proofs.Common.{ap, Some}
use Rattle.clap.specs.Words.{Rule}
use Rattle.clap.specs.declared.builder.action.ArgAction.TheVariants.{SetTrue}
use Rattle.tool_work.proofs.command_line.flag.Goals as goal

pub returns-clause-rule : goal.returns-clause-rule
returns-clause-rule c =
    let settings : Rule → Rule = λ r. record r { long = Some c.args.name.now; action = Some SetTrue } in
    rw (c.help.ensures, c.action.ensures, c.long.ensures) (ap settings c.new.ensures.rule)
