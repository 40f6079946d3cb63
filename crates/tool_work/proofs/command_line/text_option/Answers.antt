use Rattle.std.proofs.Common.{ap, Some}
use Rattle.tool_work.proofs.Common.{Rule, Set}
use Rattle.tool_work.proofs.command_line.text_option.Goals as goal

pub returns-clause-rule : goal.returns-clause-rule
returns-clause-rule c =
    let settings : Rule → Rule = λ r. record r { long = Some c.args.name.now; action = Some Set; value_names = 1 } in
    rw (c.help.ensures, c.value_name.ensures, c.action.ensures, c.long.ensures) (ap settings c.new.ensures.rule)
