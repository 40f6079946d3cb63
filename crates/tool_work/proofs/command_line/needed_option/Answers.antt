use Rattle.std.proofs.Common.{rules, ap, ◌≡◌, Some, true}
use Rattle.tool_work.proofs.Common.{Rule, Unsigned}
use Rattle.tool_work.proofs.command_line.needed_option.Goals as goal

pub returns-clause-rule : goal.returns-clause-rule
returns-clause-rule c =
    let parser : c.value_parser.result.value_parser ≡ Some (Unsigned c.args.least c.args.most) = search rules in
    let settings : Rule → Rule = λ r. record r { required = true; parser = Some (Unsigned c.args.least c.args.most) } in
    rw (c.value_parser.ensures.others, parser, c.required.ensures) (ap settings c.text_option.ensures.rule)
