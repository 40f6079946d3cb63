use Rattle.std.proofs.Common.{rules, ap, ◌≡◌, ◌∷◌, [], Some}
use Rattle.tool_work.proofs.Common.{Rule, Unsigned}
use Rattle.tool_work.proofs.command_line.number_option.Goals as goal

pub returns-clause-rule : goal.returns-clause-rule
returns-clause-rule c =
    let parser : c.value_parser.result.value_parser ≡ Some (Unsigned c.args.least c.args.most) = search rules in
    let settings : Rule → Rule = λ r. record r { parser = Some (Unsigned c.args.least c.args.most); defaults = c.args.default.now ∷ [] } in
    rw (c.default_value.ensures, c.value_parser.ensures.others, parser) (ap settings c.text_option.ensures.rule)
