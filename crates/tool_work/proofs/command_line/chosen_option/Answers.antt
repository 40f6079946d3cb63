use Rattle.std.proofs.Common.{ap, ◌∷◌, []}
use Rattle.tool_work.proofs.Common.{Rule}
use Rattle.tool_work.proofs.command_line.chosen_option.Goals as goal

pub returns-clause-rule : goal.returns-clause-rule
returns-clause-rule c =
    let settings : Rule → Rule = λ r. record r { defaults = c.args.default.now ∷ [] } in
    rw c.default_value.ensures (ap settings c.text_option.ensures.rule)
