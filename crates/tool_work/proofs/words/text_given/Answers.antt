use Rattle.std.proofs.Common.{◌∙◌}
use Rattle.tool_work.proofs.Common.{found_of, first_value-rows}
use Rattle.tool_work.proofs.words.text_given.Goals as goal

pub returns : goal.returns
returns c = c.get_str.ensures ∙ first_value-rows (found_of c.args.matches.now) c.args.name.now
