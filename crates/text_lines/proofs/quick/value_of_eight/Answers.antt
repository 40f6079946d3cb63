use Rattle.text_lines.proofs.EightDigits.{value_is}
use Rattle.text_lines.proofs.quick.value_of_eight.Goals as goal

pub returns : goal.returns
returns c = value_is c.args.digits
