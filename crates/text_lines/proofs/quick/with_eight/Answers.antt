use Rattle.std.proofs.Common.{refl}
use Rattle.text_lines.proofs.QuickLemmas.{eight_digits_more}
use Rattle.text_lines.proofs.quick.with_eight.Goals as goal

pub returns : goal.returns
returns c = eight_digits_more c.args.text.now c.args.first c.value_of_eight.result 4 refl c.requires.read (c.requires.next c.value_of_eight.result c.value_of_eight.ensures)
