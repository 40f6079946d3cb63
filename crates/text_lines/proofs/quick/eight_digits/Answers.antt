use Rattle.text_lines.proofs.EightDigits.{eight_read}
use Rattle.text_lines.proofs.quick.eight_digits.Goals as goal

pub returns : goal.returns
returns c = λ value says.
    eight_read c.args.text.now c.in_ok-bytes.bytes.now c.from_le_bytes-word.result value c.in_ok-bytes.ensures.cases.enough (λ i. (c.type_inv.text i).fits)
    c.in_ok-bytes.ensures.cases.same c.from_le_bytes-word.ensures c.if-word-ne-ZEROS.false c.if-digits-ne0.false says
