use Rattle.std.proofs.Common.{append_assoc}
use Rattle.std.proofs.lemmas.Fmt.{decimal_digit}
use Rattle.text_lines.specs.lemmas.NumberProofs.{decimal_two}
use Rattle.text_lines.proofs.print.put_small.Goals as goal

pub returns-then-number-lt10-clause-text : goal.returns-then-number-lt10-clause-text
returns-then-number-lt10-clause-text g c = rw (decimal_digit c.args.number c.if-number-lt10.true, c.put-then-number-lt10.ensures, c.put.ensures) (simp append_assoc)

pub returns-then-number-lt100-clause-text : goal.returns-then-number-lt100-clause-text
returns-then-number-lt100-clause-text g c = rw (decimal_two c.args.number c.if-number-lt10.false c.if-number-lt100.true, c.put-then-number-lt100.ensures, c.put.ensures) (simp append_assoc)
