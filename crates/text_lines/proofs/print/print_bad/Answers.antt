use Rattle.std.proofs.Common.{◌<◌, sym, arith}
use Rattle.text_lines.proofs.Common.{decimal_digit, Bad, TooLong}
use Rattle.model_asked.specs.Bad.{bad_number}
use Rattle.text_lines.proofs.print.print_bad.Goals as goal

-- the number of a bad line is a digit
is_digit : (bad : Bad) → bad_number bad < 10
is_digit TooLong = omega arith
is_digit bad = omega arith

pub returns-clause-text : goal.returns-clause-text
returns-clause-text g c = rw (decimal_digit (bad_number c.args.bad) (is_digit c.args.bad), sym c.number.ensures) c.put.ensures
