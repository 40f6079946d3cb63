use Rattle.std.proofs.Common.{◌≡◌, ◌<◌, ◌^◌, drop}
use Rattle.text_lines.specs.Meaning.{decimal_from}
use Rattle.text_lines.proofs.words.wide_value_of_digits.Given as goal

abbrev pub invariant-loop-digit : goal.invariant-loop-digit
invariant-loop-digit l = (l.value < 2 ^ 128) × (decimal_from l.value (drop l.digit-index l.digits) ≡ decimal_from 0 l.digits)
