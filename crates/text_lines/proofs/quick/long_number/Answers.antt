use Rattle.std.proofs.Common.{◌≡◌, ◌+◌, ◌*◌, arith, refl}
use Rattle.text_lines.proofs.QuickLemmas.{eight_digits_more, rest_of-slice}
use Rattle.text_lines.proofs.quick.long_number.Goals as goal

pub with_eight-twelve-requires-clause-next : goal.with_eight-twelve-requires-clause-next
with_eight-twelve-requires-clause-next c = rw rest_of-slice at c.in-Some.ensures

pub with_eight-twelve-requires-2-clause-next : goal.with_eight-twelve-requires-2-clause-next
with_eight-twelve-requires-2-clause-next c = rw rest_of-slice at c.in-Some.ensures

pub number_before-requires-clause-read : goal.number_before-requires-clause-read
number_before-requires-clause-read c =
    let text = c.args.text.now in
    let last = c.value_of_eight.result in
    let is : c.in_ok-twenty.twenty ≡ c.with_eight-twelve-2.result * 100000000 + last = omega (arith, c.in_ok-checked_mul.ensures, c.in_ok-twenty.ensures) in
    rw is (eight_digits_more text c.with_eight-twelve-2.result last 12 refl c.with_eight-twelve-2.ensures (rw (rest_of-slice text 12) at (c.in-Some-eight_digits.ensures last c.value_of_eight.ensures)))
