use Rattle.std.proofs.Common.{◌≡◌, ℕ, ◌+◌, ◌-◌, ◌*◌, ◌%◌, ◌<◌, ◌≤◌, ◌^◌, get_or, true, ap, ◌∙◌, arith}
use Rattle.text_lines.specs.Meaning.{is_digit}
use Rattle.text_lines.proofs.QuickLemmas.{digit_in_range, one_digit_more, few_digits-fit}
use Rattle.text_lines.proofs.quick.one_more.Goals as goal

-- a byte less 48, in 64 bits, is at most 9 just where the byte is a digit
digit_less : (byte : ℕ) → byte < 256 → (byte + 18446744073709551568) % 18446744073709551616 ≤ 9 → (48 ≤ byte) × (byte ≤ 57) × ((byte + 18446744073709551568) % 18446744073709551616 ≡ byte - 48)
digit_less byte small least = (omega arith, omega arith, omega arith)

pub overflow_mul-result : goal.overflow_mul-result
overflow_mul-result c =
    let small : c.from-digit.result < 256 = rw c.from-digit.ensures (c.type_inv.text c.args.count).fits in
    let r = digit_less c.from-digit.result small (omega (arith, c.if-digit-gt9.false)) in
    let fits : c.args.value * 10 + (c.from-digit.result - 48) < 2 ^ 64 = few_digits-fit c.args.text.now c.args.value c.args.count c.from-digit.result c.requires.read c.requires.sure (digit_in_range c.from-digit.result r.0 r.1) in
    omega (arith, fits)

pub overflow_add-result : goal.overflow_add-result
overflow_add-result c =
    let small : c.from-digit.result < 256 = rw c.from-digit.ensures (c.type_inv.text c.args.count).fits in
    let r = digit_less c.from-digit.result small (omega (arith, c.if-digit-gt9.false)) in
    let fits : c.args.value * 10 + (c.from-digit.result - 48) < 2 ^ 64 = few_digits-fit c.args.text.now c.args.value c.args.count c.from-digit.result c.requires.read c.requires.sure (digit_in_range c.from-digit.result r.0 r.1) in
    omega (arith, fits, r.2)

pub returns : goal.returns
returns c =
    let small : c.from-digit.result < 256 = rw c.from-digit.ensures (c.type_inv.text c.args.count).fits in
    let r = digit_less c.from-digit.result small (omega (arith, c.if-digit-gt9.false)) in
    let digit : is_digit (get_or c.args.text.now c.args.count 0) ≡ true = rw c.from-digit.ensures at (digit_in_range c.from-digit.result r.0 r.1) in
    one_digit_more c.args.text.now c.args.value c.args.count _ c.requires.read c.requires.inside digit (ap (λ d. c.args.value * 10 + d) r.2 ∙ ap (λ b. c.args.value * 10 + (b - 48)) c.from-digit.ensures)
