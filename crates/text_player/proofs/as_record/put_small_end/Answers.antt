use Rattle.std.proofs.Common.{◌∙◌, ap, length, length-append, append_assoc, arith}
use Rattle.std.proofs.lemmas.Fmt.{decimal_digit}
use Rattle.text_lines.specs.lemmas.NumberProofs.{decimal_two}
use Rattle.text_player.proofs.as_record.put_small_end.Goals as goal

pub returns-then-number-lt10-clause-text : goal.returns-then-number-lt10-clause-text
returns-then-number-lt10-clause-text g c = rw (decimal_digit c.args.number c.if-number-lt10.true, c.put-then-number-lt10.ensures, c.put.ensures) (simp append_assoc)

pub returns-then-number-lt100-clause-text : goal.returns-then-number-lt100-clause-text
returns-then-number-lt100-clause-text g c = rw (decimal_two c.args.number c.if-number-lt10.false c.if-number-lt100.true, c.put-then-number-lt100.ensures, c.put.ensures) (simp append_assoc)

pub returns-else-number-lt100-clause-text : goal.returns-else-number-lt100-clause-text
returns-else-number-lt100-clause-text g c = c.put-else-number-lt100.ensures ∙ rw (c.put_number.ensures.text, c.from.ensures, c.put.ensures) (simp append_assoc)

pub returns-then-number-lt10-clause-len : goal.returns-then-number-lt10-clause-len
returns-then-number-lt10-clause-len g c =
    let front = ap length c.put.ensures ∙ length-append c.args.out.now c.args.front.now in
    let more = ap length c.put-then-number-lt10.ensures ∙ length-append c.put.new.self _ in
    omega arith

pub returns-then-number-lt100-clause-len : goal.returns-then-number-lt100-clause-len
returns-then-number-lt100-clause-len g c =
    let front = ap length c.put.ensures ∙ length-append c.args.out.now c.args.front.now in
    let more = ap length c.put-then-number-lt100.ensures ∙ length-append c.put.new.self _ in
    omega arith

pub returns-else-number-lt100-clause-len : goal.returns-else-number-lt100-clause-len
returns-else-number-lt100-clause-len g c =
    let front = ap length c.put.ensures ∙ length-append c.args.out.now c.args.front.now in
    let digits = c.put_number.ensures.len in
    let more = ap length c.put-else-number-lt100.ensures ∙ length-append c.put_number.new.out _ in
    omega arith
