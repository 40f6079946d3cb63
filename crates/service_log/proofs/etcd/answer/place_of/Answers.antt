-- Each digit makes the number ten times as great.
use Rattle.std.proofs.Common.{rules, ◌≡◌, true, add-one, arith}
use Rattle.std.specs.Char.{is_ascii_digit}
use Rattle.std.specs.List.{list_all}
use Rattle.service_log.proofs.etcd_lemmas.KeyDigits.{goes_on_by, says_place}
use Rattle.service_log.proofs.etcd.answer.place_of.Goals as goal

pub overflow_mul-place : goal.overflow_mul-place
overflow_mul-place c =
    let all : list_all is_ascii_digit c.args.digits.now ≡ true = search rules in
    let more = goes_on_by c.args.digits.now c.loop-digit.digit-index c.loop-digit.place c.if-digits-ne16.false c.loop-digit-test.true all c.loop-digit.invariant.0 c.loop-digit.invariant.1 in
    omega (arith, more.small)

pub overflow_add-place : goal.overflow_add-place
overflow_add-place c =
    let all : list_all is_ascii_digit c.args.digits.now ≡ true = search rules in
    let more = goes_on_by c.args.digits.now c.loop-digit.digit-index c.loop-digit.place c.if-digits-ne16.false c.loop-digit-test.true all c.loop-digit.invariant.0 c.loop-digit.invariant.1 in
    omega (arith, more.small, c.from.ensures)

pub loop-digit-preserved : goal.loop-digit-preserved
loop-digit-preserved c =
    let all : list_all is_ascii_digit c.args.digits.now ≡ true = search rules in
    let more = goes_on_by c.args.digits.now c.loop-digit.digit-index c.loop-digit.place c.if-digits-ne16.false c.loop-digit-test.true all c.loop-digit.invariant.0 c.loop-digit.invariant.1 in
    let is = c.from.ensures in
    rw (add-one, is) (more.more, more.below)

pub returns : goal.returns
returns c =
    let all : list_all is_ascii_digit c.args.digits.now ≡ true = search rules in
    says_place c.args.digits.now c.loop-digit.digit-index c.loop-digit.place c.if-digits-ne16.false all c.loop-digit-test.false c.loop-digit.invariant.0
