use Rattle.std.proofs.Common.{refl, arith}
use Rattle.text_lines.proofs.FrontLemmas.{alike-four}
use Rattle.text_lines.proofs.QuickLemmas.{rest_of-slice}
use Rattle.text_lines.proofs.front.alike_by_fours.Goals as goal

pub loop-at-preserved : goal.loop-at-preserved
loop-at-preserved c =
    let bytes = c.args.bytes.now in
    let front = c.args.front.now in
    let at = c.loop-at.at in
    alike-four bytes front at c.loop-at.invariant (omega (arith, c.loop-at-test.true, c.loop-at.invariant.within))
    ((rw (rest_of-slice bytes at, rest_of-slice front at) at c.if-not-begin_alike.ensures.yes) refl)
