use Rattle.std.proofs.Common.{◌<◌, length, arith}
use Rattle.model_steps.proofs.cited.ViewLemmas.{replaced_here, ahead_next}
use Rattle.model_steps.proofs.view.replace_in.Goals as goal

pub returns-then-pairs-i : goal.returns-then-pairs-i
returns-then-pairs-i c =
    let inside : c.loop-i.i < length c.args.pairs.now = omega (arith, c.loop-i.auto.pairs) in
    rw c.loop-i.invariant.same (replaced_here c.args.pairs.now c.loop-i.i c.args.pair inside c.loop-i.invariant.ahead (rw c.loop-i.invariant.same at c.if-pairs-i.true))

pub loop-i-preserved : goal.loop-i-preserved
loop-i-preserved c = record {
  same = c.loop-i.invariant.same;
  ahead = ahead_next c.args.pairs.now c.loop-i.i c.args.pair (omega (arith, c.loop-i.auto.pairs)) c.loop-i.invariant.ahead c.requires.rising (rw c.loop-i.invariant.same at c.if-pairs-i.false);
}
