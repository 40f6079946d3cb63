use Rattle.std.proofs.Common.{◌∙◌, arith}
use Rattle.service_loop.proofs.FeedLemmas.{lines_on}
use Rattle.service_loop.proofs.watch_line.put_lines.Goals as goal

pub loop-change-preserved : goal.loop-change-preserved
loop-change-preserved g c = record {
  text = c.put_change.ensures.text ∙ lines_on c.args.out.now c.loop-change.out c.args.changes.now c.loop-change.change-index _ c.loop-change.invariant.text c.loop-change-test.true;
  short = omega (arith, c.put_change.ensures.short, c.loop-change.invariant.short);
}
