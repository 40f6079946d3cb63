use Rattle.std.proofs.Common.{◌+◌, ◌-◌, ◌∷◌, [], arith}
use Rattle.tool_work.proofs.drawn_lemmas.Common.{Begin, begins_from}
use Rattle.tool_work.proofs.drawn_lemmas.RunLemmas.{begins_next, begins_none, plays_on}
use Rattle.tool_work.proofs.drawn.runs.take_begins.Goals as goal

pub loop-before-preserved : goal.loop-before-preserved
loop-before-preserved g c =
    let b = c.loop-before.before in
    let e = c.in_ok-take.ensures in
    let i = c.loop-before.invariant in
    record {
      on = plays_on (begins_from 1 c.args.ids) (Begin (b + 1) ∷ []) (begins_from (b + 1 + 1) (c.args.ids - (b + 1))) c.args.desk.now c.loop-before.desk c.take.new.desk c.args.tally.now c.loop-before.tally c.take.new.tally
          (rw (begins_next c.args.ids b c.loop-before-test.true) at i.on) e.on;
      begun = omega (arith, e.begun, i.begun);
      named = omega (arith, e.named, i.named);
      spent = omega (arith, e.spent, i.spent);
    }

pub returns-clause-on : goal.returns-clause-on
returns-clause-on g c = rw (begins_none c.args.ids c.loop-before.before (omega arith)) at c.loop-before.invariant.on
