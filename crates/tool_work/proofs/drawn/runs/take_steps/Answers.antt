use Rattle.std.proofs.Common.{◌+◌, ◌-◌, ◌%◌, ◌∷◌, [], arith}
use Rattle.tool_work.proofs.drawn_lemmas.Common.{Step, pcg32, opened, steps_drawn}
use Rattle.tool_work.proofs.drawn_lemmas.RunLemmas.{steps_next, steps_none, plays_on}
use Rattle.tool_work.proofs.drawn.runs.take_steps.Goals as goal

pub loop-done-preserved : goal.loop-done-preserved
loop-done-preserved g c =
    let k = c.loop-done._done in
    let words = c.loop-done.words in
    let e = c.in_ok-take.ensures in
    let i = c.loop-done.invariant in
    record {
      on = rw c.draw_one.ensures.step (plays_on (steps_drawn c.args.plan.ids c.args.plan.steps (opened c.args.plan.seed)) (Step (1 + (pcg32 words).0 % c.args.plan.ids) ∷ []) (steps_drawn c.args.plan.ids (c.args.plan.steps - (k + 1)) (pcg32 words).1)
          c.args.desk.now c.loop-done.desk c.take.new.desk c.args.tally.now c.loop-done.tally c.take.new.tally
          (rw (steps_next c.args.plan.ids c.args.plan.steps k words c.loop-done-test.true) at i.on) (rw c.draw_one.ensures.word at e.on));
      begun = omega (arith, e.begun, i.begun);
      named = omega (arith, e.named, i.named);
      spent = omega (arith, e.spent, i.spent);
    }

pub returns-clause-on : goal.returns-clause-on
returns-clause-on g c = rw (steps_none c.args.plan.ids c.args.plan.steps c.loop-done._done c.loop-done.words (omega arith)) at c.loop-done.invariant.on
