use Rattle.std.proofs.Common.{◌+◌, ◌-◌, ◌%◌, ◌∷◌, [], ◌++◌, arith}
use Rattle.tool_work.proofs.drawn_lemmas.Common.{Step, pcg32, opened, steps_drawn, event_words, event_lines}
use Rattle.tool_work.proofs.drawn_lemmas.ScheduleLemmas.{steps_more}
use Rattle.tool_work.proofs.drawn_lemmas.UnderWayLemmas.{goes_on, stops}
use Rattle.tool_work.proofs.drawn_lemmas.ResultLemmas.{handed_on}
use Rattle.tool_work.proofs.drawn.schedule.draw_steps.Goals as goal

pub returns-in_err-put_line-clause-within : goal.returns-in_err-put_line-clause-within
returns-in_err-put_line-clause-within g c =
    let fault = handed_on c.from_residual.result c.in_err-put_line.field-0.0 c.from_residual.ensures.1 in
    let k = c.loop-done._done in
    let words = c.loop-done.words in
    rw fault (stops (event_lines (steps_drawn c.args.plan.ids c.args.plan.steps (opened c.args.plan.seed))) (g.W.Write.contents c.args.writer.now) c.args.held.now (g.W.Write.contents c.loop-done.writer) c.loop-done.held
    (event_words (Step (1 + (pcg32 words).0 % c.args.plan.ids)) ++ 10 ∷ []) (event_lines (steps_drawn c.args.plan.ids (c.args.plan.steps - (k + 1)) (pcg32 words).1)) (g.W.Write.contents c.put_line.new.writer)
    (rw (steps_more c.args.plan.ids c.args.plan.steps k words c.loop-done-test.true) at c.loop-done.invariant.on) (rw c.draw_one.ensures.word at c.in_err-put_line.ensures.within))

pub loop-done-preserved : goal.loop-done-preserved
loop-done-preserved g c =
    let k = c.loop-done._done in
    let words = c.loop-done.words in
    let e = c.in_ok-put_line.ensures in
    let i = c.loop-done.invariant in
    record {
      on = rw c.draw_one.ensures.step (goes_on (event_lines (steps_drawn c.args.plan.ids c.args.plan.steps (opened c.args.plan.seed))) (g.W.Write.contents c.args.writer.now) c.args.held.now (g.W.Write.contents c.loop-done.writer) c.loop-done.held
          (event_words (Step (1 + (pcg32 words).0 % c.args.plan.ids)) ++ 10 ∷ []) (event_lines (steps_drawn c.args.plan.ids (c.args.plan.steps - (k + 1)) (pcg32 words).1)) (g.W.Write.contents c.put_line.new.writer) c.put_line.new.held
          (rw (steps_more c.args.plan.ids c.args.plan.steps k words c.loop-done-test.true) at i.on) (rw c.draw_one.ensures.word at e.on));
      unfailed = omega (arith, e.unfailed, i.unfailed);
      calls = omega (arith, e.calls, i.calls);
    }
