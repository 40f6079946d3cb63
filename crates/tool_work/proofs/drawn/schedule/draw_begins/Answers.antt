use Rattle.std.proofs.Common.{◌+◌, ◌-◌, ◌∷◌, [], ◌++◌, arith}
use Rattle.tool_work.proofs.drawn_lemmas.Common.{Begin, begins_from, event_words, event_lines}
use Rattle.tool_work.proofs.drawn_lemmas.ScheduleLemmas.{begins_more}
use Rattle.tool_work.proofs.drawn_lemmas.UnderWayLemmas.{goes_on, stops}
use Rattle.tool_work.proofs.drawn_lemmas.ResultLemmas.{handed_on}
use Rattle.tool_work.proofs.drawn.schedule.draw_begins.Goals as goal

pub returns-in_err-put_line-clause-within : goal.returns-in_err-put_line-clause-within
returns-in_err-put_line-clause-within g c =
    let fault = handed_on c.from_residual.result c.in_err-put_line.field-0.0 c.from_residual.ensures.1 in
    let b = c.loop-before.before in
    rw fault (stops (event_lines (begins_from 1 c.args.ids)) (g.W.Write.contents c.args.writer.now) c.args.held.now (g.W.Write.contents c.loop-before.writer) c.loop-before.held
    (event_words (Begin (b + 1)) ++ 10 ∷ []) (event_lines (begins_from (b + 1 + 1) (c.args.ids - (b + 1)))) (g.W.Write.contents c.put_line.new.writer)
    (rw (begins_more c.args.ids b c.loop-before-test.true) at c.loop-before.invariant.on) c.in_err-put_line.ensures.within)

pub loop-before-preserved : goal.loop-before-preserved
loop-before-preserved g c =
    let b = c.loop-before.before in
    let e = c.in_ok-put_line.ensures in
    let i = c.loop-before.invariant in
    record {
      on = goes_on (event_lines (begins_from 1 c.args.ids)) (g.W.Write.contents c.args.writer.now) c.args.held.now (g.W.Write.contents c.loop-before.writer) c.loop-before.held
          (event_words (Begin (b + 1)) ++ 10 ∷ []) (event_lines (begins_from (b + 1 + 1) (c.args.ids - (b + 1)))) (g.W.Write.contents c.put_line.new.writer) c.put_line.new.held
          (rw (begins_more c.args.ids b c.loop-before-test.true) at i.on) e.on;
      unfailed = omega (arith, e.unfailed, i.unfailed);
      calls = omega (arith, e.calls, i.calls);
    }
