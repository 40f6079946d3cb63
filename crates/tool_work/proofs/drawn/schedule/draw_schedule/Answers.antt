use Rattle.std.proofs.Common.{◌++◌, [], inl, arith}
use Rattle.tool_work.proofs.drawn_lemmas.Common.{on_ok_weaker, begins_from, opened, steps_drawn, event_lines, IsUnderWay}
use Rattle.text_lines.specs.declared.fault.Fault.TheVariants.{Write}
use Rattle.tool_work.proofs.drawn_lemmas.ScheduleLemmas.{schedule_lines}
use Rattle.tool_work.proofs.drawn_lemmas.ResultLemmas.{handed_on, on_ok_both, on_err_at}
use Rattle.tool_work.proofs.drawn_lemmas.UnderWayLemmas.{at_first, at_last, second_half}
use Rattle.tool_work.proofs.drawn.schedule.draw_schedule.Goals as goal

pub returns-in_err-draw_begins : goal.returns-in_err-draw_begins
returns-in_err-draw_begins g c =
    let e = c.in_err-draw_begins.ensures in
    let fault = handed_on c.from_residual.result c.in_err-draw_begins.field-0.0 c.from_residual.ensures.1 in
    let old = g.W.Write.contents c.args.writer.now in
    let begins = event_lines (begins_from 1 c.args.plan.ids) in
    let steps = event_lines (steps_drawn c.args.plan.ids c.args.plan.steps (opened c.args.plan.seed)) in
    let way : IsUnderWay (begins ++ steps) old old c.in-Ok.held (begins ++ steps) = rw c.in-Ok.ensures (at_first (begins ++ steps) old) in
    rw fault (record {
      ok = tt;
      unfailed = tt;
      part = λ is. rw (schedule_lines c.args.plan.seed c.args.plan.ids c.args.plan.steps) (e.within (begins ++ steps) steps old way);
      failed = λ is. e.failed;
      memory = λ is. absurd (let write = e.only in cc);
      only = inl e.only;
    })

pub returns-in_err-draw_steps : goal.returns-in_err-draw_steps
returns-in_err-draw_steps g c =
    let e = c.in_err-draw_steps.ensures in
    let fault = handed_on c.from_residual-in_err-draw_steps.result c.in_err-draw_steps.field-0.0 c.from_residual-in_err-draw_steps.ensures.1 in
    let old = g.W.Write.contents c.args.writer.now in
    let begins = event_lines (begins_from 1 c.args.plan.ids) in
    let steps = event_lines (steps_drawn c.args.plan.ids c.args.plan.steps (opened c.args.plan.seed)) in
    let come = second_half begins steps old (g.W.Write.contents c.draw_begins.new.writer) c.in-Ok.held c.draw_begins.new.held c.in-Ok.ensures c.in_ok-draw_begins.ensures.on in
    rw fault (record {
      ok = tt;
      unfailed = tt;
      part = λ is. rw (schedule_lines c.args.plan.seed c.args.plan.ids c.args.plan.steps) (e.within (begins ++ steps) [] old come);
      failed = λ is. omega (arith, e.failed, c.in_ok-draw_begins.ensures.unfailed);
      memory = λ is. absurd (let write = e.only in cc);
      only = inl e.only;
    })

pub returns-clause-ok : goal.returns-clause-ok
returns-clause-ok g c =
    let old = g.W.Write.contents c.args.writer.now in
    let begins = event_lines (begins_from 1 c.args.plan.ids) in
    let steps = event_lines (steps_drawn c.args.plan.ids c.args.plan.steps (opened c.args.plan.seed)) in
    let come = second_half begins steps old (g.W.Write.contents c.draw_begins.new.writer) c.in-Ok.held c.draw_begins.new.held c.in-Ok.ensures c.in_ok-draw_begins.ensures.on in
    let on = c.in_ok-draw_steps.ensures.on in
    let done = on (begins ++ steps) [] old come in
    rw (schedule_lines c.args.plan.seed c.args.plan.ids c.args.plan.steps)
    (on_ok_weaker c.send.result (λ both. at_last (begins ++ steps) old (g.W.Write.contents c.send.new.writer) (rw both.1 at (both.0 (begins ++ steps) [] old done)))
    (on_ok_both _ _ c.send.result c.send.ensures.on c.send.ensures.empty))

pub returns-clause-part : goal.returns-clause-part
returns-clause-part g c = λ is.
    (let old = g.W.Write.contents c.args.writer.now in
    let begins = event_lines (begins_from 1 c.args.plan.ids) in
    let steps = event_lines (steps_drawn c.args.plan.ids c.args.plan.steps (opened c.args.plan.seed)) in
    let come = second_half begins steps old (g.W.Write.contents c.draw_begins.new.writer) c.in-Ok.held c.draw_begins.new.held c.in-Ok.ensures c.in_ok-draw_begins.ensures.on in
    let on = c.in_ok-draw_steps.ensures.on in
    let done = on (begins ++ steps) [] old come in
    rw (schedule_lines c.args.plan.seed c.args.plan.ids c.args.plan.steps) (on_err_at _ c.send.result Write is c.send.ensures.within (begins ++ steps) [] old done))

pub returns-clause-unfailed : goal.returns-clause-unfailed
returns-clause-unfailed g c = on_ok_weaker c.send.result (λ u. omega (arith, u, c.in_ok-draw_steps.ensures.unfailed, c.in_ok-draw_begins.ensures.unfailed)) c.send.ensures.unfailed

pub returns-clause-failed : goal.returns-clause-failed
returns-clause-failed g c = λ is.
    (let more = on_err_at _ c.send.result Write is c.send.ensures.failed in
    omega (arith, more, c.in_ok-draw_steps.ensures.unfailed, c.in_ok-draw_begins.ensures.unfailed))
