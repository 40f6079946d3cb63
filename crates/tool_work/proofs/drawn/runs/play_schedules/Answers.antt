use Rattle.std.proofs.Common.{◌≡◌, [], Err, refl, arith}
use Rattle.tool_work.proofs.drawn_lemmas.Common.{on_ok_weaker, on_err_weaker, Appends, IsUnderWay, HasPartOf}
use Rattle.tool_work.proofs.drawn_lemmas.RunLemmas.{no_run_yet, one_run_more, reported_otherwise}
use Rattle.tool_work.proofs.drawn_lemmas.ResultLemmas.{handed_on, none_drawn, on_ok_both, told_last, told_memory}
use Rattle.tool_work.proofs.drawn_lemmas.UnderWayLemmas.{at_last, part_written}
use Rattle.tool_work.proofs.drawn.runs.play_schedules.Goals as goal

pub returns-in_default : goal.returns-in_default
returns-in_default g c = none_drawn g.W.Write.contents g.W.Sink.failed c.args.config c.args.plan.seed c.args.plan.ids c.args.plan.steps c.args.runs c.args.writer.now

pub returns-in_default-new : goal.returns-in_default-new
returns-in_default-new g c = none_drawn g.W.Write.contents g.W.Sink.failed c.args.config c.args.plan.seed c.args.plan.ids c.args.plan.steps c.args.runs c.args.writer.now

pub loop-run-init : goal.loop-run-init
loop-run-init g c = record {
  drawn = no_run_yet c.args.config c.args.plan.seed c.args.plan.ids c.args.plan.steps (g.W.Write.contents c.args.writer.now) c.in-Ok-new.held c.in-Ok-new.ensures;
  unfailed = refl;
  calls = (let none = c.in-Ok-new.ensures in rw none (omega arith));
}

pub returns-in_err-tally : goal.returns-in_err-tally
returns-in_err-tally g c =
    let fault = handed_on c.from_residual.result c.in_err-tally.field-0.0 c.from_residual.ensures.1 in
    let old = g.W.Write.contents c.args.writer.now in
    let now = g.W.Write.contents c.loop-run.writer in
    let held = c.loop-run.held in
    rw fault (record {
      ok = tt;
      part = (
        c.loop-run.run,
        omega (arith, c.loop-run-test.true),
        reported_otherwise c.args.config c.args.plan.seed c.args.plan.ids c.args.plan.steps c.loop-run.run (λ text. IsUnderWay text old now held []) (HasPartOf old now) c.loop-run.invariant.drawn (λ text way. part_written text old now held [] way),
      );
      told = told_memory _ _ c.in_err-tally.field-0.0 c.in_err-tally.ensures.only c.loop-run.invariant.unfailed;
    })

pub returns-in_err-make_room : goal.returns-in_err-make_room
returns-in_err-make_room g c =
    let fault = handed_on c.from_residual-in_err-make_room.result c.in_err-make_room.field-0.0 c.from_residual-in_err-make_room.ensures.1 in
    let old = g.W.Write.contents c.args.writer.now in
    let mid = g.W.Write.contents c.loop-run.writer in
    let now = g.W.Write.contents c.make_room.new.writer in
    let held = c.loop-run.held in
    rw fault (record {
      ok = tt;
      part = (
        c.loop-run.run,
        omega (arith, c.loop-run-test.true),
        reported_otherwise c.args.config c.args.plan.seed c.args.plan.ids c.args.plan.steps c.loop-run.run (λ text. IsUnderWay text old mid held []) (HasPartOf old now) c.loop-run.invariant.drawn
            (λ text way. c.in_err-make_room.ensures.within text [] old way),
      );
      told = told_last _ (g.W.Sink.failed c.loop-run.writer) _ (Err c.in_err-make_room.field-0.0) c.loop-run.invariant.unfailed c.in_err-make_room.ensures.only c.in_err-make_room.ensures.failed tt;
    })

pub loop-run-preserved : goal.loop-run-preserved
loop-run-preserved g c =
    let old = g.W.Write.contents c.args.writer.now in
    let mid = g.W.Write.contents c.loop-run.writer in
    let now = g.W.Write.contents c.make_room.new.writer in
    let e = c.in_ok-make_room.ensures in
    let i = c.loop-run.invariant in
    let made = c.in_ok-tally.ensures.drawn in
    let so_far = reported_otherwise c.args.config c.args.plan.seed c.args.plan.ids c.args.plan.steps c.loop-run.run (λ text. IsUnderWay text old mid c.loop-run.held []) (λ text. IsUnderWay text old now c.make_room.new.self []) i.drawn
    (λ text way. e.on text [] old way) in
    record {
      drawn = one_run_more c.args.config c.args.plan.seed c.args.plan.ids c.args.plan.steps c.loop-run.run old now c.make_room.new.self c.put_run.new.held made.0 c.in_ok-tally.tally so_far made.1 made.2 c.put_run.ensures.text;
      unfailed = omega (arith, e.unfailed, i.unfailed);
      calls = omega (arith, e.calls, i.calls, c.put_run.ensures.short);
    }

pub returns : goal.returns
returns g c =
    let old = g.W.Write.contents c.args.writer.now in
    let mid = g.W.Write.contents c.loop-run.writer in
    let now = g.W.Write.contents c.send.new.writer in
    let seed = c.args.plan.seed in
    let ids = c.args.plan.ids in
    let steps = c.args.plan.steps in
    let all : c.loop-run.run ≡ c.args.runs = omega arith in
    let drawn = rw all at c.loop-run.invariant.drawn in
    record {
      ok = on_ok_weaker c.send.result
          (λ both. reported_otherwise c.args.config seed ids steps c.args.runs (λ text. IsUnderWay text old mid c.loop-run.held []) (Appends old now) drawn
          (λ text way. at_last text old now (rw both.1 at (both.0 text [] old way))))
          (on_ok_both _ _ c.send.result c.send.ensures.on c.send.ensures.empty);
      part = on_err_weaker c.send.result
          (λ within. (
            c.loop-run.run,
            omega arith,
            reported_otherwise c.args.config seed ids steps c.loop-run.run (λ text. IsUnderWay text old mid c.loop-run.held []) (HasPartOf old now) c.loop-run.invariant.drawn (λ text way. within text [] old way),
          ))
          c.send.ensures.within;
      told = told_last _ (g.W.Sink.failed c.loop-run.writer) _ c.send.result c.loop-run.invariant.unfailed c.send.ensures.only c.send.ensures.failed c.send.ensures.unfailed;
    }
