use Rattle.std.proofs.Common.{◌≡◌, [], refl, arith, length, subst}
use Rattle.tool_work.proofs.drawn_lemmas.Common.{on_ok_weaker, on_err_weaker, Appends, IsUnderWay, HasPartOf, IsReportedOf}
use Rattle.tool_work.proofs.drawn_lemmas.RunLemmas.{no_run_yet, one_run_more, reported_otherwise}
use Rattle.tool_work.proofs.drawn_lemmas.ResultLemmas.{handed_on, on_ok_both}
use Rattle.tool_work.proofs.drawn_lemmas.UnderWayLemmas.{at_last, part_written}
use Rattle.tool_work.proofs.drawn.runs.write_tallies.Goals as goal

pub loop-run-init : goal.loop-run-init
loop-run-init g c = record {
  drawn = λ config seed ids n reported. no_run_yet config seed ids n (g.W.Write.contents c.args.writer.now) c.in-Ok.held c.in-Ok.ensures;
  unfailed = refl;
  calls = (let none = c.in-Ok.ensures in rw none (omega arith));
}

pub returns-in_default-tallies-clause-part : goal.returns-in_default-tallies-clause-part
returns-in_default-tallies-clause-part g c = λ config seed ids n reported.
    (let old = g.W.Write.contents c.args.writer.now in
    let now = g.W.Write.contents c.loop-run.writer in (
      c.loop-run.run,
      omega (arith, c.loop-run-test.true),
      reported_otherwise config seed ids n c.loop-run.run (λ text. IsUnderWay text old now c.loop-run.held []) (HasPartOf old now) (c.loop-run.invariant.drawn config seed ids n reported) (λ text way. part_written text old now c.loop-run.held [] way),
    ))

pub returns-in_err-make_room-clause-part : goal.returns-in_err-make_room-clause-part
returns-in_err-make_room-clause-part g c =
    let fault = handed_on c.from_residual.result c.in_err-make_room.field-0.0 c.from_residual.ensures.1 in
    let old = g.W.Write.contents c.args.writer.now in
    let mid = g.W.Write.contents c.loop-run.writer in
    let now = g.W.Write.contents c.make_room.new.writer in
    rw fault (λ config seed ids n reported. (
      c.loop-run.run,
      omega (arith, c.loop-run-test.true),
      reported_otherwise config seed ids n c.loop-run.run (λ text. IsUnderWay text old mid c.loop-run.held []) (HasPartOf old now) (c.loop-run.invariant.drawn config seed ids n reported)
          (λ text way. c.in_err-make_room.ensures.within text [] old way),
    ))

pub loop-run-preserved : goal.loop-run-preserved
loop-run-preserved g c =
    let old = g.W.Write.contents c.args.writer.now in
    let mid = g.W.Write.contents c.loop-run.writer in
    let now = g.W.Write.contents c.make_room.new.writer in
    let e = c.in_ok-make_room.ensures in
    let i = c.loop-run.invariant in
    record {
      drawn = λ config seed ids n reported.
          (let made = subst (IsReportedOf config seed ids n c.loop-run.run) c.in-Some.is (reported c.loop-run.run _ c.loop-run-test.true) in
          let so_far = reported_otherwise config seed ids n c.loop-run.run (λ text. IsUnderWay text old mid c.loop-run.held []) (λ text. IsUnderWay text old now c.make_room.new.self []) (i.drawn config seed ids n reported)
          (λ text way. e.on text [] old way) in
          one_run_more config seed ids n c.loop-run.run old now c.make_room.new.self c.put_run.new.held made.0 c.in-Some.tally so_far made.1 made.2 c.put_run.ensures.text);
      unfailed = omega (arith, e.unfailed, i.unfailed);
      calls = omega (arith, e.calls, i.calls, c.put_run.ensures.short);
    }

pub returns-clause-ok : goal.returns-clause-ok
returns-clause-ok g c =
    let old = g.W.Write.contents c.args.writer.now in
    let mid = g.W.Write.contents c.loop-run.writer in
    let now = g.W.Write.contents c.send.new.writer in
    let all : c.loop-run.run ≡ length c.args.tallies.now = omega arith in
    on_ok_weaker c.send.result
    (λ both. λ config seed ids n reported. reported_otherwise config seed ids n (length c.args.tallies.now) (λ text. IsUnderWay text old mid c.loop-run.held []) (Appends old now) (rw all at (c.loop-run.invariant.drawn config seed ids n reported))
    (λ text way. at_last text old now (rw both.1 at (both.0 text [] old way))))
    (on_ok_both _ _ c.send.result c.send.ensures.on c.send.ensures.empty)

pub returns-clause-part : goal.returns-clause-part
returns-clause-part g c =
    let old = g.W.Write.contents c.args.writer.now in
    let mid = g.W.Write.contents c.loop-run.writer in
    let now = g.W.Write.contents c.send.new.writer in
    on_err_weaker c.send.result
    (λ within. λ config seed ids n reported. (
      c.loop-run.run,
      omega arith,
      reported_otherwise config seed ids n c.loop-run.run (λ text. IsUnderWay text old mid c.loop-run.held []) (HasPartOf old now) (c.loop-run.invariant.drawn config seed ids n reported)
          (λ text way. within text [] old way),
    ))
    c.send.ensures.within
