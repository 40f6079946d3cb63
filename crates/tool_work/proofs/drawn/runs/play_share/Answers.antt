use Rattle.std.proofs.Common.{◌<◌, ◌+◌, length, sym, subst, ◌∙◌, arith}
use Rattle.std.proofs.lemmas.List.{length-set}
use Rattle.tool_work.specs.drawn.Runs.{IsReportedOf}
use Rattle.tool_work.proofs.drawn_lemmas.RunLemmas.{reported_if_made, reported_one_more}
use Rattle.tool_work.proofs.drawn.runs.play_share.Goals as goal

pub loop-i-preserved : goal.loop-i-preserved
loop-i-preserved g c =
    let i = c.loop-i.i in
    let inside : i < length c.loop-i.tallies = omega (arith, c.loop-i-test.true, c.loop-i.invariant.long) in
    let here : IsReportedOf c.args.config c.args.plan.seed c.args.plan.ids c.args.plan.steps (c.args.first + i) c.ok.result =
    subst (IsReportedOf c.args.config c.args.plan.seed c.args.plan.ids c.args.plan.steps (c.args.first + i)) (sym c.ok.ensures.value) (reported_if_made c.args.config c.args.plan.seed c.args.plan.ids c.args.plan.steps (c.args.first + i) c.play_in_arena.result c.play_in_arena.ensures.drawn) in
    record {
      long = length-set c.loop-i.tallies i c.ok.result ∙ c.loop-i.invariant.long;
      reported = reported_one_more c.args.config c.args.plan.seed c.args.plan.ids c.args.plan.steps c.args.first i c.loop-i.tallies c.ok.result inside here c.loop-i.invariant.reported;
    }
