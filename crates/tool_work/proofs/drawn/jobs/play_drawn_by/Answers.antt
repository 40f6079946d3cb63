use Rattle.std.proofs.Common.{◌∙◌, ℕ, subst, sym, arith}
use Rattle.tool_work.proofs.drawn_lemmas.Common.{on_ok_weaker, on_err_weaker, Appends}
use Rattle.tool_work.proofs.drawn_lemmas.ResultLemmas.{none_drawn}
use Rattle.tool_work.proofs.drawn_lemmas.RunLemmas.{written_all}
use Rattle.tool_work.specs.drawn.Runs.{AreReported, HasDrawn, HasDrawnPart}
use Rattle.tool_work.proofs.drawn.jobs.play_drawn_by.Goals as goal
use Rattle.tool_work.proofs.drawn.jobs.play_drawn_by.Goals.{After-drop-tallies}

pub returns-then-jobs-eq1 : goal.returns-then-jobs-eq1
returns-then-jobs-eq1 g c = c.play_schedules.ensures

pub returns-in_default : goal.returns-in_default
returns-in_default g c = none_drawn g.W.Write.contents g.W.Sink.failed c.args.config c.args.plan.seed c.args.plan.ids c.args.plan.steps c.args.runs c.args.writer.now

-- the numbers that were put into their places are those that are written
reported : (g : _) (c : After-drop-tallies g) → AreReported c.args.config c.args.plan.seed c.args.plan.ids c.args.plan.steps c.as_slice.result.now
reported g c =
    let many = c.play_shares.ensures.len in
    let all = c.as_slice.ensures.value ∙ written_all c.in-Ok.tallies.len c.play_shares.new.tallies _ (many ∙ c.as_mut_slice.ensures.len) in
    subst (AreReported c.args.config c.args.plan.seed c.args.plan.ids c.args.plan.steps) (sym all) (λ i d low. c.play_shares.ensures.reported i d (omega (arith, low, many)))

pub returns : goal.returns
returns g c =
    let seed = c.args.plan.seed in
    let ids = c.args.plan.ids in
    let steps = c.args.plan.steps in
    let many = c.as_slice.ensures.len ∙ c.in-Ok.ensures.len in
    let all = reported g (goal.at.returns g c).After-drop-tallies in
    record {
      ok = on_ok_weaker c.write_tallies.result
          (λ ok. subst (λ (k : ℕ). HasDrawn c.args.config seed ids steps k (Appends (g.W.Write.contents c.args.writer.now) (g.W.Write.contents c.write_tallies.new.writer))) many (ok c.args.config seed ids steps all))
          c.write_tallies.ensures.ok;
      part = on_err_weaker c.write_tallies.result
          (λ part. subst (λ (k : ℕ). HasDrawnPart c.args.config seed ids steps k (g.W.Write.contents c.args.writer.now) (g.W.Write.contents c.write_tallies.new.writer)) many (part c.args.config seed ids steps all))
          c.write_tallies.ensures.part;
      told = c.write_tallies.ensures.told;
    }
