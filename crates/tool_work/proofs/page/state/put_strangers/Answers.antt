use Rattle.std.proofs.Common.{◌∙◌, append_assoc}
use Rattle.tool_work.proofs.page_lemmas.Common.{Competitor, stranger}
use Rattle.model_pool.specs.declared.stay.Stay.TheVariants.{Seeking}
use Rattle.tool_work.proofs.page_lemmas.PageLemmas.{flat_more}
use Rattle.tool_work.proofs.page.state.put_strangers.Goals as goal

pub loop-competitor-preserved : goal.loop-competitor-preserved
loop-competitor-preserved c =
    let none : Competitor = record { identity = 0; stay = Seeking 0 } in
    let more = flat_more (stranger c.args.form c.args.desk.now) c.args.competitors.now c.loop-competitor.competitor-index none c.loop-competitor-test.true in
    c.in_ok-put_stranger.ensures ∙ rw (more, c.loop-competitor.invariant) (simp append_assoc)
