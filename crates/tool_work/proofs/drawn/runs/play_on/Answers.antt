use Rattle.tool_work.proofs.drawn_lemmas.RunLemmas.{whole_run}
use Rattle.tool_work.proofs.drawn.runs.play_on.Goals as goal

pub returns-clause-drawn : goal.returns-clause-drawn
returns-clause-drawn g c config fresh =
    whole_run config c.args.plan.seed c.args.plan.ids c.args.plan.steps c.args.desk.now c.take_begins.new.desk c.take_steps.new.desk c.new-tally.result c.take_begins.new.tally c.take_steps.new.tally
    fresh c.new-tally.ensures c.in_ok-take_begins.ensures.on c.in_ok-take_steps.ensures.on
