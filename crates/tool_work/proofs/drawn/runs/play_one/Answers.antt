use Rattle.tool_work.proofs.drawn.runs.play_one.Goals as goal

pub returns-clause-drawn : goal.returns-clause-drawn
returns-clause-drawn g c = c.play_on-tally.ensures.drawn c.args.config c.in-Ok.ensures.fresh
