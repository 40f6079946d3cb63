use Rattle.std.proofs.Common.{sym, ap, ◌∙◌}
use Rattle.model_renaming.proofs.Common.{name_by}
use Rattle.model_renaming.proofs.rounds.StepCases.{round_at, absent_round}
use Rattle.model_renaming.proofs.world.name_among.Goals as goal

pub returns-in_default : goal.returns-in_default
returns-in_default c = sym (ap name_by (absent_round c.args.id c.args.rounds.now c.in_default.ensures.answer))

pub returns : goal.returns
returns c = c.name.ensures ∙ sym (ap name_by (round_at c.args.id c.args.rounds.now c.in-Some.i _ c.in-Some.ensures.answer))
