use Rattle.std.proofs.Common.{sym, ap, ◌∙◌}
use Rattle.model_renaming.specs.RenameWorld.{refusal_by}
use Rattle.model_renaming.proofs.rounds.StepCases.{round_at, absent_round}
use Rattle.model_renaming.proofs.world.open_round.Goals as goal

pub returns-in_default-clause-closed : goal.returns-in_default-clause-closed
returns-in_default-clause-closed c = ap refusal_by (absent_round c.args.id c.args.rounds.now c.in_default.ensures.answer)

pub returns-in-None-clause-ready : goal.returns-in-None-clause-ready
returns-in-None-clause-ready c = (c.in-Some.ensures.answer, ap refusal_by (round_at c.args.id c.args.rounds.now c.in-Some.i _ c.in-Some.ensures.answer) ∙ sym c.in-None.ensures)

pub returns-in-Some-refusal-clause-closed : goal.returns-in-Some-refusal-clause-closed
returns-in-Some-refusal-clause-closed c = ap refusal_by (round_at c.args.id c.args.rounds.now c.in-Some.i _ c.in-Some.ensures.answer) ∙ sym c.in-Some-refusal.ensures
