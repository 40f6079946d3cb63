use Rattle.std.proofs.Common.{◌∙◌}
use Rattle.model_steps.proofs.cited.ParticipantLemmas.{asked_anything}
use Rattle.model_steps.proofs.world.World.set.Goals as goal

pub returns-clause-after : goal.returns-clause-after
returns-clause-after g c = c.ask.ensures.after ∙ asked_anything c.args.self.now c.args.id c.args.program
