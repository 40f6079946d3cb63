use Rattle.std.proofs.Common.{ap, ◌∙◌}
use Rattle.model_renaming.proofs.step.follow.Goals as goal

pub returns-clause-reply : goal.returns-clause-reply
returns-clause-reply g c = c.shorten.ensures ∙ ap (λ follow. follow.reply) c.followed-follow.ensures
