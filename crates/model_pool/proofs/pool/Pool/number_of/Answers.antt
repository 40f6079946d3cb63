use Rattle.std.proofs.Common.{Some, sym, ap, ◌∙◌}
use Rattle.model_pool.specs.Pool.{number_by}
use Rattle.model_pool.proofs.cited.PoolKeeps.{number_after}
use Rattle.model_pool.proofs.pool.Pool.number_of.Goals as goal

pub returns-in-None-clause-law : goal.returns-in-None-clause-law
returns-in-None-clause-law g c = λ size r a o is. ap number_by c.in-None.ensures.stay ∙ number_after size c.args.self.now r o a is c.args.id

pub returns-in-Some-Seeking-clause-law : goal.returns-in-Some-Seeking-clause-law
returns-in-Some-Seeking-clause-law g c = λ size r a o is. sym (ap (λ s. number_by (Some s)) c.in-Some-Seeking.field-0-is) ∙ ap number_by c.in-Some-Seeking.ensures.stay ∙ number_after size c.args.self.now r o a is c.args.id

pub returns-in-Some-Settled-clause-law : goal.returns-in-Some-Settled-clause-law
returns-in-Some-Settled-clause-law g c = λ size r a o is. sym (ap (λ s. number_by (Some s)) c.in-Some-Settled.field-0-is) ∙ ap number_by c.in-Some-Settled.ensures.stay ∙ number_after size c.args.self.now r o a is c.args.id
