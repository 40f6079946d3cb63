use Rattle.std.proofs.Common.{rules, ◌≡◌}
use Rattle.model_pool.specs.Competitors.{holder_in}
use Rattle.model_pool.proofs.cited.PoolKeeps.{holder_after}
use Rattle.model_pool.proofs.pool.Pool.holder_of.Goals as goal

pub returns-clause-law : goal.returns-clause-law
returns-clause-law g c = λ size r a o is.
    let value : c.holder.result ≡ holder_in c.args.number c.args.self.now.competitors = search rules in
    rw value (holder_after size c.args.self.now r o a is c.args.number)
