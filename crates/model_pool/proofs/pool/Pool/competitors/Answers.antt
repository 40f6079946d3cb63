use Rattle.std.proofs.Common.{rules, ◌≡◌, sym, ap, ◌∙◌}
use Rattle.model_pool.specs.Competitors.{identities}
use Rattle.model_pool.proofs.cited.PoolKeeps.{tied_after}
use Rattle.model_pool.proofs.pool.Pool.competitors.Goals as goal

pub returns-clause-law : goal.returns-clause-law
returns-clause-law g c = λ start r a o is.
    let value : c.copy.new.out.items ≡ c.args.self.now.competitors = search rules in
    ap identities value ∙ sym (tied_after start c.args.self.now r o a is).competing
