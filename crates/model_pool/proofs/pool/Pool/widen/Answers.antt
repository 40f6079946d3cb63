use Rattle.std.proofs.Common.{rules, Ok, Err}
use Rattle.model_pool.specs.Calls.Call.{Widened}
use Rattle.model_pool.proofs.cited.PoolKeeps.{pool_law, pool_proved}
use Rattle.model_pool.proofs.pool.Pool.widen.Goals as goal

pub returns-in-Some-clause-after : goal.returns-in-Some-clause-after
returns-in-Some-clause-after g c = pool_proved.call c.args.self.now c.args.self.now (Widened c.args.size (Err c.in-Some.refusal)) (search rules) (search rules)

pub returns-in-Some-clause-law : goal.returns-in-Some-clause-law
returns-in-Some-clause-law g c = pool_law _

pub returns-clause-answer : goal.returns-clause-answer
returns-clause-answer g c = search rules

pub returns-clause-state : goal.returns-clause-state
returns-clause-state g c = search rules

pub returns-clause-after : goal.returns-clause-after
returns-clause-after g c =
    pool_proved.call c.args.self.now (record { most = c.self.inside.competitors.most; size = c.args.size; bits = c.access.new.self; competitors = c.self.inside.competitors.competitors }) (Widened c.args.size (Ok tt)) (returns-clause-state g c) (returns-clause-answer g c)

pub returns-clause-law : goal.returns-clause-law
returns-clause-law g c = pool_law _

pub returns-clause-local : goal.returns-clause-local
returns-clause-local g c = search rules
