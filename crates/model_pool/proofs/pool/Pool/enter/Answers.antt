use Rattle.std.proofs.Common.{rules, Ok, Err}
use Rattle.model_pool.specs.Calls.Call.{Entered}
use Rattle.model_pool.proofs.cited.PoolKeeps.{pool_law, pool_proved}
use Rattle.model_pool.proofs.pool.Pool.enter.Goals as goal

pub returns-in-Some-clause-after : goal.returns-in-Some-clause-after
returns-in-Some-clause-after g c = pool_proved.call c.args.self.now c.args.self.now (Entered c.args.id (Err c.in-Some.refusal)) (search rules) (search rules)

pub returns-in-Some-clause-law : goal.returns-in-Some-clause-law
returns-in-Some-clause-law g c = pool_law _

pub returns-clause-answer : goal.returns-clause-answer
returns-clause-answer g c = search rules

pub returns-clause-state : goal.returns-clause-state
returns-clause-state g c = search rules

pub returns-clause-after : goal.returns-clause-after
returns-clause-after g c =
    pool_proved.call c.args.self.now (record { most = c.add.new.self.most; size = c.self.inside.size; bits = c.self.inside.bits; competitors = c.add.new.self.competitors }) (Entered c.args.id (Ok tt)) (returns-clause-state g c) (returns-clause-answer g c)

pub returns-clause-law : goal.returns-clause-law
returns-clause-law g c = pool_law _
