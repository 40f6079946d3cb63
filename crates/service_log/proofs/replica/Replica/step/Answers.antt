-- A step goes on.
use Rattle.service_log.proofs.Chains.{follows, step_goes_on}
use Rattle.service_log.proofs.replica.Replica.step.Goals as goal

pub returns-then-ne-clause-goes_on : goal.returns-then-ne-clause-goes_on
returns-then-ne-clause-goes_on g c =
    let e = c.advance-result.ensures in
    step_goes_on g.M.Machine.applies (g.S.Store.stands c.advance-result.new.store) c.args.self.now c.args.batch.now c.advance-result.new.replies c.advance-result.new.self c.advance-result.result e.answered e.passed e.nothing e.fault

pub returns-else-ne-clause-goes_on : goal.returns-else-ne-clause-goes_on
returns-else-ne-clause-goes_on g c =
    let e = c.advance-result.ensures in
    step_goes_on g.M.Machine.applies (g.S.Store.stands c.advance-result.new.store) c.args.self.now c.args.batch.now c.advance-result.new.replies c.advance-result.new.self c.advance-result.result e.answered e.passed e.nothing e.fault

pub returns-then-ne-clause-follows : goal.returns-then-ne-clause-follows
returns-then-ne-clause-follows g c =
    let e = c.advance-result.ensures in
    let stands = g.S.Store.stands in
    follows g.M.Machine.applies (stands c.args.store.now) (stands c.advance-result.new.store) e.adds.keeps c.args.self.now c.advance-result.new.self
    (step_goes_on g.M.Machine.applies (stands c.advance-result.new.store) c.args.self.now c.args.batch.now c.advance-result.new.replies c.advance-result.new.self c.advance-result.result e.answered e.passed e.nothing e.fault)

pub returns-else-ne-clause-follows : goal.returns-else-ne-clause-follows
returns-else-ne-clause-follows g c =
    let e = c.advance-result.ensures in
    let stands = g.S.Store.stands in
    follows g.M.Machine.applies (stands c.args.store.now) (stands c.advance-result.new.store) e.adds.keeps c.args.self.now c.advance-result.new.self
    (step_goes_on g.M.Machine.applies (stands c.advance-result.new.store) c.args.self.now c.args.batch.now c.advance-result.new.replies c.advance-result.new.self c.advance-result.result e.answered e.passed e.nothing e.fault)
