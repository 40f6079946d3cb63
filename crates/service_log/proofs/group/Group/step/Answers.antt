-- A replica's step, seen by the group.
use Rattle.service_log.specs.Places.{stands_in}
use Rattle.service_log.proofs.Chains.{answered, none_goes_on}
use Rattle.service_log.proofs.Shared.{beside, grown, stays, tells}
use Rattle.service_log.proofs.group.Group.step.Goals as goal

pub returns-clause-log : goal.returns-clause-log
returns-clause-log g c = grown c.self.view_is c.step.new.store c.index_mut.result.now.place c.args.batch.now c.step.ensures.adds

pub returns-clause-others : goal.returns-clause-others
returns-clause-others g c = beside c.self.view_is c.args.at c.step.new.self

pub returns-clause-history : goal.returns-clause-history
returns-clause-history g c = λ start.
    stays c.self.view_is g.M.Machine.applies start c.step.new.store c.step.ensures.adds.keeps c.args.at c.requires.in_bounds c.index_mut.result.now c.step.new.self c.index_mut.ensures.value (c.step.ensures.follows 0 start)

pub returns-clause-answered : goal.returns-clause-answered
returns-clause-answered g c = λ is start.
    let so = c.step.ensures.answered is in
    let applies = g.M.Machine.applies in
    let stands = stands_in c.step.new.store in
    let was = c.index_mut.result.now in
    let one = answered applies stands stands (λ place entry h. h) was was c.step.new.self c.args.batch.now c.step.new.replies (none_goes_on applies stands was so.was_well) so in
    tells c.self.view_is g.M.Machine.applies start c.step.new.store c.step.ensures.adds.keeps c.args.at c.requires.in_bounds c.index_mut.result.now c.step.new.self c.index_mut.ensures.value (c.step.ensures.follows 0 start) c.args.batch.now c.step.new.replies one
