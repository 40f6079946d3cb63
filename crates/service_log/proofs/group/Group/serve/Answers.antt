-- A batch that a replica served, seen by the group.
use Rattle.std.proofs.lemmas.Result.{on_ok_weaker}
use Rattle.service_log.proofs.Shared.{beside, grown, stays, tells}
use Rattle.service_log.proofs.group.Group.serve.Goals as goal

pub returns-clause-log : goal.returns-clause-log
returns-clause-log g c = grown c.self.view_is c.serve.new.store c.serve.ensures.once.at c.args.batch.now c.serve.ensures.once.adds

pub returns-clause-others : goal.returns-clause-others
returns-clause-others g c = beside c.self.view_is c.args.at c.serve.new.self

pub returns-clause-history : goal.returns-clause-history
returns-clause-history g c = λ start.
    stays c.self.view_is g.M.Machine.applies start c.serve.new.store c.serve.ensures.once.adds.keeps c.args.at c.requires.in_bounds c.index_mut.result.now c.serve.new.self c.index_mut.ensures.value (c.serve.ensures.follows 0 start)

pub returns-clause-answered : goal.returns-clause-answered
returns-clause-answered g c =
    on_ok_weaker c.serve.result
    (λ so start. tells c.self.view_is g.M.Machine.applies start c.serve.new.store c.serve.ensures.once.adds.keeps c.args.at c.requires.in_bounds c.index_mut.result.now c.serve.new.self c.index_mut.ensures.value (c.serve.ensures.follows 0 start) c.args.batch.now c.serve.new.replies so)
    c.serve.ensures.answered
