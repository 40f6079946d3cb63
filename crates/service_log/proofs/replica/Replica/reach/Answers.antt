-- A place that was said to be taken is lacked.
use Rattle.std.proofs.Common.{rules, ◌<◌, ap}
use Rattle.service_log.proofs.Paces.{not_reached}
use Rattle.service_log.proofs.replica.Replica.reach.Goals as goal

pub returns-then-self-at-clause-busy : goal.returns-then-self-at-clause-busy
returns-then-self-at-clause-busy g c =
    let passed = c.catch_up-passed.new.self.place in
    let short : passed < c.args.at = search rules in
    let told = c.in_ok-passed.ensures in
    λ busy. not_reached g.S.Store.stands g.S.Store.lacks c.args.store.now c.catch_up-passed.new.store c.args.self.now.place c.self.inside.place c.args.at c.in_ok-passed.field-0 passed
    (ap (λ r. r.place) c.self.view_is) told.same c.requires.within told.count short told.stopped c.requires.taken
