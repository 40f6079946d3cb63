use Rattle.std.proofs.Common.{rules, ℕ, ap, subst}
use Rattle.service_log.specs.Places.{Adds}
use Rattle.service_log.proofs.replica.Replica.offer.Goals as goal

pub returns-in-Ok-Taken-clause-adds : goal.returns-in-Ok-Taken-clause-adds
returns-in-Ok-Taken-clause-adds g c =
    let stands = g.S.Store.stands in
    subst (λ (at : ℕ). Adds (stands c.args.store.now) at c.args.batch.now (stands c.put.new.self)) (ap (λ q. q.place) c.self.view_is) c.put.ensures.adds

pub returns-in-Err-clause-adds : goal.returns-in-Err-clause-adds
returns-in-Err-clause-adds g c =
    let stands = g.S.Store.stands in
    subst (λ (at : ℕ). Adds (stands c.args.store.now) at c.args.batch.now (stands c.put.new.self)) (ap (λ q. q.place) c.self.view_is) c.put.ensures.adds

pub returns-clause-adds : goal.returns-clause-adds
returns-clause-adds g c =
    let stands = g.S.Store.stands in
    subst (λ (at : ℕ). Adds (stands c.args.store.now) at c.args.batch.now (stands c.put.new.self)) (ap (λ q. q.place) c.self.view_is) c.put.ensures.adds

pub returns-clause-answered : goal.returns-clause-answered
returns-clause-answered g c = search rules
