-- The entries before it were applied, and then the batch, which stands there.
use Rattle.std.proofs.Common.{ℕ, refl, sym, subst}
use Rattle.service_log.proofs.Chains.{answered, answered_goes_on, landed, was_behind_goes_on}
use Rattle.service_log.proofs.replica.Replica.write.Goals as goal

pub returns-clause-answered : goal.returns-clause-answered
returns-clause-answered g c =
    let stands = g.S.Store.stands in
    let applies = g.M.Machine.applies in
    let last = stands c.reach.new.store in
    let reached = c.in_ok-reach.ensures in
    let own = c.in_default.ensures in
    let lands = landed (stands c.args.store.now) (stands c.append.new.self) (g.S.Store.lacks c.args.store.now) _ c.args.batch.now c.in-Ok-At.field-0 c.in-Ok-At.at c.in-Ok-At.field-0-is c.in-Ok-At.ensures.appended in
    let stood = subst (λ (at : ℕ). last at c.args.batch.now) (sym reached.there) (reached.same.keeps c.in-Ok-At.at c.args.batch.now lands.stood) in
    let on = was_behind_goes_on applies last _ c.args.self.now c.reach.new.self _ c.self.view_is (reached.goes_on reached.well) in
    λ done. answered applies last last (λ place entry h. h) c.args.self.now c.reach.new.self c.apply_own.new.self c.args.batch.now c.apply_own.new.replies on
    (record { applied = own.applied; stood = stood; count = own.next.0; was_well = reached.well; is_well = own.next.1 })

pub returns-clause-goes_on : goal.returns-clause-goes_on
returns-clause-goes_on g c = λ well.
    answered_goes_on g.M.Machine.applies (g.S.Store.stands c.reach.new.store) c.args.self.now c.apply_own.new.self c.args.batch.now c.apply_own.new.replies (returns-clause-answered g c refl)
