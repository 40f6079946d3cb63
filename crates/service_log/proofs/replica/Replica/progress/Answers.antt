-- What was read went on.
use Rattle.std.proofs.Common.{◌≡◌, ap, sym, ◌∙◌, true}
use Rattle.service_log.proofs.Chains.{step_goes_on, turned}
use Rattle.service_log.proofs.replica.Replica.progress.Goals as goal

pub returns-then-behind-clause-goes_on : goal.returns-then-behind-clause-goes_on
returns-then-behind-clause-goes_on g c =
    let was : c.args.self.now.behind ≡ true = ap (λ r. r.behind) (sym c.self.view_is) ∙ c.if-behind.true in
    let e = c.follow.ensures in
    step_goes_on g.M.Machine.applies (g.S.Store.stands c.follow.new.store) c.args.self.now c.args.batch.now c.follow.new.replies c.follow.new.self c.follow.result
    e.answered e.passed (λ none. (turned c.args.self.now c.follow.new.self true was (e.nothing none), c.requires.well)) e.fault
