-- What was read changed nothing, and what is offered is a change.
use Rattle.std.proofs.Common.{refl}
use Rattle.service_follow.proofs.Moves.{changed_same, changed_then}
use Rattle.service_follow.proofs.log_persister.LogPersister.try_change.Goals as goal

pub returns-in_err-offer_change : goal.returns-in_err-offer_change
returns-in_err-offer_change g c =
    let now = c.args.self.now in
    let then = c.offer_change.new.self in
    let read = changed_same g.S.Store.stands now.token now.token now.terms now.terms now.log c.read.new.self c.read.ensures.moved c.read.ensures.same refl refl in
    changed_then g.S.Store.stands now.token now.token then.token now.terms now.terms then.terms now.log c.read.new.self then.log read c.offer_change.ensures

pub returns : goal.returns
returns g c =
    let now = c.args.self.now in
    let then = c.offer_change.new.self in
    let read = changed_same g.S.Store.stands now.token now.token now.terms now.terms now.log c.read.new.self c.read.ensures.moved c.read.ensures.same refl refl in
    changed_then g.S.Store.stands now.token now.token then.token now.terms now.terms then.terms now.log c.read.new.self then.log read c.offer_change.ensures
