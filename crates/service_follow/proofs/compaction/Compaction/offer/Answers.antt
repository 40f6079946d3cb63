-- What is offered is told where all before it was applied.
use Rattle.std.proofs.Common.{rules, sym, subst}
use Rattle.service_follow.specs.Tellings.{IsTold}
use Rattle.service_follow.proofs.Moves.{told_one}
use Rattle.service_follow.proofs.compaction.Compaction.offer.Goals as goal

pub returns : goal.returns
returns g c =
    let now = c.args.self.now in
    let log = c.args.log.now in
    record {
      told = told_one g.S.Store.stands now.due now.token log c.offer.new.self c.deref.result.now c.offer.ensures.moved c.offer.ensures.placed (search rules)
          (subst (IsTold now.due now.token log.stays.machine) (sym c.deref.ensures.value) c.requires);
    }
