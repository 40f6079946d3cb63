use Rattle.std.proofs.Common.{refl}
use Rattle.model_asked.specs.declared.event.Event.TheVariants as event
use Rattle.text_records.specs.declared.reported.Reported.TheVariants as reported
use Rattle.text_checker.specs.Reasons.{Keeps}
use Rattle.text_checker.proofs.Judging.{for_all, none_due}
use Rattle.text_checker.proofs.checker.Checker.propose.Goals as goal

pub returns : goal.returns
returns c = λ terms o h none few.
    let may = (c.may_propose.ensures terms o.names h.names none).0 c.if-not-may_propose.false in
    record {
      keeps = for_all (Keeps terms o (event.Step c.args.id) (reported.Proposed c.args.number)) refl (none_due _ none) tt may tt tt tt;
      after = record { names = c.in_ok-propose.ensures terms o.names h.names none few may; slots = h.slots; grows_is = h.grows_is };
    }
