use Rattle.std.proofs.Common.{refl}
use Rattle.text_checker.proofs.Common.{option_copied, Keeps}
use Rattle.model_asked.specs.declared.event.Event.TheVariants as event
use Rattle.text_records.specs.declared.reported.Reported.TheVariants as reported
use Rattle.text_checker.proofs.Judging.{for_all, none_due}
use Rattle.text_checker.proofs.checker.Checker.name.Goals as goal

pub returns : goal.returns
returns c = λ terms o h none. record {
  keeps = for_all (Keeps terms o (event.Step c.args.id) (reported.Named c.args.name (option_copied c.args.shown))) refl (none_due _ none) tt tt tt ((c.may_name.ensures terms o.names h.names none).0 c.if-not-may_name.false) tt;
  after = record { names = c.name.ensures terms o.names h.names none; slots = h.slots; grows_is = h.grows_is };
}
