use Rattle.std.proofs.Common.{refl}
use Rattle.model_asked.specs.declared.event.Event.TheVariants as event
use Rattle.text_records.specs.declared.reported.Reported.TheVariants as reported
use Rattle.text_checker.specs.Reasons.{Keeps}
use Rattle.text_checker.proofs.Judging.{for_all, none_due}
use Rattle.text_checker.proofs.checker.Checker.place.Goals as goal

pub returns : goal.returns
returns c = λ terms o h none. record {
  keeps = for_all (Keeps terms o (event.Step c.args.id) (reported.Place c.args.place)) refl (none_due _ none) ((c.place.ensures.reported terms o.names h.names none).0 c.if-not-place.false) tt tt tt tt;
  after = record { names = c.place.ensures.after terms o.names h.names none c.if-not-place.false; slots = h.slots; grows_is = h.grows_is };
}
