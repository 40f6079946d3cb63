use Rattle.std.proofs.Common.{◌∙◌, refl, sym, arith}
use Rattle.text_checker.proofs.Common.{false≢true, Keeps}
use Rattle.model_asked.specs.declared.event.Event.TheVariants as event
use Rattle.text_records.specs.declared.reported.Reported.TheVariants as reported
use Rattle.text_checker.proofs.Judging.{for_all, below_view, none_due}
use Rattle.text_checker.proofs.checker.Checker.spend.Goals as goal

pub returns-then-not-has_conflict : goal.returns-then-not-has_conflict
returns-then-not-has_conflict c = λ terms o h none.
    let last = (c.is_last_turn.ensures terms o.names h.names none).0 c.if-not-is_last_turn.false in
    let low = h.names.low in
    let w = c.has_conflict.ensures terms o.names h.names (omega arith) in
    record {
      fits = (λ k. absurd (false≢true (sym c.if-not-has_conflict.true ∙ w.1 k)));
      least = below_view (Keeps terms o (event.Step c.args.id) reported.Spent) refl (none_due _ none) tt last;
    }

pub returns : goal.returns
returns c = λ terms o h none.
    let last = (c.is_last_turn.ensures terms o.names h.names none).0 c.if-not-is_last_turn.false in
    let low = h.names.low in
    let w = c.has_conflict.ensures terms o.names h.names (omega arith) in
    record {
      keeps = for_all (Keeps terms o (event.Step c.args.id) reported.Spent) refl (none_due _ none) tt last (w.0 c.if-not-has_conflict.false) tt tt;
      after = record { names = c.spend.ensures terms o.names h.names none; slots = h.slots; grows_is = h.grows_is };
    }
