use Rattle.std.proofs.Common.{◌∙◌, refl, sym, subst, ◌↔◌, ℕ, List, IsTrue}
use Rattle.text_checker.proofs.Common.{false≢true, ShowsConflict, Keeps}
use Rattle.model_asked.specs.declared.event.Event.TheVariants as event
use Rattle.text_records.specs.declared.reported.Reported.TheVariants as reported
use Rattle.text_checker.proofs.Judging.{for_all, below_view, none_due}
use Rattle.text_checker.proofs.checker.Checker.see.Goals as goal

pub returns-then-not-shows_conflict : goal.returns-then-not-shows_conflict
returns-then-not-shows_conflict c = λ terms o h none.
    let turns = (c.has_turns.ensures terms o.names h.names).0 c.if-not-has_turns.false in
    let w : IsTrue c.shows_conflict.result ↔ ShowsConflict o.names c.args.id c.args.view.now =
    subst (λ (v : List (ℕ × ℕ)). IsTrue c.shows_conflict.result ↔ ShowsConflict o.names c.args.id v) c.as_slice.ensures (c.shows_conflict.ensures terms o.names h.names turns.0) in
    record {
      fits = (λ k. absurd (false≢true (sym c.if-not-shows_conflict.true ∙ w.1 k)));
      least = below_view (Keeps terms o (event.Step c.args.id) (reported.Saw c.args.view.now)) refl (none_due _ none) tt turns;
    }

pub returns : goal.returns
returns c = λ terms o h none.
    let turns = (c.has_turns.ensures terms o.names h.names).0 c.if-not-has_turns.false in
    let w : IsTrue c.shows_conflict.result ↔ ShowsConflict o.names c.args.id c.args.view.now =
    subst (λ (v : List (ℕ × ℕ)). IsTrue c.shows_conflict.result ↔ ShowsConflict o.names c.args.id v) c.as_slice.ensures (c.shows_conflict.ensures terms o.names h.names turns.0) in
    record {
      keeps = for_all (Keeps terms o (event.Step c.args.id) (reported.Saw c.args.view.now)) refl (none_due _ none) tt turns (w.0 c.if-not-shows_conflict.false) tt tt;
      after = h;
    }
