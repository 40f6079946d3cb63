use Rattle.std.proofs.Common.{rules, ◌≡◌, ◌∙◌, None, sym, subst, List, ℕ, Option}
use Rattle.text_checker.proofs.judges_lemmas.Common.{false≢true, IsRising, TellsMoments, TellsSince}
use Rattle.text_checker.proofs.judges.names.Names.row_since.Goals as goal

pub returns-in_err-row : goal.returns-in_err-row
returns-in_err-row c = λ terms o h.
    let none : c.from_residual.result ≡ None = search rules in
    let rises : IsRising c.args.view.now = c.is_rising.ensures.0 c.if-not-is_rising.false in
    let tells = subst (λ (x : Option (List ℕ)). TellsMoments o h.turns.rows c.args.view.now x) c.in_err-row.was (c.row_of.ensures terms o h) in
    let no : TellsSince o h.turns.rows c.args.since c.args.view.now None = λ k. tells k.index k.no_later rises k.passes in
    subst (λ (x : Option (List ℕ)). TellsSince o h.turns.rows c.args.since c.args.view.now x) (sym none) no

pub returns-then-not-has_shown : goal.returns-then-not-has_shown
returns-then-not-has_shown c = λ terms o h k.
    let rises : IsRising c.args.view.now = c.is_rising.ensures.0 c.if-not-is_rising.false in
    let tells = subst (λ (x : Option (List ℕ)). TellsMoments o h.turns.rows c.args.view.now x) c.in_ok-row.was (c.row_of.ensures terms o h) in
    let shown = c.has_shown.ensures o.last h.turns.rows h.turns.held in
    let same = (tells k.index k.no_later rises).0 k.passes in
    false≢true (sym c.if-not-has_shown.true ∙ shown.1 (record { index = k.index; no_earlier = k.no_earlier; no_later = k.no_later; passes = same }))

pub returns : goal.returns
returns c = λ terms o h.
    let rises : IsRising c.args.view.now = c.is_rising.ensures.0 c.if-not-is_rising.false in
    let tells = subst (λ (x : Option (List ℕ)). TellsMoments o h.turns.rows c.args.view.now x) c.in_ok-row.was (c.row_of.ensures terms o h) in
    let k = (c.has_shown.ensures o.last h.turns.rows h.turns.held).0 c.if-not-has_shown.false in (
      record { index = k.index; no_earlier = k.no_earlier; no_later = k.no_later; passes = (tells k.index k.no_later rises).1 k.passes },
      (λ i l m. (tells i l rises).0 m),
    )
