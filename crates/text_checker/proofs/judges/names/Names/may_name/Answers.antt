use Rattle.std.proofs.Common.{◌≡◌, ◌∙◌, ℕ, ◌≤◌, ◌↔◌, List, Option, Some, None, refl, sym, ap, IsTrue, arith, subst}
use Rattle.text_checker.proofs.judges_lemmas.Common.{list_any, option_copied, IsFreeName, ShowsSole, MayBeNamed, is_held}
use Rattle.text_checker.proofs.judges_lemmas.Deciding.{count_is, stand, sole_reported}
use Rattle.text_checker.proofs.judges_lemmas.seats.Names.{free_name}
use Rattle.text_checker.proofs.judges_lemmas.seats.People.{there, somebody_has}
use Rattle.text_checker.proofs.judges.names.Names.may_name.Goals as goal

pub returns-then-is_named : goal.returns-then-is_named
returns-then-is_named c = λ terms o h none.
    let given = ap (list_any (λ v. is_held c.args.name v.program.name)) (sym c.list.ensures) ∙ sym c.is_named.ensures ∙ c.if-is_named.true in
    ((λ y. cc), (λ k. let w = somebody_has (λ s. s.name) o.name c.args.self.now.participants c.args.name h.people.name h.people.apart given in absurd (k.free.free w.0 w.1)))

pub returns-in-Some-shown : goal.returns-in-Some-shown
returns-in-Some-shown c = λ terms o h none.
    let counted = count_is terms c.args.self.now o c.args.id c.in-Some.standing h (there c.args.id c.find.ensures refl c.in-Some.is) in
    let once = c.if-turn-lt1.false in
    let some : 1 ≤ o.count c.args.id = omega arith in
    let unnamed = ap (list_any (λ v. is_held c.args.name v.program.name)) (sym c.list.ensures) ∙ sym c.is_named.ensures ∙ c.if-is_named.false in
    let below = c.if-many-name.false in
    let free = free_name c.args.self.now.participants o c.args.name c.count-many.result h.people c.count-many.ensures.count (omega arith) unnamed in
    let w = subst (λ (v : List (ℕ × ℕ)). IsTrue c.shows_sole.result ↔ ShowsSole o c.args.id c.args.name v) c.as_slice.ensures (c.shows_sole.ensures terms o h some) in
    let reported : IsTrue c.shows_sole.result ↔ MayBeNamed o c.args.id c.args.name (Some c.in-Some-shown.view.now) = (
      (λ y. record { view = c.in-Some-shown.view.now; written = refl; some = some; shows = w.0 y; free = free }),
      (λ k. w.1 (subst (λ (v : List (ℕ × ℕ)). ShowsSole o c.args.id c.args.name v) k.written k.shows)),
    ) in
    subst (λ (v : Option (List (ℕ × ℕ))). IsTrue c.shows_sole.result ↔ MayBeNamed o c.args.id c.args.name v) (sym (ap (λ v. option_copied v) c.in-Some-shown.is)) reported

pub returns-in-None : goal.returns-in-None
returns-in-None c = λ terms o h none.
    let is = there c.args.id c.find.ensures refl c.in-Some.is in
    let counted = count_is terms c.args.self.now o c.args.id c.in-Some.standing h is in
    let once = c.if-turn-lt1.false in
    let some : 1 ≤ o.count c.args.id = omega arith in
    let unnamed = ap (list_any (λ v. is_held c.args.name v.program.name)) (sym c.list.ensures) ∙ sym c.is_named.ensures ∙ c.if-is_named.false in
    let below = c.if-many-name.false in
    let free = free_name c.args.self.now.participants o c.args.name c.count-many.result h.people c.count-many.ensures.count (omega arith) unnamed in
    let s = stand terms c.args.self.now o c.args.id c.in-Some.standing h is some in
    let w = c.was_quiet.ensures o.last h.turns.rows h.turns.held s.since s.small in
    let same : c.in-Some.standing.turn.number ≡ c.args.name = sym c.from.ensures ∙ c.if-from-name.false in
    let reported = sole_reported terms c.args.self.now o c.args.id c.in-Some.standing h is some c.was_quiet.result w (subst (λ (n : ℕ). IsFreeName o n) (sym same) free) in
    subst (λ (v : Option (List (ℕ × ℕ))). IsTrue c.was_quiet.result ↔ MayBeNamed o c.args.id c.args.name v) (sym (ap (λ v. option_copied v) c.in-None.is))
    (subst (λ (n : ℕ). IsTrue c.was_quiet.result ↔ MayBeNamed o c.args.id n None) same reported)
