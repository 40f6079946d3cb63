use Rattle.std.proofs.Common.{◌≡◌, ◌∙◌, true, not, sym, ap, arith, inl, inr}
use Rattle.text_checker.proofs.judges_lemmas.Common.{list_any, cases_Bool, is_held}
use Rattle.text_checker.proofs.judges_lemmas.seats.People.{nobody_has, somebody_has}
use Rattle.text_checker.proofs.judges.stays.Stays.is_free.Goals as goal

pub returns : goal.returns
returns c = λ o h.
    let taken : c.is_taken.result ≡ list_any (λ v. is_held c.args.number v.program.held) c.args.self.now.competitors = c.is_taken.ensures ∙ ap (list_any (λ v. is_held c.args.number v.program.held)) c.list.ensures in
    let low = c.if-number-lt1.false in
    let high = c.if-self-number.false in
    let size = h.size_is in
    elim (cases_Bool c.is_taken.result) [
      | inl y ↦ (
        (λ z. absurd (let k : not true ≡ true = ap not (sym y) ∙ z in cc)),
        (λ free. absurd (let w = somebody_has (λ v. v.held) o.pool.held c.args.self.now.competitors c.args.number h.held h.apart (sym taken ∙ y) in free.unheld w.0 w.1)),
      )
      | inr y ↦ (
        (λ z. record { first = omega arith; last = omega arith; unheld = nobody_has (λ v. v.held) o.pool.held c.args.self.now.competitors c.args.number h.held (sym taken ∙ y) }),
        (λ free. ap not y),
      )
    ]
