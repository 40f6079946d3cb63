use Rattle.std.proofs.Common.{◌≡◌, ◌+◌, cond, Some, slice_set, slice_index, nat_eq, refl, ap, ◌∙◌, arith}
use Rattle.text_checker.proofs.judges_lemmas.Common.{pointwise, get, turned_at, Moments}
use Rattle.text_checker.proofs.judges_lemmas.seats.Turned.{proposed}
use Rattle.text_checker.proofs.judges.moments.Moments.propose.Goals as goal

pub returns : goal.returns
returns c = λ last rows h few.
    let m : Moments = c.args.self.now in
    let next : c.with_number-next.result ≡ slice_set m.present c.args.seat c.args.number = c.with_number-next.ensures in
    let low : m.last ≡ last = h.last_is in
    let at : c.saturating_add-at.result ≡ m.last + 1 = grind (arith, c.saturating_add-at.ensures, low, few) in
    let over : c.saturating_add.result ≡ c.saturating_add-at.result + 1 = grind (arith, c.saturating_add.ensures, at, low, few) in
    let before : c.number_at-before.result ≡ slice_index m.present c.args.seat = c.number_at-before.ensures in
    proposed m (record { present = c.with_number-next.result; last = c.saturating_add-at.result; turned = c.turn-2.new.self.turned; seen = c.turn-2.new.self.seen })
    last rows c.args.seat c.args.number c.saturating_add-at.result h at refl next
    (ap (λ (x : Moments). x.turned) c.turn-2.ensures
    ∙ (λ i. turned_at (c.turn.ensures i).turned (c.turn.ensures i).present c.with_number-next.result c.number_at-before.result c.saturating_add-at.result)
    ∙ (λ i. turned_at (turned_at m.turned m.present (next i) c.args.number c.saturating_add-at.result) m.present (next i) (before i) c.saturating_add-at.result))
    (λ row. ap (λ (x : Moments). get (pointwise nat_eq) x.seen row) (c.turn-2.ensures ∙ (λ i. record { present = (c.turn.ensures i).present; last = (c.turn.ensures i).last; turned = turned_at (c.turn.ensures i).turned (c.turn.ensures i).present c.with_number-next.result c.number_at-before.result c.saturating_add-at.result; seen = (c.turn.ensures i).seen }))
    ∙ c.in_ok-insert.ensures.updates.0 row
    ∙ (λ i. cond (pointwise nat_eq (next i) row) (Some (over i)) (get (pointwise nat_eq) m.seen row)))
