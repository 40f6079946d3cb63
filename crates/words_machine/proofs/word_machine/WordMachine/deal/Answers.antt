use Rattle.std.proofs.Common.{sym, refl, subst, ◌≡◌, ◌<◌, arith, []}
use Rattle.words_machine.proofs.Common.{Me, SeatView, lone_view, unbegun}
use Rattle.words_machine.proofs.word_machine.WordMachine.deal.Goals as goal

pub invariant_of-result : goal.invariant_of-result
invariant_of-result g c =
    subst (λ (me : Me _ (SeatView _ _)). (c.dealer.inside.dealt < me.0.most) × (me ≡ (lone_view me.0.most (unbegun c.dealer.inside.dealt), []))) (sym c.deal-seat.ensures.seat)
    (let count = c.most.ensures.count in let more = c.if-most-number.false in omega arith, refl)
