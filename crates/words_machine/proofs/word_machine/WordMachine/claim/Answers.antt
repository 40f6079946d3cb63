use Rattle.std.proofs.Common.{ap, sym, ◌∙◌}
use Rattle.words_machine.proofs.Common.{ended_at}
use Rattle.words_machine.proofs.Meeting.{badge_view}
use Rattle.words_machine.proofs.word_machine.WordMachine.claim.Goals as goal

pub tell-reported-requires-clause-lone : goal.tell-reported-requires-clause-lone
tell-reported-requires-clause-lone g c =
    let view = badge_view _ _ _ _ _ _ c.args.entered.now c.self.inside.words c.into_seat-seat.result.me.0 c.entered.invariant.0 c.entered.view_is (c.requires.ours ∙ sym c.self.view_is)
    (ap (λ b. b.views) (sym c.replace.ensures.value) ∙ c.into_seat-seat.ensures.2) in
    (ended_at c.args.entered.now.number c.args.entered.now.identity c.args.entered.now.program c.args.entered.now.outcome c.args.entered.now.accesses c.args.entered.now.entered, λ i. (view i, c.into_seat-seat.ensures.3 i))
