use Rattle.std.proofs.Common.{sym, ◌∙◌, ◌-◌, ◌<◌, subst}
use Rattle.words_machine.proofs.parts_lemmas.Common.{TableId, claim}
use Rattle.words_machine.proofs.parts.board.Board.close.Goals as goal

pub returns-in-Ok-clause-grant : goal.returns-in-Ok-clause-grant
returns-in-Ok-clause-grant g c =
    let has = c.claimed_by-seat.ensures.claim in
    let place = c.args.grant.name - 1 in
    c.in-Ok.ensures.claims (claim place c.args.grant.identity) has.0 (subst (λ (t : TableId). place < t.words) (c.requires ∙ sym c.self.view_is) has.1)
