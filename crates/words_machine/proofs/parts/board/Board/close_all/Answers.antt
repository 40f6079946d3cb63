use Rattle.std.proofs.Common.{sym, ◌∙◌, ◌-◌, ◌<◌, subst}
use Rattle.words_machine.proofs.parts_lemmas.Common.{TableId, claim}
use Rattle.words_machine.proofs.parts.board.Board.close_all.Goals as goal

pub returns-clause-grants : goal.returns-clause-grants
returns-clause-grants g c = λ i h e.
    let has = c.gather_all.ensures.claims i h e in
    c.in_ok-words.ensures.claims (claim (h.name - 1) h.identity) has.0 (subst (λ (t : TableId). h.name - 1 < t.words) (c.requires.ours i h e ∙ sym c.self.view_is) has.1)
