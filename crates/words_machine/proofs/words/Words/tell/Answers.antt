use Rattle.std.proofs.Common.{arith, ap, sym, ◌∙◌}
use Rattle.words_machine.proofs.Common.{WordsId}
use Rattle.words_machine.proofs.Claiming.{may_tell}
use Rattle.words_machine.proofs.words.Words.tell.Goals as goal

pub split_seat-requires : goal.split_seat-requires
split_seat-requires g c =
    let words = c.self.invariant.3 in
    let some = g.met.P.WordProgram.sound.some c.self.inside.most c.self.invariant.0 in
    (c.requires.ours ∙ ap (λ (w : WordsId). w.table) (sym c.self.view_is), omega arith, rw c.requires.lone.1 (may_tell g.P.WordProgram.law _ _ _ _))
