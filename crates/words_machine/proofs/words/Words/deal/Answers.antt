use Rattle.std.proofs.Common.{ap, arith, sym, ◌∙◌}
use Rattle.words_machine.proofs.Common.{WordsId}
use Rattle.words_machine.proofs.Dealing.{may_deal, left_over}
use Rattle.words_machine.proofs.words.Words.deal.Goals as goal

pub split_seat-requires : goal.split_seat-requires
split_seat-requires g c = (
  c.requires.ours ∙ ap (λ (w : WordsId). w.table) (sym c.self.view_is),
  (let words = c.self.invariant.3 in let some = g.met.P.WordProgram.sound.some c.self.inside.most c.self.invariant.0 in omega arith),
  may_deal g.P.WordProgram.law c.args.number c.args.self.now.most c.requires.range c.args.rest.now.me c.requires.undealt _ _,
)

pub returns-clause-undealt : goal.returns-clause-undealt
returns-clause-undealt g c = left_over g.P.WordProgram.law c.args.number c.args.self.now.most c.requires.range c.args.rest.now.me c.requires.undealt _ c.split_seat.ensures.2
