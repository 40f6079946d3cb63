use Rattle.std.proofs.Common.{ap, arith, sym, ◌≡◌, ◌∙◌}
use Rattle.words_machine.proofs.parts_lemmas.Dealing.{may_deal, left_over}
use Rattle.words_machine.proofs.parts.raw_splitter.RawSplitter.deal.Goals as goal

pub split_seat-seat-requires : goal.split_seat-seat-requires
split_seat-seat-requires g c =
    let words : c.self.inside.table.shared.table_id.words ≡ 2 = c.self.invariant in (
      c.requires.ours ∙ ap (λ w. w.table) (sym c.self.view_is),
      omega arith,
      may_deal c.args.number c.args.self.now.seats c.requires.range.0 c.args.rest.now.me c.requires.undealt _ _,
    )

pub returns-clause-undealt : goal.returns-clause-undealt
returns-clause-undealt g c = left_over c.args.number c.args.self.now.seats c.requires.range.0 c.args.rest.now.me c.requires.undealt _ c.split_seat-seat.ensures.2
