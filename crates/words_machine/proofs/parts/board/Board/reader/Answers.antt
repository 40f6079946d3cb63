use Rattle.std.proofs.Common.{ap, sym, ◌∙◌}
use Rattle.words_machine.specs.parts.Boards.{ReaderId}
use Rattle.words_machine.proofs.parts_lemmas.Claims.{may_hand}
use Rattle.words_machine.proofs.parts.board.Board.reader.Goals as goal

pub split_seat-requires : goal.split_seat-requires
split_seat-requires g c = (ap (λ (r : ReaderId). r.board) c.seat.view_is ∙ c.requires ∙ sym c.self.view_is, c.self.invariant.0, may_hand _ 0 _ _)
