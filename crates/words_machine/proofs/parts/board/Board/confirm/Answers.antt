use Rattle.std.proofs.Common.{◌≡◌, ◌<◌, ℕ, ap, sym, subst, ◌∙◌, arith}
use Rattle.words_machine.proofs.parts_lemmas.Common.{TableId, ReaderId}
use Rattle.words_machine.proofs.parts_lemmas.Claims.{may_find, may_hand}
use Rattle.words_machine.proofs.parts.board.Board.confirm.Goals as goal

pub load-found-requires : goal.load-found-requires
load-found-requires g c =
    let words : c.self.inside.table.shared.table_id.words ≡ c.args.self.now.words = ap (λ (t : TableId). t.words) c.self.view_is in
    let within : c.in_ok-word.word < c.self.inside.table.shared.table_id.words = omega (arith, c.in_ok-word.ensures.word.1, words) in
    let count : c.self.inside.table.shared.key ≡ c.self.inside.table.shared.table_id.words = c.self.invariant.2 in (
      ap (λ (r : ReaderId). r.board) c.seat.view_is ∙ c.requires ∙ sym c.self.view_is,
      within,
      rw c.seat.invariant (may_find _ _ _ _ _ _ (subst (λ (n : ℕ). c.in_ok-word.word < n) (sym count) within)),
    )

pub split_seat-given-requires : goal.split_seat-given-requires
split_seat-given-requires g c =
    (c.load-found.ensures.0 ∙ ap (λ (r : ReaderId). r.board) c.seat.view_is ∙ c.requires ∙ sym c.self.view_is, c.self.invariant.0, may_hand _ 0 _ _)
