use Rattle.std.proofs.Common.{◌≡◌, ◌∷◌, [], ◌∙◌, refl}
use Rattle.words_machine.proofs.parts_lemmas.Common.{step, claim, united}
use Rattle.words_machine.specs.parts.BoardView.{board_view}
use mathlib.Core.Option.{none}
use Rattle.words_machine.proofs.parts_lemmas.Claims.{may_unite, may_look_on, may_divide}
use Rattle.words_machine.proofs.parts.board.look_together.Goals as goal

pub join_seat-requires : goal.join_seat-requires
join_seat-requires c =
    (c.requires.ours.0, c.requires.ours.1, rw c.requires.right refl, c.requires.board.0, may_unite _ 0 _ _ _ _)

pub load-requires : goal.load-requires
load-requires c =
    let both : c.join_seat.new.seat.me ≡ (board_view (claim c.args._one.0 c.args._one.1 ∷ claim c.args._other.0 c.args._other.1 ∷ []) 1 0 [], []) =
    c.join_seat.ensures.2 ∙ (λ i. (united (c.requires.left i).0 (c.requires.right i).0, (c.requires.left i).1)) in
    (c.join_seat.ensures.0 ∙ c.requires.ours.0, c.requires.board.0, rw both (may_look_on _ _ _ _ _ _ _ (step 0 0 0 0 none)))

pub split_seat-right-requires : goal.split_seat-right-requires
split_seat-right-requires c =
    (c.load.ensures.0 ∙ c.join_seat.ensures.0 ∙ c.requires.ours.0, c.requires.board.0, rw (c.load.ensures.2.0, c.join_seat.ensures.2, c.requires.left, c.requires.right) (may_divide _ 0 _ _ _ _ _))
