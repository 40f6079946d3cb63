use Rattle.std.proofs.Common.{arith, refl, ◌∙◌}
use mathlib.Core.Option.{none}
use Rattle.atomic_table.specs.Table.{step}
use Rattle.words_machine.proofs.parts_lemmas.Meeting.{united, may_unite, may_look}
use Rattle.words_machine.proofs.parts_lemmas.Dealing.{first_dealt}
use Rattle.words_machine.proofs.parts.raw_splitter.look_together.Goals as goal

pub join_seat-requires : goal.join_seat-requires
join_seat-requires c =
    (c.requires.ours.1, c.requires.ours.0, rw c.requires.left.1 refl, omega (arith, c.requires.two), rw (c.requires.left.1, c.requires.right.1) (may_unite _ _ _ _ _ _))

pub load-requires : goal.load-requires
load-requires c =
    let both = united _ _ _ _ _ _ c.requires.left.1 c.requires.right.1 c.join_seat.ensures.2 in
    (c.join_seat.ensures.0 ∙ c.requires.ours.1, omega (arith, c.requires.two), rw both (may_look _ _ _ _ _ _ _ (step 0 0 0 0 none)))

pub split_seat-left-requires : goal.split_seat-left-requires
split_seat-left-requires c =
    let both = united _ _ _ _ _ _ c.requires.left.1 c.requires.right.1 c.join_seat.ensures.2 in
    (c.load.ensures.0 ∙ c.join_seat.ensures.0 ∙ c.requires.ours.1, omega (arith, c.requires.two), rw (c.load.ensures.2.0, both) (first_dealt _ _ _ _ _))
