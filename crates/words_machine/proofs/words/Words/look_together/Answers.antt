use Rattle.std.proofs.Common.{arith, ap, sym, refl, ◌≡◌, ◌∷◌, ◌++◌, [], ◌∙◌}
use Rattle.words_machine.proofs.Common.{step, view_of, WordsId}
use mathlib.Core.Option.{none}
use Rattle.words_machine.proofs.Dealing.{may_unite, may_look, first_dealt}
use Rattle.words_machine.proofs.words.Words.look_together.Goals as goal
use Rattle.words_machine.proofs.words.Words.look_together.Goals.{After-join_seat}

pub join_seat-requires : goal.join_seat-requires
join_seat-requires g c =
    let table = ap (λ (w : WordsId). w.table) (sym c.self.view_is) in
    (c.requires.ours.1 ∙ table, c.requires.ours.0 ∙ table, rw c.requires.left.1 refl, omega (arith, c.self.invariant.3, g.met.P.WordProgram.sound.some c.self.inside.most c.self.invariant.0), rw (c.requires.left.1, c.requires.right.1) (may_unite g.P.WordProgram.law _ _ _ _ _ _))

-- what the two seats are as one
united : (g : _) (c : After-join_seat g) → c.join_seat.new.seat.me ≡ (view_of c.args.self.now.most (c.requires.left.0 ∷ c.requires.right.0) [], [])
united g c = c.join_seat.ensures.2 ∙ (λ i. (view_of (c.requires.right.1 i).0.most ((c.requires.left.1 i).0.stands ++ (c.requires.right.1 i).0.stands) (c.requires.right.1 i).0.endings, (c.requires.right.1 i).1))

pub load-requires : goal.load-requires
load-requires g c =
    let table = ap (λ (w : WordsId). w.table) (sym c.self.view_is) in
    (c.join_seat.ensures.0 ∙ c.requires.ours.1 ∙ table, omega (arith, c.self.invariant.3, g.met.P.WordProgram.sound.some c.self.inside.most c.self.invariant.0), rw (united g (goal.at.load-requires g c).After-join_seat) (may_look g.P.WordProgram.law _ _ (view_of c.args.self.now.most (c.requires.left.0 ∷ c.requires.right.0) []) _ _ (step 0 0 0 0 none) (λ w r s x. x.stands.0.seats_are) c.requires.left.2))

pub split_seat-left-requires : goal.split_seat-left-requires
split_seat-left-requires g c =
    let table = ap (λ (w : WordsId). w.table) (sym c.self.view_is) in
    (c.load.ensures.0 ∙ c.join_seat.ensures.0 ∙ c.requires.ours.1 ∙ table, omega (arith, c.self.invariant.3, g.met.P.WordProgram.sound.some c.self.inside.most c.self.invariant.0), rw (c.load.ensures.2.0, united g (goal.at.split_seat-left-requires g c).After-join_seat) (first_dealt g.P.WordProgram.law _ _ _ _ _))
