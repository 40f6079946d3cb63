use Rattle.std.proofs.Common.{rules, ◌≡◌, ◌≤◌, [], ◌∷◌, ◌++◌, None, ap, vec_capacity}
use Rattle.model_steps.proofs.Common.{beginner, begin_refusal}
use Rattle.model_steps.proofs.cited.DistinctParticipants.{distinct_push}
use Rattle.model_steps.proofs.cited.WorldKeeps.{let_in}
use Rattle.model_steps.proofs.world.World.begin.Goals as goal

pub invariant_of-self : goal.invariant_of-self
invariant_of-self g c =
    let free : begin_refusal c.args.self.now c.args.id ≡ None = search rules in
    let in_ = let_in c.args.self.now c.args.id free in
    let v : c.self.inside.participants.items ≡ c.args.self.now.participants = ap (λ w. w.participants) c.self.view_is in
    let items : c.push_reserved.new.self.items ≡ c.self.inside.participants.items ++ beginner c.args.id c.args.program ∷ [] = search rules in
    let room : c.self.inside.most ≤ vec_capacity c.push_reserved.new.self = search rules in
    (room, rw items (distinct_push c.self.inside.participants.items (beginner c.args.id c.args.program) (rw v in_.absent) c.self.invariant.1))
