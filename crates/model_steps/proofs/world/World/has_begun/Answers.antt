use Rattle.std.proofs.Common.{◌≡◌, ap, ◌∙◌, is_some}
use Rattle.model_steps.specs.Participant.{index_of}
use Rattle.model_steps.proofs.cited.Found.{is_some-index_of}
use Rattle.model_steps.proofs.world.World.has_begun.Goals as goal

pub returns : goal.returns
returns g c =
    let v : c.self.inside.participants.items ≡ c.args.self.now.participants = ap (λ w. w.participants) c.self.view_is in
    let e : c.find.result ≡ index_of c.args.id c.args.self.now.participants = cc in
    c.is_some.ensures ∙ ap is_some e ∙ is_some-index_of c.args.id c.args.self.now.participants
