use Rattle.std.proofs.Common.{◌≡◌, ap, ◌∙◌}
use Rattle.text_worlds.specs.desk.Held.{slots_of}
use Rattle.service_hall.proofs.Common.{desk_of}
use Rattle.service_hall.proofs.hall.Hall.slots.Goals as goal

pub returns : goal.returns
returns c =
    let desk : c.self.inside.held.desk ≡ desk_of c.args.self.now = c.self.invariant.0 ∙ ap desk_of c.self.view_is in
    c.slots.ensures ∙ ap slots_of desk
