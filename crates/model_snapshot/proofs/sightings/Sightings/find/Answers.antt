use Rattle.std.proofs.Common.{◌≡◌, take, sym, ap, ◌∙◌, arith, get_or}
use Rattle.model_snapshot.proofs.Common.{get_or-take, length-take-le, unknown, index_of}
use Rattle.model_snapshot.proofs.SightingLemmas.{index_of-distinct}
use Rattle.model_snapshot.proofs.sightings.Sightings.find.Goals as goal

pub returns-then-self-place : goal.returns-then-self-place
returns-then-self-place c =
    let ss = take c.self.inside.len c.self.inside.entries in
    let there : (get_or ss c.self.inside.next (unknown 0)).place ≡ c.args.place = rw (get_or-take c.self.inside.len c.self.inside.entries c.self.inside.next (unknown 0) c.if-self.true) c.if-self-place.true in
    let inside = length-take-le c.self.inside.len c.self.inside.entries (omega arith) in
    rw (← c.self.view_is) (sym (index_of-distinct ss c.self.inside.next (unknown 0) c.self.invariant.2 (omega (arith, inside))) ∙ ap (λ place. index_of place ss) there)
