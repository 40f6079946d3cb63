use Rattle.std.proofs.Common.{◌≡◌, ◌<◌, Some, None, take, sym, ◌∙◌, arith, rules}
use Rattle.model_snapshot.proofs.Common.{get_or-take, length-take-le, index_of}
use Rattle.model_snapshot.proofs.SightingLemmas.{IsNotedAt, noted_at, not_noted}
use Rattle.model_snapshot.proofs.sightings.Sightings.get.Goals as goal
use Rattle.model_snapshot.proofs.sightings.Sightings.get.Goals.{In-Some}

found : (c : In-Some) → IsNotedAt c.args.place (take c.self.inside.len c.self.inside.entries) c.in-Some.i
found c =
    let at : c.args.at ≡ index_of c.args.place (take c.self.inside.len c.self.inside.entries) = rw (← c.self.view_is) at c.requires in
    let e : index_of c.args.place (take c.self.inside.len c.self.inside.entries) ≡ Some c.in-Some.i = sym at ∙ c.in-Some.is in
    noted_at c.args.place (take c.self.inside.len c.self.inside.entries) c.in-Some.i e

below : (c : In-Some) → c.in-Some.i < c.self.inside.len
below c =
    let h = (found c).inside in
    omega (arith, h, length-take-le c.self.inside.len c.self.inside.entries (omega arith))

pub bounds-self-inside-i : goal.bounds-self-inside-i
bounds-self-inside-i c = let h = below (goal.at.bounds-self-inside-i c).In-Some in omega arith

pub returns-in-Some : goal.returns-in-Some
returns-in-Some c =
    let known = (goal.at.returns-in-Some c).In-Some in
    rw (← c.self.view_is) (sym (get_or-take c.self.inside.len c.self.inside.entries c.in-Some.i _ (below known)) ∙ (found known).is _)

pub returns-in-None : goal.returns-in-None
returns-in-None c =
    let at : c.args.at ≡ index_of c.args.place (take c.self.inside.len c.self.inside.entries) = rw (← c.self.view_is) at c.requires in
    let e : index_of c.args.place (take c.self.inside.len c.self.inside.entries) ≡ None = sym at ∙ c.in-None.is in
    rw (c.unknown.ensures, ← c.self.view_is) (sym (not_noted c.args.place (take c.self.inside.len c.self.inside.entries) e).is)

pub offset_bounds-self-inside-i : goal.offset_bounds-self-inside-i
offset_bounds-self-inside-i c = let h = below (goal.at.offset_bounds-self-inside-i c).In-Some in search rules
