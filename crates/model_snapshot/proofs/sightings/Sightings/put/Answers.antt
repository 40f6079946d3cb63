use Rattle.std.proofs.Common.{◌≡◌, ◌<◌, Some, None, take, set, ◌+◌, sym, ◌∙◌, arith, rules, length}
use Rattle.std.proofs.lemmas.List.{length-take-le, length-set, take_more_set}
use Rattle.std.proofs.Math.Seq.{take-set-lt}
use Rattle.model_snapshot.specs.Sightings.{index_of, noted}
use Rattle.model_snapshot.proofs.SightingLemmas.{noted_at, noted-some, noted-none, distinct-noted}
use Rattle.model_snapshot.proofs.sightings.Sightings.put.Goals as goal
use Rattle.model_snapshot.proofs.sightings.Sightings.put.Goals.{In-Some, Then-self-lt64}

found : (c : In-Some) → index_of c.args.sighting.place (take c.self.inside.len c.self.inside.entries) ≡ Some c.in-Some.i
found c =
    let at : c.args.at ≡ index_of c.args.sighting.place (take c.self.inside.len c.self.inside.entries) = rw (← c.self.view_is) at c.requires in
    sym at ∙ c.in-Some.is

below : (c : In-Some) → c.in-Some.i < c.self.inside.len
below c =
    let h = (noted_at c.args.sighting.place (take c.self.inside.len c.self.inside.entries) c.in-Some.i (found c)).inside in
    omega (arith, h, length-take-le c.self.inside.len c.self.inside.entries (omega arith))

put_there : (c : In-Some) → take c.self.inside.len (set c.self.inside.entries c.in-Some.i c.args.sighting) ≡ noted c.args.sighting (take c.self.inside.len c.self.inside.entries)
put_there c =
    take-set-lt c.self.inside.len c.self.inside.entries c.in-Some.i c.args.sighting (below c)
    ∙ sym (noted-some c.args.sighting (take c.self.inside.len c.self.inside.entries) c.in-Some.i (found c))

put_last : (c : Then-self-lt64) → take (c.self.inside.len + 1) (set c.self.inside.entries c.self.inside.len c.args.sighting) ≡ noted c.args.sighting (take c.self.inside.len c.self.inside.entries)
put_last c =
    let at : c.args.at ≡ index_of c.args.sighting.place (take c.self.inside.len c.self.inside.entries) = rw (← c.self.view_is) at c.requires in
    let e : index_of c.args.sighting.place (take c.self.inside.len c.self.inside.entries) ≡ None = sym at ∙ c.in-None.is in
    let l : length (take c.self.inside.len c.self.inside.entries) ≡ c.self.inside.len = length-take-le c.self.inside.len c.self.inside.entries (omega arith) in
    take_more_set c.self.inside.entries c.self.inside.len c.args.sighting (omega arith)
    ∙ sym (noted-none c.args.sighting (take c.self.inside.len c.self.inside.entries) e (omega arith))

pub bounds-self-inside-i : goal.bounds-self-inside-i
bounds-self-inside-i c = let h = below (goal.at.bounds-self-inside-i c).In-Some in omega arith

pub overflow_add-self : goal.overflow_add-self
overflow_add-self c = let h = below (goal.at.overflow_add-self c).In-Some in search rules

pub invariant_of-self : goal.invariant_of-self
invariant_of-self c =
    let known = (goal.at.invariant_of-self c).In-Some in
    (omega arith, omega (arith, length-set c.self.inside.entries c.in-Some.i c.args.sighting), rw (put_there known) (distinct-noted c.args.sighting _ c.self.invariant.2))

pub invariant_of-self-then-self-lt64 : goal.invariant_of-self-then-self-lt64
invariant_of-self-then-self-lt64 c =
    let known = (goal.at.invariant_of-self-then-self-lt64 c).Then-self-lt64 in
    (omega arith, omega (arith, length-set c.self.inside.entries c.self.inside.len c.args.sighting), rw (put_last known) (distinct-noted c.args.sighting _ c.self.invariant.2))

pub returns-in-Some : goal.returns-in-Some
returns-in-Some c = rw (← c.self.view_is) (put_there (goal.at.returns-in-Some c).In-Some)

pub returns-then-self-lt64 : goal.returns-then-self-lt64
returns-then-self-lt64 c = rw (← c.self.view_is) (put_last (goal.at.returns-then-self-lt64 c).Then-self-lt64)

pub offset_bounds-self-inside-i : goal.offset_bounds-self-inside-i
offset_bounds-self-inside-i c = let h = below (goal.at.offset_bounds-self-inside-i c).In-Some in search rules
