use Rattle.std.proofs.Common.{◌≡◌, ◌≤◌, true, false, inr, refl, sym, ◌∙◌}
use Rattle.model_renaming.proofs.Common.{KnownPlaces, places_by}
use Rattle.model_asked.specs.Config.{most_in, is_played_over}
use Rattle.model_renaming.proofs.FreshWorlds.{are_fresh, are_started, are_lawful, only_for_memory, refused_for, never_both}
use Rattle.model_asked.specs.lemmas.ConfigProofs.{most_played}
use Rattle.model_renaming.proofs.cited.NamedPlaces.{law_always}
use Rattle.model_renaming.proofs.world.RenameWorld.new.Given.{Over}
use Rattle.model_renaming.proofs.world.RenameWorld.new.Goals as goal
use Rattle.model_renaming.proofs.world.RenameWorld.new.Goals.{Else-not-is_played_over}

abbrev known : (g : Over) → KnownPlaces g.row.W.Denot g.row.W-Reg.Denot g.row.W-Value.Denot g.row.W-Walker.Denot g.row.W-Walk.Denot
known g = places_by g.W.Walker.StepProgram.steps g.W.Walker.PlaceWalker.place_of g.W.Walk.SegmentWalk.walks g.W.StepMemory.steps g.W.Places.most_of g.W.Places.walker_from g.W.Places.walk_from g.W.Places.ties

played : (g : _) (c : Else-not-is_played_over g) → is_played_over c.args.config.world g.W.RenamePlaces.world ≡ true
played g c = rw (← c.world.ensures) (sym c.is_played_over.ensures ∙ c.if-not-is_played_over.false)

-- as many as its world takes
few : (g : _) (c : Else-not-is_played_over g) → c.args.config.m ≤ most_in g.W.RenamePlaces.world
few g c = rw (← most_played c.args.config.world g.W.RenamePlaces.world (played g c)) c.args.config.in_range.1

pub with_room-requires : goal.with_room-requires
with_room-requires g c = record { some = c.args.config.in_range.0; few = few g c }

pub returns-then-not-is_played_over : goal.returns-then-not-is_played_over
returns-then-not-is_played_over g c =
    let other : is_played_over c.args.config.world g.W.RenamePlaces.world ≡ false = rw c.world.ensures at (sym c.is_played_over.ensures ∙ c.if-not-is_played_over.true) in
    record { made = tt; fresh = tt; out_of_range = (λ e. other, λ e. refl); only = inr refl; after = tt; law = tt }

pub returns : goal.returns
returns g c =
    let s = (goal.at.returns g c).Else-not-is_played_over in
    let empty = g.met.W.RenamePlaces.are_empty c.args.config.m (few g s) in
    let first = g.W.RenamePlaces.empty_for c.args.config.m in
    let made = c.with_room.ensures.made in
    let in_range = c.args.config.in_range in
    record {
      made = made;
      fresh = are_fresh (known g) g.W.RenamePlaces.world first c.args.config.m c.args.config.limit empty.0 empty.1 c.with_room.result made;
      out_of_range = (λ e. absurd (refused_for c.with_room.result c.with_room.ensures.no_memory e), λ e. absurd (never_both (is_played_over c.args.config.world g.W.RenamePlaces.world) (played g s) e));
      only = only_for_memory c.with_room.result c.with_room.ensures.no_memory;
      after = are_started (known g) g.W.RenamePlaces.world first c.args.config.m c.args.config.limit empty.0 empty.1 in_range.4 in_range.5 c.with_room.result made;
      law = are_lawful (known g) g.W.RenamePlaces.world first c.args.config.m c.args.config.limit empty.0 empty.1
          (law_always (known g) g.met.W.Places.laws g.W.RenamePlaces.world g.met.W.RenamePlaces.may_grow g.met.W.RenamePlaces.at_once) c.with_room.result;
    }
