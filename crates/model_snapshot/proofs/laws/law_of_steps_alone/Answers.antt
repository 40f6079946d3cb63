use Rattle.model_snapshot.proofs.cited.Alone.{ends_soon_alone, ends_alike}
use Rattle.model_snapshot.specs.Places.{KnownPlaces, places_by}
use Rattle.model_snapshot.proofs.laws.law_of_steps_alone.Given.{Over}
use Rattle.model_snapshot.proofs.laws.law_of_steps_alone.Goals as goal

abbrev known : (g : Over) → KnownPlaces g.row.W.Denot g.row.W-Reg.Denot g.row.W-Value.Denot g.row.W-Walker.Denot g.row.W-Walk.Denot
known g = places_by g.W.Walker.StepProgram.steps g.W.Walker.PlaceWalker.place_of g.W.Walk.SegmentWalk.walks g.W.StepMemory.steps g.W.Places.most_of g.W.Places.walker_from g.W.Places.walk_from g.W.Places.ties

pub returns : goal.returns
returns g c = record {
  soon = ends_soon_alone _ g.met.W.Places.laws;
  alike = λ w other p. ends_alike (known g) p w other;
}
