use Rattle.model_renaming.proofs.cited.Sizes.{next_sized}
use Rattle.model_renaming.proofs.cited.NamedPlaces.{renaming_proved, answers_unrefused}
use Rattle.model_snapshot.specs.Places.{KnownPlaces, places_by}
use Rattle.model_renaming.proofs.laws.law_of_renaming_calls.Given.{Over}
use Rattle.model_renaming.proofs.laws.law_of_renaming_calls.Goals as goal

abbrev pub known : (g : Over) → KnownPlaces g.row.W.Denot g.row.W-Reg.Denot g.row.W-Value.Denot g.row.W-Walker.Denot g.row.W-Walk.Denot
known g = places_by g.W.Walker.StepProgram.steps g.W.Walker.PlaceWalker.place_of g.W.Walk.SegmentWalk.walks g.W.StepMemory.steps g.W.Places.most_of g.W.Places.walker_from g.W.Places.walk_from g.W.Places.ties

pub returns : goal.returns
returns g c = record {
  machine = renaming_proved _ g.met.W.Places.laws g.W.RenamePlaces.world g.met.W.RenamePlaces.may_grow g.met.W.RenamePlaces.at_once;
  answered = answers_unrefused _ g.met.W.Places.laws g.W.RenamePlaces.world g.met.W.RenamePlaces.may_grow g.met.W.RenamePlaces.at_once;
  kept = next_sized (known g);
}
