use Rattle.model_steps.proofs.cited.RunLemmas.{run_splits}
use Rattle.model_snapshot.specs.Snapshot.{new_object, observed, Allows}
use Rattle.model_snapshot.proofs.cited.Following.{snapshot_proved, all_distinct, reported_holds, consistent_holds, own_access_holds, begins_the_same}
use Rattle.model_snapshot.proofs.cited.SureSteps.{lacks_on_way}
use Rattle.model_snapshot.proofs.cited.SnapWorldLemmas.{after_stepped, snap_alike, stays_alike}
use Rattle.std.proofs.Common.{refl}
use Rattle.model_snapshot.specs.Places.{KnownPlaces, places_by}
use Rattle.model_snapshot.proofs.laws.law_of_snapshot_calls.Given.{Over}
use Rattle.model_snapshot.proofs.laws.law_of_snapshot_calls.Goals as goal

abbrev known : (g : Over) → KnownPlaces g.row.W.Denot g.row.W-Reg.Denot g.row.W-Value.Denot g.row.W-Walker.Denot g.row.W-Walk.Denot
known g = places_by g.W.Walker.StepProgram.steps g.W.Walker.PlaceWalker.place_of g.W.Walk.SegmentWalk.walks g.W.StepMemory.steps g.W.Places.most_of g.W.Places.walker_from g.W.Places.walk_from g.W.Places.ties

pub returns : goal.returns
returns g c = record {
  machine = snapshot_proved _ g.met.W.Places.laws;
  prefix = λ bounds r more law. let cut = run_splits observed (Allows bounds) new_object r more law.0 law.1 in (cut.0, cut.1);
  distinct = all_distinct _ g.met.W.Places.laws;
  reported = reported_holds _ g.met.W.Places.laws;
  consistent = consistent_holds _ g.met.W.Places.laws;
  sure = lacks_on_way _ g.met.W.Places.laws;
  own = own_access_holds _ g.met.W.Places.laws;
  leads = λ w p new reply. after_stepped (known g) w new p reply;
  answered = λ w p other. snap_alike (known g) w other p;
  stays = λ w p. stays_alike (known g) w _ p refl;
  alike = begins_the_same _ g.met.W.Places.laws;
}
