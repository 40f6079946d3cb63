use Rattle.std.proofs.Common.{rules}
use Rattle.model_snapshot.proofs.cited.Following.{law_holds}
use Rattle.model_snapshot.proofs.CallLemmas.{begun_leads_on}
use Rattle.model_snapshot.specs.Places.{KnownPlaces, places_by}
use Rattle.model_snapshot.proofs.world.SnapWorld.begin.Given.{Over}
use Rattle.model_snapshot.proofs.world.SnapWorld.begin.Goals as goal

abbrev known : (g : Over) → KnownPlaces g.row.W.Denot g.row.W-Reg.Denot g.row.W-Value.Denot g.row.W-Walker.Denot g.row.W-Walk.Denot
known g = places_by g.W.Walker.StepProgram.steps g.W.Walker.PlaceWalker.place_of g.W.Walk.SegmentWalk.walks g.W.StepMemory.steps g.W.Places.most_of g.W.Places.walker_from g.W.Places.walk_from g.W.Places.ties

pub returns-clause-after : goal.returns-clause-after
returns-clause-after g c = begun_leads_on (known g) _ c.begin.new.self _ _ (search rules) (search rules)

pub returns-clause-law : goal.returns-clause-law
returns-clause-law g c = law_holds _ g.met.W.Places.laws c.begin.new.self
