use Rattle.model_renaming.proofs.Common.{Began, call_leads_on, renaming, KnownPlaces, places_by}
use Rattle.model_renaming.proofs.cited.NamedPlaces.{law_always}
use Rattle.model_renaming.proofs.world.RenameWorld.begin.Given.{Over}
use Rattle.model_renaming.proofs.world.RenameWorld.begin.Goals as goal

abbrev pub known : (g : Over) → KnownPlaces g.row.W.Denot g.row.W-Reg.Denot g.row.W-Value.Denot g.row.W-Walker.Denot g.row.W-Walk.Denot
known g = places_by g.W.Walker.StepProgram.steps g.W.Walker.PlaceWalker.place_of g.W.Walk.SegmentWalk.walks g.W.StepMemory.steps g.W.Places.most_of g.W.Places.walker_from g.W.Places.walk_from g.W.Places.ties

pub returns-clause-after : goal.returns-clause-after
returns-clause-after g c = call_leads_on (renaming (known g) g.W.RenamePlaces.world) c.args.self.now c.take_begin.new.self (Began c.args.id c.take_begin.result) c.take_begin.ensures.state c.take_begin.ensures.answer

pub returns-clause-law : goal.returns-clause-law
returns-clause-law g c = law_always (known g) g.met.W.Places.laws g.W.RenamePlaces.world g.met.W.RenamePlaces.may_grow g.met.W.RenamePlaces.at_once c.take_begin.new.self
