use Rattle.std.proofs.Common.{Ok, sym, ◌∙◌}
use Rattle.model_snapshot.specs.declared.client.SnapReply.TheVariants.{Quiet}
use Rattle.model_snapshot.proofs.cited.SnapWorldLemmas.{after_stepped}
use Rattle.model_snapshot.proofs.CallLemmas.{reads_state, reads_answer}
use Rattle.model_snapshot.proofs.cited.Following.{law_holds}
use Rattle.model_snapshot.specs.Places.{KnownPlaces, places_by}
use Rattle.model_snapshot.proofs.world.SnapWorld.read_on.Given.{Over}
use Rattle.model_snapshot.proofs.world.SnapWorld.read_on.Goals as goal

abbrev known : (g : Over) → KnownPlaces g.row.W.Denot g.row.W-Reg.Denot g.row.W-Value.Denot g.row.W-Walker.Denot g.row.W-Walk.Denot
known g = places_by g.W.Walker.StepProgram.steps g.W.Walker.PlaceWalker.place_of g.W.Walk.SegmentWalk.walks g.W.StepMemory.steps g.W.Places.most_of g.W.Places.walker_from g.W.Places.walk_from g.W.Places.ties

pub returns-clause-law : goal.returns-clause-law
returns-clause-law g c = law_holds (known g) g.met.W.Places.laws c.read_on.new.self

pub returns-clause-answer : goal.returns-clause-answer
returns-clause-answer g c = λ goes.
    rw (← c.self.view_is) (reads_answer (known g) c.self.inside.world c.args.id (c.read_on.ensures.reads goes) (c.read_on.ensures.answer goes))

pub returns-clause-state : goal.returns-clause-state
returns-clause-state g c = λ goes.
    rw (← c.self.view_is) (c.read_on.ensures.after goes ∙ sym (reads_state (known g) c.self.inside.world c.args.id (c.read_on.ensures.reads goes)))

pub returns-clause-after : goal.returns-clause-after
returns-clause-after g c = λ goes.
    after_stepped (known g) c.args.self.now c.read_on.new.self c.args.id (Ok Quiet) (returns-clause-state g c goes) (sym (returns-clause-answer g c goes))
