use Rattle.std.proofs.Common.{Ok, IfSome, Option, Some, None, sym, ◌∙◌}
use Rattle.model_snapshot.proofs.WorldCommon.{reported_of_way, placed_note, KnownPlaces, places_by}
use Rattle.model_steps.specs.Taken.{reported_in}
use Rattle.model_snapshot.proofs.cited.SnapWorldLemmas.{after_stepped}
use Rattle.model_snapshot.proofs.CallLemmas.{way_state, way_answer}
use Rattle.model_snapshot.proofs.cited.Following.{law_holds}
use Rattle.model_snapshot.proofs.world.SnapWorld.walk_on.Given.{Over}
use Rattle.model_snapshot.proofs.world.SnapWorld.walk_on.Goals as goal

abbrev known : (g : Over) → KnownPlaces g.row.W.Denot g.row.W-Reg.Denot g.row.W-Value.Denot g.row.W-Walker.Denot g.row.W-Walk.Denot
known g = places_by g.W.Walker.StepProgram.steps g.W.Walker.PlaceWalker.place_of g.W.Walk.SegmentWalk.walks g.W.StepMemory.steps g.W.Places.most_of g.W.Places.walker_from g.W.Places.walk_from g.W.Places.ties

-- two things that hold of what the way says, if it takes the step
both_said : {X : Type 0} {P Q S : X → Type 0} (r : Option X) → IfSome r P → IfSome r Q → ((x : X) → P x → Q x → S x) → IfSome r S
both_said None p q f = tt
both_said (Some x) p q f = f x p q

pub returns-clause-law : goal.returns-clause-law
returns-clause-law g c = law_holds (known g) g.met.W.Places.laws c.take.new.self

pub returns-clause-answer : goal.returns-clause-answer
returns-clause-answer g c =
    both_said (reported_in c.take.result) c.take.ensures.takes c.take.ensures.answer (λ note takes answer.
    rw (← c.self.view_is) (way_answer (known g) c.self.inside.world c.args.id (placed_note note) takes answer))

pub returns-clause-state : goal.returns-clause-state
returns-clause-state g c =
    both_said (reported_in c.take.result) c.take.ensures.takes c.take.ensures.after (λ note takes after.
    rw (← c.self.view_is) (after ∙ sym (way_state (known g) c.self.inside.world c.args.id takes)))

pub returns-clause-after : goal.returns-clause-after
returns-clause-after g c =
    both_said (reported_in c.take.result) (returns-clause-state g c) (returns-clause-answer g c) (λ note state answer.
    after_stepped (known g) c.args.self.now c.take.new.self c.args.id (Ok (reported_of_way note)) state (sym answer))
