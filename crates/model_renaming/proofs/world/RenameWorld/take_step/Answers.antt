use Rattle.std.proofs.Common.{arith, length, ◌<◌, ◌≡◌, Some, None, sym, ap, ◌∙◌}
use Rattle.model_renaming.proofs.Common.{index_of, program_of, KnownPlaces, places_by, RenameState, step_refusal}
use Rattle.model_renaming.specs.RenameWorld.{refusal_by}
use Rattle.model_renaming.proofs.rounds.StepCases.{step_refused, closed_answer, taken_step, taken_room}
use Rattle.model_renaming.proofs.world.RenameWorld.take_step.Given.{Over}
use Rattle.model_renaming.proofs.world.RenameWorld.take_step.Goals as goal
use Rattle.model_renaming.proofs.world.RenameWorld.take_step.Goals.{After-index_mut, In-Err}

abbrev known : (g : Over) → KnownPlaces g.row.W.Denot g.row.W-Reg.Denot g.row.W-Value.Denot g.row.W-Walker.Denot g.row.W-Walk.Denot
known g = places_by g.W.Walker.StepProgram.steps g.W.Walker.PlaceWalker.place_of g.W.Walk.SegmentWalk.walks g.W.StepMemory.steps g.W.Places.most_of g.W.Places.walker_from g.W.Places.walk_from g.W.Places.ties

-- the world before the step, as it is kept
abbrev before : (g : _) (c : After-index_mut g) → RenameState g.row.W.Denot g.row.W-Walker.Denot g.row.W-Walk.Denot
before g c = record { snap = c.self.inside.snap; rounds = c.self.inside.rounds.items; limit = c.self.inside.limit }

there : (g : _) (c : After-index_mut g) → Some c.in-Ok.at ≡ index_of c.args.id c.self.inside.rounds.items
there g c = rw c.deref.ensures.value at c.in-Ok.ensures.ready.0

ready : (g : _) (c : After-index_mut g) → step_refusal (before g c) c.args.id ≡ None
ready g c = rw c.deref.ensures.value at c.in-Ok.ensures.ready.1

pub returns-in-Ok : goal.returns-in-Ok
returns-in-Ok g c =
    let s = (goal.at.returns-in-Ok g c).After-index_mut in
    let h = taken_step (known g) (before g s) c.args.id c.in-Ok.at c.index_mut.result.now _ (there g s) c.index_mut.ensures.value c.take.result c.take.new.view c.take.new.snap c.take.new.participant c.take.ensures (ready g s) in
    rw (← c.self.view_is) (record { answer = h.answer; state = h.state; unchanged_on_error = h.refused; no_memory = h.no_memory })

-- the refusal is the one that is due
refusal_is : (g : _) (c : In-Err g) → step_refusal c.args.self.now c.args.id ≡ Some c.in-Err.refusal
refusal_is g c = ap (λ vs. refusal_by (program_of c.args.id vs)) (sym (c.deref.ensures.value ∙ ap (λ w. w.rounds) c.self.view_is)) ∙ c.in-Err.ensures.closed

pub returns-in-Err-clause-answer : goal.returns-in-Err-clause-answer
returns-in-Err-clause-answer g c = λ _. closed_answer (known g) c.args.self.now c.args.id c.in-Err.refusal (refusal_is g c)

pub returns-in-Err-clause-state : goal.returns-in-Err-clause-state
returns-in-Err-clause-state g c = λ _.
    let why = c.in-Err.refusal in
    sym (step_refused (known g) c.args.self.now c.args.id why (sym (closed_answer (known g) c.args.self.now c.args.id why (refusal_is g c))))

pub invariant_of-self : goal.invariant_of-self
invariant_of-self g c =
    let s = (goal.at.invariant_of-self g c).After-index_mut in
    taken_room (known g) (before g s) c.args.id c.in-Ok.at c.index_mut.result.now _ (there g s) c.index_mut.ensures.value c.take.result c.take.new.view c.take.new.snap c.take.new.participant c.take.ensures _ c.self.invariant

pub index_mut-requires : goal.index_mut-requires
index_mut-requires g c =
    let below : c.in-Ok.at < length c.self.inside.rounds.items = rw c.deref.ensures.value at c.in-Ok.ensures.inside in omega (arith, below, c.self.inside.rounds.ok.0)
