use Rattle.std.proofs.Common.{◌≡◌, Some, None, refl, ap, ◌∙◌, option_map}
use Rattle.model_steps.specs.Participant.{participant_of, program_of, beginner}
use Rattle.model_steps.proofs.cited.Found.{Found}
use Rattle.model_steps.proofs.cited.Roster as roster
use Rattle.model_steps.proofs.cited.DistinctParticipants.{distinct_there}
use Rattle.model_steps.proofs.world.World.ask.Goals as goal
use Rattle.model_steps.proofs.world.World.ask.Goals.{In_default, After-index_mut}

absent : (g : _) (c : In_default g) → participant_of c.args.id c.args.self.now.participants ≡ None
absent g c = roster.absent (λ v. v.identity) (λ v. v) c.args.id c.args.self.now.participants c.deref.ensures.value (ap (λ w. w.participants) c.self.view_is) c.in_default.ensures.answer

pub returns-in_default-clause-answer : goal.returns-in_default-clause-answer
returns-in_default-clause-answer g c = rw (absent g (goal.at.returns-in_default-clause-answer g c).In_default) refl

pub returns-in_default-clause-after : goal.returns-in_default-clause-after
returns-in_default-clause-after g c = rw (absent g (goal.at.returns-in_default-clause-after g c).In_default) refl

-- the participant that is asked
asked : (g : _) (c : After-index_mut g) → Found c.args.id c.args.self.now.participants c.in-Some.i c.index_mut.result.now
asked g c =
    roster.found (λ v. v.identity) (λ v. v) c.args.id c.args.self.now.participants c.in-Some.i c.index_mut.result.now
    c.deref.ensures.value (ap (λ w. w.participants) c.self.view_is) c.in-Some.ensures.answer c.index_mut.ensures.value

its_program : (g : _) (c : After-index_mut g) → program_of c.args.id c.args.self.now.participants ≡ Some c.index_mut.result.now.program
its_program g c = ap (option_map (λ p. p.program)) (asked g c).is

pub ask-requires : goal.ask-requires
ask-requires g c = c.requires c.index_mut.result.now.program (its_program g (goal.at.ask-requires g c).After-index_mut)

pub returns-clause-answer : goal.returns-clause-answer
returns-clause-answer g c = rw ((asked g (goal.at.returns-clause-answer g c).After-index_mut).is) refl

pub returns-clause-after : goal.returns-clause-after
returns-clause-after g c =
    let f = asked g (goal.at.returns-clause-after g c).After-index_mut in
    let t = its_program g (goal.at.returns-clause-after g c).After-index_mut in
    let new : c.ask.new.self ≡ beginner c.args.id (g.Q.Request.asked c.args.request c.index_mut.result.now.program) = c.ask.ensures ∙ ap (λ n. beginner n (g.Q.Request.asked c.args.request c.index_mut.result.now.program)) f.identity in
    let put = f.put (beginner c.args.id (g.Q.Request.asked c.args.request c.index_mut.result.now.program)) refl in
    rw (t, put, new, ← c.self.view_is) refl

pub invariant_of-self : goal.invariant_of-self
invariant_of-self g c =
    let own : c.ask.new.self.identity ≡ c.index_mut.result.now.identity = ap (λ p. p.identity) c.ask.ensures in
    (c.self.invariant.0, distinct_there c.args.id c.in-Some.i c.index_mut.result.now c.ask.new.self c.deref.ensures.value c.in-Some.ensures.answer c.index_mut.ensures.value own c.self.invariant.1)
