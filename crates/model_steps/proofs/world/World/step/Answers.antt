use Rattle.std.proofs.Common.{◌≡◌, ◌<◌, None, Ok, set, refl, sym, ap, ◌∙◌, length}
use Rattle.model_steps.proofs.Common.{get_or_default, participant_of, resumed, with_participant, got_by}
use Rattle.model_steps.proofs.cited.Found.{Found}
use Rattle.model_steps.proofs.cited.Roster as roster
use Rattle.model_steps.proofs.cited.LocalityLemmas.{step_local, answers_alike}
use Rattle.model_steps.proofs.cited.StepLemmas.{absent_answer, absent_after, ended_answer, ended_after, going_answer, going_after, going_refused}
use Rattle.model_steps.proofs.cited.DistinctParticipants.{distinct_there}
use Rattle.model_steps.proofs.world.World.step.Goals as goal
use Rattle.model_steps.proofs.world.World.step.Goals.{In_default, After-index-participant, After-resume}

absent : (g : _) (c : In_default g) → participant_of c.args.id c.args.self.now.participants ≡ None
absent g c = roster.absent (λ v. v.identity) (λ v. v) c.args.id c.args.self.now.participants c.deref.ensures.value (ap (λ w. w.participants) c.self.view_is) c.in_default.ensures.answer

pub returns-in_default-clause-answer : goal.returns-in_default-clause-answer
returns-in_default-clause-answer g c = λ _.
    sym (absent_answer g.P.StepProgram.steps g.S.StepMemory.steps c.args.self.now c.args.id (absent g (goal.at.returns-in_default-clause-answer g c).In_default))

pub returns-in_default-clause-after : goal.returns-in_default-clause-after
returns-in_default-clause-after g c = λ _.
    sym (absent_after g.P.StepProgram.steps g.S.StepMemory.steps c.args.self.now c.args.id (absent g (goal.at.returns-in_default-clause-after g c).In_default))

found_participant : (g : _) (c : After-index-participant g) → Found c.args.id c.args.self.now.participants c.in-Some.i c.index-participant.result.now
found_participant g c =
    roster.found (λ v. v.identity) (λ v. v) c.args.id c.args.self.now.participants c.in-Some.i c.index-participant.result.now
    c.deref.ensures.value (ap (λ w. w.participants) c.self.view_is) c.in-Some.ensures.answer c.index-participant.ensures

pub returns-then-participant-clause-answer : goal.returns-then-participant-clause-answer
returns-then-participant-clause-answer g c = λ _.
    let f = found_participant g (goal.at.returns-then-participant-clause-answer g c).After-index-participant in
    sym (ended_answer g.P.StepProgram.steps g.S.StepMemory.steps c.args.self.now c.args.id c.index-participant.result.now f.is c.if-participant.true)

pub returns-then-participant-clause-after : goal.returns-then-participant-clause-after
returns-then-participant-clause-after g c = λ _.
    let f = found_participant g (goal.at.returns-then-participant-clause-after g c).After-index-participant in
    sym (ended_after g.P.StepProgram.steps g.S.StepMemory.steps c.args.self.now c.args.id c.index-participant.result.now f.is c.if-participant.true)

pub returns-in_default-access-clause-no_memory : goal.returns-in_default-access-clause-no_memory
returns-in_default-access-clause-no_memory g c = λ _.
    let f = found_participant g (goal.at.returns-in_default-access-clause-no_memory g c).After-index-participant in
    let m : c.self.inside.memory ≡ c.args.self.now.memory = ap (λ w. w.memory) c.self.view_is in
    let next : c.next.result ≡ g.P.StepProgram.steps.next c.index-participant.result.now.program = c.next.ensures in
    going_refused g.P.StepProgram.steps g.S.StepMemory.steps c.args.self.now c.args.id c.index-participant.result.now f.is c.if-participant.false
    ∙ rw (← m, ← next) c.in_default-access.ensures.no_memory

-- what the access answered and the participant made of it
record Going (g : _) (c : After-resume g) : Type 0 where
  got : c.in-Ok.got ≡ got_by g.P.StepProgram.steps g.S.StepMemory.steps c.args.self.now.memory c.index-participant.result.now
  memory : c.access.new.self ≡ g.S.StepMemory.steps.after c.args.self.now.memory (g.P.StepProgram.steps.next c.index-participant.result.now.program)
  note : c.resume.result ≡ g.P.StepProgram.steps.note c.index-participant.result.now.program c.in-Ok.got
  participant : c.resume.new.self ≡ resumed g.P.StepProgram.steps c.index-participant.result.now c.in-Ok.got

going : (g : _) (c : After-resume g) → Going g c
going g c =
    let m : c.self.inside.memory ≡ c.args.self.now.memory = ap (λ w. w.memory) c.self.view_is in
    let below : c.in-Some.i < length c.self.inside.participants.items = rw (← c.deref.ensures.value) c.in-Some.ensures.inside in
    let same : c.index_mut.result.now ≡ c.index-participant.result.now = c.index_mut.ensures.value ∙ get_or_default c.self.inside.participants.items c.in-Some.i _ _ below ∙ sym c.index-participant.ensures in
    let next : c.next.result ≡ g.P.StepProgram.steps.next c.index-participant.result.now.program = c.next.ensures in
    record {
      got = rw (next, m) at c.in-Ok.ensures.answer;
      memory = rw (next, m) at c.in-Ok.ensures.after;
      note = rw (← same) c.resume.ensures.note;
      participant = rw (← same) c.resume.ensures.after;
    }

pub returns-clause-answer : goal.returns-clause-answer
returns-clause-answer g c = λ _.
    let f = found_participant g (goal.at.returns-clause-answer g c).After-index-participant in
    let w = going g (goal.at.returns-clause-answer g c).After-resume in
    sym (going_answer g.P.StepProgram.steps g.S.StepMemory.steps c.args.self.now c.args.id c.index-participant.result.now f.is c.if-participant.false
    ∙ ap Ok (sym (rw (← w.got) w.note)))

pub returns-clause-after : goal.returns-clause-after
returns-clause-after g c = λ _.
    let f = found_participant g (goal.at.returns-clause-after g c).After-index-participant in
    let w = going g (goal.at.returns-clause-after g c).After-resume in
    let m : c.self.inside.most ≡ c.args.self.now.most = ap (λ w. w.most) c.self.view_is in
    let v : c.self.inside.participants.items ≡ c.args.self.now.participants = ap (λ w. w.participants) c.self.view_is in
    let identity : c.resume.new.self.identity ≡ c.args.id = ap (λ p. p.identity) w.participant ∙ f.identity in
    let put : with_participant c.resume.new.self c.args.self.now.participants ≡ set c.args.self.now.participants c.in-Some.i c.resume.new.self = f.put c.resume.new.self identity in
    let whole : resumed g.P.StepProgram.steps c.index-participant.result.now (got_by g.P.StepProgram.steps g.S.StepMemory.steps c.args.self.now.memory c.index-participant.result.now) ≡ c.resume.new.self = sym (rw (← w.got) w.participant) in
    sym (going_after g.P.StepProgram.steps g.S.StepMemory.steps c.args.self.now c.args.id c.index-participant.result.now f.is c.if-participant.false
    ∙ rw (whole, put, ← v, ← m, ← w.memory) refl)

pub returns-in_default-clause-alike : goal.returns-in_default-clause-alike
returns-in_default-clause-alike g c = λ kept other h.
    returns-in_default-clause-answer g c kept ∙ answers_alike g.P.StepProgram.steps g.S.StepMemory.steps c.args.id c.args.self.now other h

pub returns-then-participant-clause-alike : goal.returns-then-participant-clause-alike
returns-then-participant-clause-alike g c = λ kept other h.
    returns-then-participant-clause-answer g c kept ∙ answers_alike g.P.StepProgram.steps g.S.StepMemory.steps c.args.id c.args.self.now other h

pub returns-clause-alike : goal.returns-clause-alike
returns-clause-alike g c = λ kept other h.
    returns-clause-answer g c kept ∙ answers_alike g.P.StepProgram.steps g.S.StepMemory.steps c.args.id c.args.self.now other h

pub returns-clause-local : goal.returns-clause-local
returns-clause-local g c =
    let e = returns-clause-after g c (λ no. cc) in
    rw e (step_local g.P.StepProgram.steps g.S.StepMemory.steps g.met.S.StepMemory.others c.args.self.now c.args.id)

pub invariant_of-self-2 : goal.invariant_of-self-2
invariant_of-self-2 g c =
    let own : c.resume.new.self.identity ≡ c.index_mut.result.now.identity = ap (λ p. p.identity) c.resume.ensures.after in
    (c.self.invariant.0, distinct_there c.args.id c.in-Some.i c.index_mut.result.now c.resume.new.self c.deref.ensures.value c.in-Some.ensures.answer c.index_mut.ensures.value own c.self.invariant.1)
