use Rattle.std.proofs.Common.{◌≡◌, ◌<◌, Ok, IfSome, Option, Some, None, set, refl, sym, ap, ◌∙◌, length}
use Rattle.model_steps.proofs.Common.{get_or_default, resumed, with_participant, got_by}
use Rattle.std.proofs.lemmas.Option.{IfSome_then}
use Rattle.std.proofs.lemmas.Result.{on_err_weaker}
use Rattle.model_steps.specs.Taken.{reported_in}
use Rattle.model_steps.proofs.cited.LocalityLemmas.{step_local}
use Rattle.model_steps.proofs.cited.Found.{Found}
use Rattle.model_steps.proofs.cited.Roster as roster
use Rattle.model_steps.proofs.cited.StepLemmas.{going_answer, going_after, going_refused}
use Rattle.model_steps.proofs.cited.DistinctParticipants.{distinct_there}
use Rattle.model_steps.proofs.world.World.take.Goals as goal
use Rattle.model_steps.proofs.world.World.take.Goals.{After-index-walker, After-take}

found_participant : (g : _) (c : After-index-walker g) → Found c.args.id c.args.self.now.participants c.in-Some.i c.index-walker.result.now
found_participant g c =
    roster.found (λ v. v.identity) (λ v. v) c.args.id c.args.self.now.participants c.in-Some.i c.index-walker.result.now
    c.deref.ensures.value (ap (λ w. w.participants) c.self.view_is) c.in-Some.ensures.answer c.index-walker.ensures

-- the participant that the shortcut was handed, and the memory
record Taken (g : _) (c : After-take g) : Type 0 where
  same : c.index_mut.result.now ≡ c.index-walker.result.now
  memory : c.self.inside.memory ≡ c.args.self.now.memory

taken : (g : _) (c : After-take g) → Taken g c
taken g c =
    let below : c.in-Some.i < length c.self.inside.participants.items = rw (← c.deref.ensures.value) c.in-Some.ensures.inside in
    record {
      same = c.index_mut.ensures.value ∙ get_or_default c.self.inside.participants.items c.in-Some.i _ _ below ∙ sym c.index-walker.ensures;
      memory = ap (λ w. w.memory) c.self.view_is;
    }

-- two things that hold of what is reported, if anything is
both_some : {X : Type 0} {P Q S : Type 0} (r : Option X) → IfSome r (λ _. P) → IfSome r (λ _. Q) → (P → Q → S) → IfSome r (λ _. S)
both_some None p q f = tt
both_some (Some x) p q f = f p q

pub returns-clause-no_memory : goal.returns-clause-no_memory
returns-clause-no_memory g c =
    let f = found_participant g (goal.at.returns-clause-no_memory g c).After-index-walker in
    let w = taken g (goal.at.returns-clause-no_memory g c).After-take in
    on_err_weaker c.take.result (λ refused.
    going_refused g.P.StepProgram.steps g.S.StepMemory.steps c.args.self.now c.args.id c.index-walker.result.now f.is c.if-walker.false
    ∙ rw (← w.memory, ← w.same) refused) c.take.ensures.no_memory

pub returns-clause-answer : goal.returns-clause-answer
returns-clause-answer g c =
    let f = found_participant g (goal.at.returns-clause-answer g c).After-index-walker in
    let w = taken g (goal.at.returns-clause-answer g c).After-take in
    IfSome_then (reported_in c.take.result) c.take.ensures.note (λ reported said.
    going_answer g.P.StepProgram.steps g.S.StepMemory.steps c.args.self.now c.args.id c.index-walker.result.now f.is c.if-walker.false
    ∙ ap Ok (rw (← w.memory, ← w.same) said))

pub returns-clause-takes : goal.returns-clause-takes
returns-clause-takes g c =
    let f = found_participant g (goal.at.returns-clause-takes g c).After-index-walker in
    let w = taken g (goal.at.returns-clause-takes g c).After-take in
    IfSome_then (reported_in c.take.result) c.take.ensures.takes (λ reported takes. (c.index-walker.result.now, f.is, rw (← w.same) takes))

pub returns-clause-after : goal.returns-clause-after
returns-clause-after g c =
    let f = found_participant g (goal.at.returns-clause-after g c).After-index-walker in
    let w = taken g (goal.at.returns-clause-after g c).After-take in
    let m : c.self.inside.most ≡ c.args.self.now.most = ap (λ w. w.most) c.self.view_is in
    let v : c.self.inside.participants.items ≡ c.args.self.now.participants = ap (λ w. w.participants) c.self.view_is in
    let got = got_by g.P.StepProgram.steps g.S.StepMemory.steps c.args.self.now.memory c.index-walker.result.now in
    both_some (reported_in c.take.result) c.take.ensures.after c.take.ensures.memory (λ after changed.
    let participant : c.take.new.self ≡ resumed g.P.StepProgram.steps c.index-walker.result.now got = rw (← w.memory, ← w.same) after in
    let memory : c.take.new.memory ≡ g.S.StepMemory.steps.after c.args.self.now.memory (g.P.StepProgram.steps.next c.index-walker.result.now.program) = rw (← w.memory, ← w.same) changed in
    let identity : c.take.new.self.identity ≡ c.args.id = ap (λ p. p.identity) participant ∙ f.identity in
    let put : with_participant c.take.new.self c.args.self.now.participants ≡ set c.args.self.now.participants c.in-Some.i c.take.new.self = f.put c.take.new.self identity in
    sym (going_after g.P.StepProgram.steps g.S.StepMemory.steps c.args.self.now c.args.id c.index-walker.result.now f.is c.if-walker.false
    ∙ rw (← participant, put, ← memory, ← v, ← m) refl))

pub returns-clause-local : goal.returns-clause-local
returns-clause-local g c =
    IfSome_then (reported_in c.take.result) (returns-clause-after g c) (λ reported e.
    rw e (step_local g.P.StepProgram.steps g.S.StepMemory.steps g.met.S.StepMemory.others c.args.self.now c.args.id))

pub invariant_of-self : goal.invariant_of-self
invariant_of-self g c =
    let reported : IfSome (reported_in c.take.result) (λ _. c.take.new.self.identity ≡ c.index_mut.result.now.identity) = IfSome_then (reported_in c.take.result) c.take.ensures.after (λ reported after. ap (λ p. p.identity) after) in
    let own : c.take.new.self.identity ≡ c.index_mut.result.now.identity =
    elim (reported_in c.take.result) as (λ o. (o ≡ None → c.take.new.self ≡ c.index_mut.result.now) → IfSome o (λ _. c.take.new.self.identity ≡ c.index_mut.result.now.identity) → c.take.new.self.identity ≡ c.index_mut.result.now.identity) [
      | None ↦ λ kept same. ap (λ p. p.identity) (kept refl)
      | Some x ↦ λ kept same. same
    ] c.take.ensures.kept reported
    in
    (c.self.invariant.0, distinct_there c.args.id c.in-Some.i c.index_mut.result.now c.take.new.self c.deref.ensures.value c.in-Some.ensures.answer c.index_mut.ensures.value own c.self.invariant.1)
