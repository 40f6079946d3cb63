use Rattle.std.proofs.Common.{◌≡◌, ◌<◌, true, false, Ok, set, refl, sym, ap, ◌∙◌, length}
use Rattle.model_steps.proofs.Common.{get_or_default, resumed, with_participant, got_by}
use Rattle.model_steps.specs.declared.access.Access.TheVariants.{Read}
use Rattle.model_steps.specs.declared.access.Answer.TheVariants.{Value}
use Rattle.model_steps.proofs.cited.LocalityLemmas.{step_local}
use Rattle.model_steps.proofs.cited.Found.{Found}
use Rattle.model_steps.proofs.cited.Roster as roster
use Rattle.model_steps.proofs.cited.StepLemmas.{going_answer, going_after}
use Rattle.model_steps.proofs.cited.DistinctParticipants.{distinct_there}
use Rattle.model_steps.proofs.world.World.read_on.Goals as goal
use Rattle.model_steps.proofs.world.World.read_on.Goals.{After-index-reader, After-read_on}

found_participant : (g : _) (c : After-index-reader g) → Found c.args.id c.args.self.now.participants c.in-Some.i c.index-reader.result.now
found_participant g c =
    roster.found (λ v. v.identity) (λ v. v) c.args.id c.args.self.now.participants c.in-Some.i c.index-reader.result.now
    c.deref.ensures.value (ap (λ w. w.participants) c.self.view_is) c.in-Some.ensures.answer c.index-reader.ensures

-- what stands in the register is what the access answers, and the access leaves the memory as it is
record ReadsOn (g : _) (c : After-read_on g) : Type 0 where
  got : Value c.in-Some-look.value.now ≡ got_by g.P.StepProgram.steps g.S.StepMemory.steps c.args.self.now.memory c.index-reader.result.now
  memory : g.S.StepMemory.steps.after c.args.self.now.memory (g.P.StepProgram.steps.next c.index-reader.result.now.program) ≡ c.args.self.now.memory
  same : c.index_mut.result.now ≡ c.index-reader.result.now

reads_on : (g : _) (c : After-read_on g) → ReadsOn g c
reads_on g c =
    let m : c.self.inside.memory ≡ c.args.self.now.memory = ap (λ w. w.memory) c.self.view_is in
    let below : c.in-Some.i < length c.self.inside.participants.items = rw (← c.deref.ensures.value) c.in-Some.ensures.inside in
    let next : g.P.StepProgram.steps.next c.index-reader.result.now.program ≡ Read c.in-Some-reads.register = c.in-Some-reads.ensures in
    let stood : c.in-Some-look.value.now ≡ (g.S.StepMemory.steps.register c.args.self.now.memory c.in-Some-reads.register).0 = rw m at c.in-Some-look.ensures.value in
    record {
      got = rw next (ap Value stood);
      memory = rw next (rw m at c.in-Some-look.ensures.kept);
      same = c.index_mut.ensures.value ∙ get_or_default c.self.inside.participants.items c.in-Some.i _ _ below ∙ sym c.index-reader.ensures;
    }

pub returns-clause-answer : goal.returns-clause-answer
returns-clause-answer g c = λ goes.
    let f = found_participant g (goal.at.returns-clause-answer g c).After-index-reader in
    let w = reads_on g (goal.at.returns-clause-answer g c).After-read_on in
    going_answer g.P.StepProgram.steps g.S.StepMemory.steps c.args.self.now c.args.id c.index-reader.result.now f.is c.if-reader.false
    ∙ ap Ok (rw (← w.got, ← w.same) (c.read_on.ensures.quiet goes))

pub returns-clause-after : goal.returns-clause-after
returns-clause-after g c = λ goes.
    let f = found_participant g (goal.at.returns-clause-after g c).After-index-reader in
    let w = reads_on g (goal.at.returns-clause-after g c).After-read_on in
    let m : c.self.inside.most ≡ c.args.self.now.most = ap (λ w. w.most) c.self.view_is in
    let k : c.self.inside.memory ≡ c.args.self.now.memory = ap (λ w. w.memory) c.self.view_is in
    let v : c.self.inside.participants.items ≡ c.args.self.now.participants = ap (λ w. w.participants) c.self.view_is in
    let participant : c.read_on.new.self ≡ resumed g.P.StepProgram.steps c.index-reader.result.now (Value c.in-Some-look.value.now) = rw (← w.same) (c.read_on.ensures.after goes) in
    let identity : c.read_on.new.self.identity ≡ c.args.id = ap (λ p. p.identity) participant ∙ f.identity in
    let put : with_participant c.read_on.new.self c.args.self.now.participants ≡ set c.args.self.now.participants c.in-Some.i c.read_on.new.self = f.put c.read_on.new.self identity in
    let whole : resumed g.P.StepProgram.steps c.index-reader.result.now (got_by g.P.StepProgram.steps g.S.StepMemory.steps c.args.self.now.memory c.index-reader.result.now) ≡ c.read_on.new.self = sym (rw (← w.got) participant) in
    sym (going_after g.P.StepProgram.steps g.S.StepMemory.steps c.args.self.now c.args.id c.index-reader.result.now f.is c.if-reader.false
    ∙ rw (whole, put, w.memory, ← v, ← m, ← k) refl)

pub returns-clause-local : goal.returns-clause-local
returns-clause-local g c = λ goes.
    let e = returns-clause-after g c goes in
    rw e (step_local g.P.StepProgram.steps g.S.StepMemory.steps g.met.S.StepMemory.others c.args.self.now c.args.id)

pub returns-clause-reads : goal.returns-clause-reads
returns-clause-reads g c = λ _.
    let f = found_participant g (goal.at.returns-clause-reads g c).After-index-reader in
    (c.index-reader.result.now, c.in-Some-reads.register, f.is, c.in-Some-reads.ensures)

pub invariant_of-self : goal.invariant_of-self
invariant_of-self g c =
    let own : c.read_on.new.self.identity ≡ c.index_mut.result.now.identity =
    elim c.read_on.result as (λ b. c.read_on.result ≡ b → c.read_on.new.self.identity ≡ c.index_mut.result.now.identity) [
      | true ↦ λ e. ap (λ p. p.identity) (c.read_on.ensures.after e)
      | false ↦ λ e. ap (λ p. p.identity) (c.read_on.ensures.kept e)
    ] refl
    in
    (c.self.invariant.0, distinct_there c.args.id c.in-Some.i c.index_mut.result.now c.read_on.new.self c.deref.ensures.value c.in-Some.ensures.answer c.index_mut.ensures.value own c.self.invariant.1)
