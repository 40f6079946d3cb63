use Rattle.std.proofs.Common.{◌≡◌, Some, None, Ok, refl, sym, ap, ◌∙◌, option_copied}
use Rattle.model_snapshot.proofs.WorldCommon.{KnownPlaces, places_by, program_of, reply_of, reported, clients_over}
use Rattle.model_steps.proofs.cited.LocalityLemmas.{unchanged_local}
use Rattle.model_snapshot.proofs.cited.SnapWorldLemmas.{snap_alike}
use Rattle.model_snapshot.proofs.CallLemmas.{no_step_of_nobody, no_step_of_idle, busy_step}
use Rattle.model_snapshot.proofs.world.SnapWorld.take_step.Given.{Over}
use Rattle.model_snapshot.proofs.world.SnapWorld.take_step.Goals as goal
use Rattle.model_snapshot.proofs.world.SnapWorld.take_step.Goals.{In_default, After-is_idle, Joined-step, in-Ok, in-Err}

abbrev known : (g : Over) → KnownPlaces g.row.W.Denot g.row.W-Reg.Denot g.row.W-Value.Denot g.row.W-Walker.Denot g.row.W-Walk.Denot
known g = places_by g.W.Walker.StepProgram.steps g.W.Walker.PlaceWalker.place_of g.W.Walk.SegmentWalk.walks g.W.StepMemory.steps g.W.Places.most_of g.W.Places.walker_from g.W.Places.walk_from g.W.Places.ties

nobody : (g : _) (c : In_default g) → program_of c.args.id c.args.self.now.participants ≡ None
nobody g c = rw (← c.self.view_is) (sym c.program.ensures ∙ ap option_copied c.in_default.is)

the_client : (g : _) (c : After-is_idle g) → program_of c.args.id c.args.self.now.participants ≡ Some c.in-Some.client.now
the_client g c = rw (← c.self.view_is) (sym c.program.ensures ∙ ap option_copied c.in-Some.is)

said : (g : _) (c : Joined-step g) → c.match-step.result ≡ reply_of reported c.step.result
said g c = elim c.match-step.branch [
  | in-Ok w ↦ w.result-is ∙ ap Ok w.of_step.ensures ∙ sym (ap (reply_of reported) w.in-Ok.is)
  | in-Err w ↦ w.result-is ∙ sym (ap (reply_of reported) w.in-Err.is)
]

pub returns-in_default : goal.returns-in_default
returns-in_default g c =
    let h = no_step_of_nobody (known g) c.args.self.now c.args.id (nobody g (goal.at.returns-in_default g c).In_default) in
    record {
      answer = h.answer;
      state = h.state;
      unchanged_on_error = refl;
      no_memory = λ e. absurd (cc);
      local = unchanged_local (clients_over (known g)) (known g).memory c.args.id c.args.self.now;
      alike = λ goes other alike. h.answer goes ∙ snap_alike (known g) c.args.self.now other c.args.id alike;
    }

pub returns-then-is_idle : goal.returns-then-is_idle
returns-then-is_idle g c =
    let h = no_step_of_idle (known g) c.args.self.now c.args.id c.in-Some.client.now (the_client g (goal.at.returns-then-is_idle g c).After-is_idle) (sym c.is_idle.ensures ∙ c.if-is_idle.true) in
    record {
      answer = h.answer;
      state = h.state;
      unchanged_on_error = refl;
      no_memory = λ e. absurd (cc);
      local = unchanged_local (clients_over (known g)) (known g).memory c.args.id c.args.self.now;
      alike = λ goes other alike. h.answer goes ∙ snap_alike (known g) c.args.self.now other c.args.id alike;
    }

pub returns : goal.returns
returns g c =
    let h = busy_step (known g) c.args.self.now c.args.id c.in-Some.client.now (the_client g (goal.at.returns g c).After-is_idle) (sym c.is_idle.ensures ∙ c.if-is_idle.false) c.step.new.self c.step.result
    (rw c.self.view_is at c.step.ensures.answer) (rw c.self.view_is at c.step.ensures.after) (rw c.self.view_is at c.step.ensures.unchanged_on_error) (rw c.self.view_is at c.step.ensures.no_memory)
    c.match-step.result (said g (goal.at.returns g c).Joined-step) in
    record {
      answer = h.step.answer;
      state = h.step.state;
      unchanged_on_error = h.refused;
      no_memory = h.no_memory;
      local = rw c.self.view_is at c.step.ensures.local;
      alike = λ goes other alike. h.step.answer goes ∙ snap_alike (known g) c.args.self.now other c.args.id alike;
    }
