use Rattle.std.proofs.Common.{rules, ◌≡◌, Ok, Err, refl, sym, ap, ◌∙◌}
use Rattle.model_snapshot.proofs.WorldCommon.{NoMemory, clients_over, snap_answer, after_snap_step, reported_of_way, KnownPlaces, places_by}
use Rattle.model_snapshot.specs.declared.client.SnapReply.TheVariants.{Quiet}
use Rattle.model_snapshot.proofs.cited.SnapWorldLemmas.{stays_alike, snap_alike}
use Rattle.model_snapshot.proofs.CallLemmas.{after_step_call, no_lack, kept_at}
use Rattle.model_steps.proofs.cited.LocalityLemmas.{unchanged_local}
use Rattle.model_snapshot.proofs.cited.SureSteps.{lacks_on_way}
use Rattle.model_snapshot.proofs.cited.Following.{law_holds, own_access_holds}
use Rattle.model_snapshot.proofs.world.SnapWorld.step.Given.{Over}
use Rattle.model_snapshot.proofs.world.SnapWorld.step.Goals as goal
use Rattle.model_snapshot.proofs.world.SnapWorld.step.Goals.{After-walk_on}

abbrev known : (g : Over) → KnownPlaces g.row.W.Denot g.row.W-Reg.Denot g.row.W-Value.Denot g.row.W-Walker.Denot g.row.W-Walk.Denot
known g = places_by g.W.Walker.StepProgram.steps g.W.Walker.PlaceWalker.place_of g.W.Walk.SegmentWalk.walks g.W.StepMemory.steps g.W.Places.most_of g.W.Places.walker_from g.W.Places.walk_from g.W.Places.ties

pub returns-then-read_on : goal.returns-then-read_on
returns-then-read_on g c =
    let answer : snap_answer (known g) c.args.self.now c.args.id ≡ Ok Quiet = c.read_on.ensures.answer c.if-read_on.true in
    let state = c.read_on.ensures.state c.if-read_on.true in
    record {
      answer = λ _. sym answer;
      state = λ _. state;
      unchanged_on_error = tt;
      on_way = λ e. absurd (no_lack Quiet e);
      no_memory = λ e. absurd (no_lack Quiet e);
      after = c.read_on.ensures.after c.if-read_on.true;
      law = law_holds (known g) g.met.W.Places.laws c.read_on.new.self;
      local = c.read_on.ensures.local c.if-read_on.true;
      alike = λ h other alike. sym answer ∙ snap_alike (known g) c.args.self.now other c.args.id alike;
      stands_alike = λ h. stays_alike (known g) c.args.self.now c.read_on.new.self c.args.id state;
      own = own_access_holds (known g) g.met.W.Places.laws c.args.self.now c.args.id;
    }

-- a read that goes on was not made
not_read : (g : _) (c : After-walk_on g) → c.read_on.new.self ≡ c.args.self.now
not_read g c = c.read_on.ensures.kept c.if-read_on.false

pub returns-in_err-note : goal.returns-in_err-note
returns-in_err-note g c =
    let still = not_read g (goal.at.returns-in_err-note g c).After-walk_on in
    let is : c.from_residual.result ≡ Err NoMemory = search rules in
    let kept : c.walk_on.new.self ≡ c.args.self.now = c.in_err-note.ensures.kept refl ∙ still in
    let lacks = rw still at c.in_err-note.ensures.no_memory in
    record {
      answer = λ goes. absurd (goes is);
      state = λ goes. absurd (goes is);
      unchanged_on_error = rw is kept;
      on_way = λ h. lacks_on_way (known g) g.met.W.Places.laws c.args.self.now c.args.id lacks;
      no_memory = λ h. lacks;
      after = after_step_call (known g) c.args.self.now c.walk_on.new.self c.args.id c.from_residual.result (λ goes. absurd (goes is)) (λ goes. absurd (goes is)) (λ e. (kept, lacks));
      law = law_holds (known g) g.met.W.Places.laws c.walk_on.new.self;
      local = rw kept (unchanged_local (clients_over (known g)) (known g).memory c.args.id c.args.self.now);
      alike = λ goes. absurd (goes is);
      stands_alike = λ goes. absurd (goes is);
      own = own_access_holds (known g) g.met.W.Places.laws c.args.self.now c.args.id;
    }

-- the way has taken the step
pub returns-in-Some : goal.returns-in-Some
returns-in-Some g c =
    let still = not_read g (goal.at.returns-in-Some g c).After-walk_on in
    let answer : snap_answer (known g) c.args.self.now c.args.id ≡ Ok (reported_of_way c.in-Some.note) = rw (c.in-Some.is, still) at c.in_ok-note.ensures.answer in
    let state : c.walk_on.new.self ≡ after_snap_step (known g) c.args.self.now c.args.id = rw (c.in-Some.is, still) at c.in_ok-note.ensures.state in
    record {
      answer = λ _. ap Ok c.of_way.ensures ∙ sym answer;
      state = λ _. state;
      unchanged_on_error = tt;
      on_way = λ e. absurd (no_lack c.of_way.result e);
      no_memory = λ e. absurd (no_lack c.of_way.result e);
      after = rw (c.in-Some.is, still, sym c.of_way.ensures) at c.in_ok-note.ensures.after;
      law = law_holds (known g) g.met.W.Places.laws c.walk_on.new.self;
      local = rw (c.in-Some.is, still) at c.in_ok-note.ensures.local;
      alike = λ h other alike. ap Ok c.of_way.ensures ∙ sym answer ∙ snap_alike (known g) c.args.self.now other c.args.id alike;
      stands_alike = λ h. stays_alike (known g) c.args.self.now c.walk_on.new.self c.args.id state;
      own = own_access_holds (known g) g.met.W.Places.laws c.args.self.now c.args.id;
    }

-- neither has
pub returns : goal.returns
returns g c =
    let kept : c.walk_on.new.self ≡ c.args.self.now = c.in_ok-note.ensures.kept c.in_default.is ∙ c.read_on.ensures.kept c.if-read_on.false in
    let refused : c.take_step.result ≡ Err NoMemory → c.take_step.new.self ≡ c.walk_on.new.self = λ e. kept_at (c.take_step.new.self ≡ c.walk_on.new.self) c.take_step.result c.take_step.ensures.unchanged_on_error e in
    let answer = rw kept at c.take_step.ensures.answer in
    let state = rw kept at c.take_step.ensures.state in
    let lacks = rw kept at c.take_step.ensures.no_memory in
    record {
      answer = answer;
      state = state;
      unchanged_on_error = rw kept at c.take_step.ensures.unchanged_on_error;
      on_way = λ h. lacks_on_way (known g) g.met.W.Places.laws c.args.self.now c.args.id (lacks h);
      no_memory = lacks;
      after = after_step_call (known g) c.args.self.now c.take_step.new.self c.args.id c.take_step.result state answer (λ e. (refused e ∙ kept, lacks e));
      law = law_holds (known g) g.met.W.Places.laws c.take_step.new.self;
      local = rw kept at c.take_step.ensures.local;
      alike = rw kept at c.take_step.ensures.alike;
      stands_alike = λ h. stays_alike (known g) c.args.self.now c.take_step.new.self c.args.id (state h);
      own = own_access_holds (known g) g.met.W.Places.laws c.args.self.now c.args.id;
    }
