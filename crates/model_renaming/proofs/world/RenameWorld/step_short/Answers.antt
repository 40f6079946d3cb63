use Rattle.std.proofs.Common.{rules, ◌≡◌, Err}
use Rattle.model_renaming.proofs.Common.{NoMemory, outcome_with, KnownPlaces, places_by}
use Rattle.model_renaming.proofs.cited.ReachesByCalls.{step_leads_on}
use Rattle.model_renaming.proofs.ShortReplies.{refused_short, accepted_short}
use Rattle.model_renaming.proofs.cited.NamedPlaces.{law_always, own_access}
use Rattle.model_renaming.proofs.LocalSteps.{local_call}
use Rattle.model_renaming.proofs.world.RenameWorld.step_short.Given.{Over}
use Rattle.model_renaming.proofs.world.RenameWorld.step_short.Goals as goal

abbrev pub known : (g : Over) → KnownPlaces g.row.W.Denot g.row.W-Reg.Denot g.row.W-Value.Denot g.row.W-Walker.Denot g.row.W-Walk.Denot
known g = places_by g.W.Walker.StepProgram.steps g.W.Walker.PlaceWalker.place_of g.W.Walk.SegmentWalk.walks g.W.StepMemory.steps g.W.Places.most_of g.W.Places.walker_from g.W.Places.walk_from g.W.Places.ties

pub returns : goal.returns
returns g c =
    let reported = outcome_with c.take_step.result c.take_step.new.view in
    let short = refused_short c.take_step.result c.take_step.new.view NoMemory in
    let goes = accepted_short c.take_step.result c.take_step.new.view NoMemory in
    let kept : reported ≡ Err NoMemory → c.take_step.new.self ≡ c.args.self.now = λ e. let is = short e in search rules in
    record {
      answer = c.take_step.ensures.answer;
      state = c.take_step.ensures.state;
      unchanged_on_error = c.take_step.ensures.unchanged_on_error;
      no_memory = c.take_step.ensures.no_memory;
      after = step_leads_on (known g) g.W.RenamePlaces.world c.args.self.now c.take_step.new.self c.args.id reported
          (λ e. c.take_step.ensures.state (goes e)) (λ e. c.take_step.ensures.answer (goes e)) (λ e. let m = c.take_step.ensures.no_memory (short e) in (kept e, m.0, m.1));
      law = law_always (known g) g.met.W.Places.laws g.W.RenamePlaces.world g.met.W.RenamePlaces.may_grow g.met.W.RenamePlaces.at_once c.take_step.new.self;
      local = local_call (known g) g.met.W.StepMemory.others c.args.self.now c.take_step.new.self c.args.id reported (λ e. c.take_step.ensures.state (goes e)) (λ e. c.take_step.ensures.answer (goes e)) kept;
      own = own_access (known g) g.met.W.Places.laws g.W.RenamePlaces.world g.met.W.RenamePlaces.may_grow g.met.W.RenamePlaces.at_once c.args.self.now c.args.id;
    }
