use Rattle.std.proofs.Common.{◌≡◌, Some, None, refl, sym, ap, ◌∙◌, option_copied}
use Rattle.model_snapshot.proofs.WorldCommon.{KnownPlaces, places_by, program_of}
use Rattle.model_snapshot.proofs.cited.Following.{law_holds}
use Rattle.model_snapshot.proofs.CallLemmas.{updated_leads_on}
use Rattle.model_snapshot.proofs.AskedLemmas.{no_update_of_nobody, no_update_of_busy, no_update_of_spent, update_asked}
use Rattle.model_snapshot.proofs.world.SnapWorld.update.Given.{Over}
use Rattle.model_snapshot.proofs.world.SnapWorld.update.Goals as goal
use Rattle.model_snapshot.proofs.world.SnapWorld.update.Goals.{In_default, After-is_idle}

abbrev known : (g : Over) → KnownPlaces g.row.W.Denot g.row.W-Reg.Denot g.row.W-Value.Denot g.row.W-Walker.Denot g.row.W-Walk.Denot
known g = places_by g.W.Walker.StepProgram.steps g.W.Walker.PlaceWalker.place_of g.W.Walk.SegmentWalk.walks g.W.StepMemory.steps g.W.Places.most_of g.W.Places.walker_from g.W.Places.walk_from g.W.Places.ties

nobody : (g : _) (c : In_default g) → program_of c.args.id c.args.self.now.participants ≡ None
nobody g c = rw (← c.self.view_is) (sym c.program.ensures ∙ ap option_copied c.in_default.is)

the_client : (g : _) (c : After-is_idle g) → program_of c.args.id c.args.self.now.participants ≡ Some c.in-Some.client.now
the_client g c = rw (← c.self.view_is) (sym c.program.ensures ∙ ap option_copied c.in-Some.is)

pub returns-in_default : goal.returns-in_default
returns-in_default g c =
    let h = no_update_of_nobody c.args.self.now c.args.id c.args.value (nobody g (goal.at.returns-in_default g c).In_default) in
    record {
      answer = h.answer;
      state = h.state;
      unchanged_on_error = refl;
      no_access = refl;
      after = updated_leads_on (known g) c.args.self.now c.args.self.now c.args.id c.args.value _ h.state h.answer;
      law = law_holds (known g) g.met.W.Places.laws c.args.self.now;
    }

pub returns-then-not-is_idle : goal.returns-then-not-is_idle
returns-then-not-is_idle g c =
    let h = no_update_of_busy c.args.self.now c.args.id c.args.value c.in-Some.client.now (the_client g (goal.at.returns-then-not-is_idle g c).After-is_idle) (sym c.is_idle.ensures ∙ c.if-not-is_idle.true) in
    record {
      answer = h.answer;
      state = h.state;
      unchanged_on_error = refl;
      no_access = refl;
      after = updated_leads_on (known g) c.args.self.now c.args.self.now c.args.id c.args.value _ h.state h.answer;
      law = law_holds (known g) g.met.W.Places.laws c.args.self.now;
    }

pub returns-then-client-ge-MOST_UPDATES : goal.returns-then-client-ge-MOST_UPDATES
returns-then-client-ge-MOST_UPDATES g c =
    let h = no_update_of_spent c.args.self.now c.args.id c.args.value c.in-Some.client.now (the_client g (goal.at.returns-then-client-ge-MOST_UPDATES g c).After-is_idle) (sym c.is_idle.ensures ∙ c.if-not-is_idle.false) c.if-client-ge-MOST_UPDATES.true in
    record {
      answer = h.answer;
      state = h.state;
      unchanged_on_error = refl;
      no_access = refl;
      after = updated_leads_on (known g) c.args.self.now c.args.self.now c.args.id c.args.value _ h.state h.answer;
      law = law_holds (known g) g.met.W.Places.laws c.args.self.now;
    }

pub returns : goal.returns
returns g c =
    let h = update_asked c.args.self.now c.args.id c.args.value c.in-Some.client.now (the_client g (goal.at.returns g c).After-is_idle) (sym c.is_idle.ensures ∙ c.if-not-is_idle.false) c.if-client-ge-MOST_UPDATES.false c.ask.new.self c.ask.result (rw c.self.view_is at c.ask.ensures.answer) (rw c.self.view_is at c.ask.ensures.after) in
    record {
      answer = h.answer;
      state = h.state;
      unchanged_on_error = rw c.self.view_is at c.ask.ensures.unchanged_on_error;
      no_access = h.spares;
      after = updated_leads_on (known g) c.args.self.now c.ask.new.self c.args.id c.args.value c.ask.result h.state h.answer;
      law = law_holds (known g) g.met.W.Places.laws c.ask.new.self;
    }
