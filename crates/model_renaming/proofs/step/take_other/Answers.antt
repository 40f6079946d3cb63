use Rattle.std.proofs.Common.{◌≡◌, inl, inr, refl}
use Rattle.model_renaming.proofs.Common.{NoMemory, KnownPlaces, places_by, after_snap_step}
use Rattle.model_renaming.proofs.rounds.StepCases.{no_err}
use Rattle.model_renaming.proofs.step.take_other.Given.{Over}
use Rattle.model_renaming.proofs.step.take_other.Goals as goal

abbrev known : (g : Over) → KnownPlaces g.row.W.Denot g.row.W-Reg.Denot g.row.W-Value.Denot g.row.W-Walker.Denot g.row.W-Walk.Denot
known g = places_by g.W.Walker.StepProgram.steps g.W.Walker.PlaceWalker.place_of g.W.Walk.SegmentWalk.walks g.W.StepMemory.steps g.W.Places.most_of g.W.Places.walker_from g.W.Places.walk_from g.W.Places.ties

pub returns-in-Err : goal.returns-in-Err
returns-in-Err g c = inr (c.in-Err.refusal, record { result_is = refl; kept = c.in-Err.ensures.unchanged_on_error; same = refl; is_reported = c.in-Err.ensures.answer; lacks = c.in-Err.ensures.no_memory })

pub returns-in-Ok : goal.returns-in-Ok
returns-in-Ok g c =
    let stepped : c.step.new.self ≡ after_snap_step (known g) c.args.snap.now c.args.participant.now.identity = c.in-Ok.ensures.state (no_err c.in-Ok.reported NoMemory) in
    inl (
      c.in-Ok.reported,
      record {
        is_reported = c.in-Ok.ensures.answer (no_err c.in-Ok.reported NoMemory);
        reply = c.follow.result;
        result_is = refl;
        reply_is = c.follow.ensures.reply;
        asked = rw (← stepped) c.follow.ensures.asked;
        round = c.follow.ensures.round;
      },
    )
