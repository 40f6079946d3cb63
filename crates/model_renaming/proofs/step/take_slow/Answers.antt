use Rattle.std.proofs.Common.{rules, ◌≡◌, inl, inr, Ok, refl, sym, ap, ◌∙◌}
use Rattle.model_renaming.proofs.Common.{NoMemory, KnownPlaces, places_by, Quiet, Silent, snap_answer, after_snap_step}
use Rattle.model_steps.specs.declared.note.Note.TheVariants as note
use Rattle.model_steps.specs.Taken.{reported_in}
use Rattle.model_snapshot.specs.SnapWorld.{reported_of_way}
use Rattle.model_renaming.proofs.step.take_slow.Given.{Over}
use Rattle.model_renaming.proofs.step.take_slow.Goals as goal
use Rattle.model_renaming.proofs.step.take_slow.Goals.{After-is_quiet}

abbrev known : (g : Over) → KnownPlaces g.row.W.Denot g.row.W-Reg.Denot g.row.W-Value.Denot g.row.W-Walker.Denot g.row.W-Walk.Denot
known g = places_by g.W.Walker.StepProgram.steps g.W.Walker.PlaceWalker.place_of g.W.Walk.SegmentWalk.walks g.W.StepMemory.steps g.W.Places.most_of g.W.Places.walker_from g.W.Places.walk_from g.W.Places.ties

-- what the snapshot object told
reported : (g : _) (c : After-is_quiet g) → Ok (reported_of_way c.in-Ok-Some.note) ≡ snap_answer (known g) c.args.snap.now c.args.participant.now.identity
reported g c = sym (rw (c.in-Ok-Some.is, c.in-Ok-Some.field-0-is) at c.walk_on.ensures.answer)

-- where it then stands
stepped : (g : _) (c : After-is_quiet g) → c.walk_on.new.self ≡ after_snap_step (known g) c.args.snap.now c.args.participant.now.identity
stepped g c = rw (c.in-Ok-Some.is, c.in-Ok-Some.field-0-is) at c.walk_on.ensures.state

-- the way was left to `take_other`
pub returns-in-Ok-None : goal.returns-in-Ok-None
returns-in-Ok-None g c =
    let kept : c.walk_on.new.self ≡ c.args.snap.now = c.walk_on.ensures.kept (ap reported_in c.in-Ok-None.is ∙ c.in-Ok-None.field-0-is) in
    rw kept at c.take_other.ensures

pub returns-in-Ok-Some : goal.returns-in-Ok-Some
returns-in-Ok-Some g c =
    let s = (goal.at.returns-in-Ok-Some g c).After-is_quiet in
    let quiet : c.in-Ok-Some.note ≡ note.Quiet = search rules in
    let k : Ok Silent ≡ snap_answer (known g) c.args.snap.now c.args.participant.now.identity = ap (λ n. Ok (reported_of_way n)) (sym quiet) ∙ reported g s in
    inl (Silent, record { is_reported = k; reply = Quiet; result_is = refl; reply_is = refl; asked = stepped g s; round = refl })

pub returns-in-Ok-Some-2 : goal.returns-in-Ok-Some-2
returns-in-Ok-Some-2 g c =
    let s = (goal.at.returns-in-Ok-Some-2 g c).After-is_quiet in
    let way = c.of_way.ensures in
    inl (
      reported_of_way c.in-Ok-Some.note,
      record {
        is_reported = reported g s;
        reply = c.follow.result;
        result_is = refl;
        reply_is = rw way at c.follow.ensures.reply;
        asked = (let own = stepped g s in rw (← own, ← way) c.follow.ensures.asked);
        round = rw way at c.follow.ensures.round;
      },
    )

pub returns-in-Err : goal.returns-in-Err
returns-in-Err g c = inr (NoMemory, record { result_is = refl; kept = c.in-Err.ensures.kept refl; same = refl; is_reported = λ goes. absurd (goes refl); lacks = λ _. c.in-Err.ensures.no_memory })
