use Rattle.std.proofs.Common.{◌≡◌, inl, Ok, refl, sym}
use Rattle.model_renaming.proofs.Common.{KnownPlaces, places_by, Quiet, Silent, snap_answer}
use Rattle.model_renaming.proofs.step.take.Given.{Over}
use Rattle.model_renaming.proofs.step.take.Goals as goal

abbrev known : (g : Over) → KnownPlaces g.row.W.Denot g.row.W-Reg.Denot g.row.W-Value.Denot g.row.W-Walker.Denot g.row.W-Walk.Denot
known g = places_by g.W.Walker.StepProgram.steps g.W.Walker.PlaceWalker.place_of g.W.Walk.SegmentWalk.walks g.W.StepMemory.steps g.W.Places.most_of g.W.Places.walker_from g.W.Places.walk_from g.W.Places.ties

pub returns-then-not-read_on : goal.returns-then-not-read_on
returns-then-not-read_on g c =
    let kept = c.read_on.ensures.kept c.if-not-read_on.true in
    rw kept at c.take_slow-then-not-read_on.ensures

pub returns : goal.returns
returns g c =
    let read = c.if-not-read_on.false in
    let is : snap_answer (known g) c.args.snap.now c.args.participant.now.identity ≡ Ok Silent = c.read_on.ensures.answer read in
    inl (Silent, record { is_reported = sym is; reply = Quiet; result_is = refl; reply_is = refl; asked = c.read_on.ensures.state read; round = refl })
