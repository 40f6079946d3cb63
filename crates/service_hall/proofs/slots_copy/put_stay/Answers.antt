use Rattle.service_hall.proofs.RowLemmas.{put_at, put_absent}
use Rattle.service_hall.proofs.slots_copy.put_stay.Goals as goal

pub returns-in-Some : goal.returns-in-Some
returns-in-Some c = put_at c.args.competitors.now c.args.id c.in-Some.i _ c.args.stay c.in-Some.ensures.answer c.in-Some.ensures.inside

pub returns-in_default : goal.returns-in_default
returns-in_default c = put_absent c.args.competitors.now c.args.id c.args.stay c.in_default.ensures.answer
