use Rattle.service_hall.proofs.cited.HallLaws.{goes_on}
use Rattle.service_hall.proofs.cited.Histories.{kept_refused, begins_ok, room_left}
use Rattle.service_hall.proofs.laws.law_of_events.Goals as goal

pub returns : goal.returns
returns c = record { goes_on = goes_on; refused = kept_refused; begins = begins_ok; room = room_left }
