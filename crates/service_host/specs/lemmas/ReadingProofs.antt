-- there is an answer to each request
use Rattle.std.proofs.Common.{refl}
use Rattle.model_asked.specs.Replies.{ShownReply}
use Rattle.model_asked.specs.Requests.{Request}
use Rattle.service_hall.specs.HallState.{HallState}
use Rattle.service_hall.specs.lemmas.ReadingProofs.{serves_answers}
use Rattle.service_journal.specs.WriteAheads.{write_ahead_of}
use Rattle.service_journal.specs.WriteAheadState.{WriteAheadState}
use Rattle.service_host.specs.Readings.{HallReads, ReadingServes}
use Rattle.service_host.specs.declared.reading.Reading.{Reading}

pub hall_reading_answers : (w : Reading HallState) (q : Request) → (r : ShownReply) × (u : Reading HallState) × HallReads w q r u
hall_reading_answers w q = let a = serves_answers w.rules w.service q in (a.0, record { service = a.1; rules = w.rules }, (a.2, refl))

pub reading_answers : (w : Reading WriteAheadState) (q : Request) → (r : ShownReply) × (u : Reading WriteAheadState) × ReadingServes w q r u
reading_answers w q =
    let a = serves_answers w.rules w.service.hall q in
    (a.0, record { service = write_ahead_of a.1 w.service.reported; rules = w.rules }, (a.2, refl, refl))
