-- there is an answer to each request
use Rattle.std.proofs.Common.{refl}
use Rattle.model_asked.specs.Replies.{ShownReply}
use Rattle.model_asked.specs.Requests.{Request}
use Rattle.service_hall.specs.lemmas.ServingProofs.{hall_answers}
use Rattle.service_journal.specs.WriteAheadState.{WriteAheadState}
use Rattle.service_journal.specs.WriteAheads.{WriteAheadServes, write_ahead_of}

pub write_ahead_answers : (c : WriteAheadState) (q : Request) → (r : ShownReply) × (u : WriteAheadState) × WriteAheadServes c q r u
write_ahead_answers c q = let a = hall_answers c.hall q in (a.0, write_ahead_of a.1 c.reported, (a.2, refl))
