-- there is an answer to each request
use Rattle.std.proofs.Common.{inl, refl}
use Rattle.model_asked.specs.Replies.{ShownReply}
use Rattle.text_worlds.specs.desk.Desk.{owner_reply}
use Rattle.model_asked.specs.Requests.{Request}
use Rattle.model_asked.specs.Requests.Request.{Take, OwnerOf}
use Rattle.service_hall.specs.Halls.{desk_of, hall_reply, hall_after}
use Rattle.service_hall.specs.HallState.{HallState}
use Rattle.service_hall.specs.Serving.{HallServes}

pub hall_answers : (h : HallState) (q : Request) → (r : ShownReply) × (u : HallState) × HallServes h q r u
hall_answers h (Take e) = (hall_reply h e, hall_after h e, inl (refl, refl))
hall_answers h (OwnerOf n) = (owner_reply (desk_of h) n, h, (refl, refl))
