-- there is an answer to each request
use Rattle.std.proofs.Common.{ℕ, Option, Some, None, inl, refl}
use Rattle.model_steps.specs.declared.refusal.Refusal.TheVariants as refusal
use Rattle.model_asked.specs.declared.event.Event.{Event}
use Rattle.model_asked.specs.declared.event.Event.TheVariants.{Get, Put}
use Rattle.model_asked.specs.declared.reply.Reply.TheVariants as reply
use Rattle.model_asked.specs.Replies.{ShownReply}
use Rattle.model_asked.specs.Requests.{Request}
use Rattle.model_asked.specs.Requests.Request.{Take, OwnerOf}
use Rattle.text_worlds.specs.desk.Desk.{desk_reply}
use Rattle.service_hall.specs.Halls.{desk_of, hall_reply, hall_after}
use Rattle.service_hall.specs.HallState.{HallState}
use Rattle.service_hall.specs.Raising.{PutsToken, held_value, token_above, token_reply}
use Rattle.service_hall.specs.Reading.{Serves, TakesBy, way_of}
use Rattle.service_hall.specs.lemmas.ServingProofs.{hall_answers}
use Rattle.service_hall.specs.declared.rules.Rules.{Rules}
use Rattle.service_hall.specs.declared.rules.Way.{Way}
use Rattle.service_hall.specs.declared.rules.Way.TheVariants.{Applied, Read, Raised, Barred}

raised : (next : Option ℕ) (h : HallState) (p : ℕ) → (r : ShownReply) × (u : HallState) × PutsToken next h p r u
raised (Some token) h p = (token_reply token (hall_reply h (Put p token)), hall_after h (Put p token), (hall_reply h (Put p token), inl (refl, refl), refl))
raised None h p = (reply.Refused refusal.OutOfRange, h, (refl, refl))

taken : (way : Way) (h : HallState) (e : Event) → (r : ShownReply) × (u : HallState) × TakesBy way h e r u
taken Applied h e = (hall_reply h e, hall_after h e, inl (refl, refl))
taken (Read p) h e = (desk_reply (desk_of h) (Get p), h, (refl, refl))
taken (Raised p) h e = raised (token_above (held_value h p)) h p
taken Barred h e = (reply.Refused refusal.OutOfRange, h, (refl, refl))

pub serves_answers : (rules : Rules) (h : HallState) (q : Request) → (r : ShownReply) × (u : HallState) × Serves rules h q r u
serves_answers rules h (Take e) = taken (way_of rules e) h e
serves_answers rules h (OwnerOf n) = hall_answers h (OwnerOf n)
