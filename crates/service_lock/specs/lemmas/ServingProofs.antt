-- there is an answer to each request
use Rattle.std.proofs.Common.{◌≡◌, inl, inr, Option, Some, None, List, [], ◌∷◌, refl, sym, ap}
use mathlib.Core.List.{IsPrefix}
use Rattle.model_steps.specs.declared.refusal.Refusal.{Refusal}
use Rattle.model_steps.specs.declared.refusal.Refusal.TheVariants as refusal
use Rattle.model_asked.specs.declared.config.Config.{Config}
use Rattle.model_asked.specs.Replies.{ShownReply}
use Rattle.model_asked.specs.declared.reply.Reply.TheVariants as reply
use Rattle.text_worlds.specs.desk.Desk.{owner_reply}
use Rattle.model_asked.specs.Requests.{Request}
use Rattle.model_asked.specs.Requests.Request.{Take, OwnerOf}
use Rattle.service_lock.specs.CallerState.{CallerState}
use Rattle.service_hall.specs.Halls.{hall_of, desk_of, hall_refusal, reply_unless, after_unless}
use Rattle.service_lock.specs.Serving.{ClerkServes}

-- each list begins with itself
pub prefix_self : {A : Type 0} (xs : List A) → IsPrefix xs xs
prefix_self [] = ([], refl)
prefix_self (x ∷ xs) = (let r = prefix_self xs in r.0, ap (λ ys. x ∷ ys) (prefix_self xs).1)

-- the hall of what a caller has seen refuses each event, by its rules or because an allocation failed
pub clerk_answers : (c : Config) (s : CallerState) (q : Request) → (r : ShownReply) × (t : CallerState) × ClerkServes c s q r t
clerk_answers c s (Take e) = by (hall_refusal (hall_of c s.seen) e) refl where
  by : (o : Option Refusal) → hall_refusal (hall_of c s.seen) e ≡ o → (r : ShownReply) × (t : CallerState) × ClerkServes c s (Take e) r t
  by (Some why) due = (
    reply.Refused why,
    s,
    λ sound. record {
      answer = record {
        history = s.seen;
        lawful = sound.lawful;
        longer = prefix_self s.seen;
        answer = inl (ap (λ o. reply_unless o (hall_of c s.seen) e) (sym due), ap (λ o. after_unless o (hall_of c s.seen) e) (sym due));
      };
      kept = refl;
      stands = sound.stands;
    },
  )
  by None due = (
    reply.Refused refusal.NoMemory,
    s,
    λ sound. record {
      answer = record { history = s.seen; lawful = sound.lawful; longer = prefix_self s.seen; answer = inr (refl, refl, due) };
      kept = refl;
      stands = sound.stands;
    },
  )
clerk_answers c s (OwnerOf n) = (owner_reply (desk_of (hall_of c s.seen)) n, s, λ sound. record { lawful = sound.lawful; longer = prefix_self s.seen; answer = refl; same = refl; stands = sound.stands })
