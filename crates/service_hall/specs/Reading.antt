-- a hall that stores no reads, and admits not all events (this project's profile)
use Rattle.std.specs.Prelude.{◌≡◌, ◌<◌, ◌≤◌, ℕ, List, [], ◌∷◌, Bool, true, false}
use Rattle.model_steps.specs.declared.refusal.Refusal.TheVariants as refusal
use Rattle.model_asked.specs.declared.event.Event.{Event}
use Rattle.model_asked.specs.declared.exchange.Exchange.{Exchange}
use Rattle.model_asked.specs.declared.event.Event.TheVariants.{Begin, Step, Enter, Probe, Seek, Leave, Put, Get, Widen}
use Rattle.model_asked.specs.declared.reply.Reply.TheVariants as reply
use Rattle.model_asked.specs.Replies.{ShownReply}
use Rattle.model_asked.specs.Requests.{Request}
use Rattle.model_asked.specs.Requests.Request.{Take, OwnerOf}
use Rattle.text_worlds.specs.desk.Desk.{desk_reply}
use Rattle.text_player.specs.Runs.{Runs}
use Rattle.text_player.specs.Turns.{Turn}
use Rattle.text_player.specs.Turns.Turn.{Answered, Reported, Ended, Misread}
use Rattle.service_hall.specs.Halls.{desk_of, HallMay}
use Rattle.service_hall.specs.HallState.{HallState}
use Rattle.service_hall.specs.Raising.{IsNextToken, Raises, value_at}
use Rattle.service_hall.specs.Serving.{HallServes}
use Rattle.service_hall.specs.declared.reads.Reads.{Reads}
use Rattle.service_hall.specs.declared.reads.Reads.TheVariants.{Logged, Plain}
use Rattle.service_hall.specs.declared.rules.Rules.{Rules}
use Rattle.service_hall.specs.declared.rules.Way.{Way}
use Rattle.service_hall.specs.declared.rules.Way.TheVariants.{Applied, Read, Raised, Barred}

-- the rules by which all is admitted
abbrev pub all_admitted : Reads → Rules
all_admitted reads = record { reads = reads; widening = true; naming = true; tokens = false }

-- an event that is admitted is applied, and one that is not is barred
abbrev pub applied_if : Bool → Way
applied_if true = Applied
applied_if false = Barred

-- a read is an event, or it is stored nowhere
abbrev pub way_of_read : Reads → ℕ → Way
way_of_read Logged p = Applied
way_of_read Plain p = Read p

-- a `put` gives the next token, or it is an event
abbrev pub way_of_put : Bool → ℕ → Way
way_of_put true p = Raised p
way_of_put false p = Applied

-- how an event is taken: `begin` and `step` use up names, and `widen` is no participant's
abbrev pub way_of : Rules → Event → Way
way_of rules (Begin p) = applied_if rules.naming
way_of rules (Step p) = applied_if rules.naming
way_of rules (Enter p) = Applied
way_of rules (Probe p) = Applied
way_of rules (Seek p) = Applied
way_of rules (Leave p) = Applied
way_of rules (Put p value) = way_of_put rules.tokens p
way_of rules (Get p) = way_of_read rules.reads p
way_of rules (Widen size) = applied_if rules.widening

-- a plain read has the reply of the desk, whatever room the history has, and an event that is barred is refused 14: the hall stays as it is
abbrev pub TakesBy : Way → HallState → Event → ShownReply → HallState → Type 0
TakesBy Applied h e r u = HallMay h e r u
TakesBy (Read p) h e r u = (r ≡ desk_reply (desk_of h) (Get p)) × (u ≡ h)
TakesBy (Raised p) h e r u = Raises h p r u
TakesBy Barred h e r u = (r ≡ reply.Refused refusal.OutOfRange) × (u ≡ h)

-- a hall by rules: it serves all but plain reads and what is barred as `HallServes` says
abbrev pub Serves : Rules → HallState → Request → ShownReply → HallState → Type 0
Serves rules h (Take e) r u = TakesBy (way_of rules e) h e r u
Serves rules h (OwnerOf n) r u = HallServes h (OwnerOf n) r u

-- a token that was given is the `put` of it
abbrev pub token_put : ℕ → ShownReply → List Turn → List Turn
token_put p (reply.Value token) ts = Answered (record { event = Put p token; reply = reply.Ok }) ∷ ts
token_put p r ts = ts

-- these turns behind one that was taken so, unless it is no event: one that gives a token is a `put` of it, if it was not refused
abbrev pub stored_by : Way → Exchange → List Turn → List Turn
stored_by Applied x ts = Answered x ∷ ts
stored_by (Read p) x ts = ts
stored_by (Raised p) x ts = token_put p x.reply ts
stored_by Barred x ts = ts

-- and unless it was barred
abbrev pub admitted_by : Way → Exchange → List Turn → List Turn
admitted_by Applied x ts = Answered x ∷ ts
admitted_by (Read p) x ts = Answered x ∷ ts
admitted_by (Raised p) x ts = token_put p x.reply ts
admitted_by Barred x ts = ts

-- the turns without plain reads and without what is barred
abbrev pub stored : Rules → List Turn → List Turn
stored rules [] = []
stored rules (Answered x ∷ ts) = stored_by (way_of rules x.event) x (stored rules ts)
stored rules (Reported n r ∷ ts) = Reported n r ∷ stored rules ts
stored rules (Ended ∷ ts) = Ended ∷ stored rules ts
stored rules (Misread bad ∷ ts) = Misread bad ∷ stored rules ts

-- the turns without what is barred
abbrev pub admitted : Rules → List Turn → List Turn
admitted rules [] = []
admitted rules (Answered x ∷ ts) = admitted_by (way_of rules x.event) x (admitted rules ts)
admitted rules (Reported n r ∷ ts) = Reported n r ∷ admitted rules ts
admitted rules (Ended ∷ ts) = Ended ∷ admitted rules ts
admitted rules (Misread bad ∷ ts) = Misread bad ∷ admitted rules ts

-- the hall to which the turns before a plain read led, without the reads among them, has a desk with this reply to it
pub record IsRead (rules : Rules) (h : HallState) (before : List Turn) (p : ℕ) (r : ShownReply) : Type 0 where
  pub at : HallState
  pub led : Runs HallServes h (stored rules before) at
  pub reply : r ≡ desk_reply (desk_of at) (Get p)

-- a token was given to an identity between these turns: it is above all that the slot of its number had since the first of them, and the slot has had
-- no less since
pub record GaveToken (rules : Rules) (h : HallState) (before : List Turn) (p token : ℕ) (behind : List Turn) (u : HallState) : Type 0 where
  pub at : HallState
  pub led : Runs (Serves rules) h before at
  pub after : HallState
  pub gave : IsNextToken at p token after
  pub rest : Runs (Serves rules) after behind u
  pub above : value_at h gave.number < token
  pub kept : token ≤ value_at u gave.number
