-- what is heard of stays in the turns of connections
use Rattle.std.specs.Prelude.{◌≡◌, if◌then◌else◌, ℕ, Bool, true, false, List, [], ◌∷◌, ◌++◌, get_or, map}
use Rattle.model_steps.specs.declared.refusal.Refusal.{Refusal}
use Rattle.model_steps.specs.declared.refusal.Refusal.TheVariants as refusal
use Rattle.model_asked.specs.declared.event.Event.{Event}
use Rattle.model_asked.specs.declared.event.Event.TheVariants as event
use Rattle.model_asked.specs.declared.reply.Reply.{Reply}
use Rattle.model_asked.specs.declared.reply.Reply.TheVariants as reply
use Rattle.model_asked.specs.Replies.{ShownReply}
use Rattle.model_asked.specs.Requests.{Request}
use Rattle.model_asked.specs.Requests.Request.{Take, OwnerOf}
use Rattle.text_player.specs.Shared.{TurnLog}
use Rattle.text_player.specs.Turns.{Turn}
use Rattle.text_player.specs.Turns.Turn.{Answered, Reported, Ended, Misread}
use Rattle.model_pool.specs.declared.stays.kept_stay.KeptStay.{KeptStay}
use Rattle.model_pool.specs.stays.Stays.{Act, after_act, after_acts}
use Rattle.model_pool.specs.stays.Stays.Act.{Entered, Left, Ended as KeeperEnded, Quit}
use Rattle.service_loop.specs.Changes.{change_by, GoesOnBy}
use Rattle.service_loop.specs.declared.attended.Attended.{Attended}
use Rattle.service_loop.specs.declared.attended.Ending.{Ending}
use Rattle.service_loop.specs.declared.attended.TheConstants.{NOBODY}

-- the identity competes already
abbrev pub is_competing : Refusal → Bool
is_competing refusal.AlreadyCompeting = true
is_competing _ = false

-- who said `enter` keeps the stay: it was answered `ok`, or refused since the identity competes
abbrev pub keeps_by : {V : Type 0} → Reply V → Bool
keeps_by reply.Ok = true
keeps_by (reply.Refused why) = is_competing why
keeps_by _ = false

-- a `leave` was accepted
abbrev pub gives_back : {V : Type 0} → Reply V → Bool
gives_back (reply.Left number) = true
gives_back _ = false

-- what an event of a connection and the reply to it say of stays
abbrev pub heard : {V : Type 0} → ℕ → Event → Reply V → List Act
heard c (event.Enter id) r = if keeps_by r then Entered id c ∷ [] else []
heard c (event.Leave id) r = if gives_back r then Left id ∷ [] else []
heard c _ r = []

abbrev pub heard_of : ℕ → Request → ShownReply → List Act
heard_of c (Take e) r = heard c e r
heard_of c (OwnerOf n) r = []

-- what a turn of a connection says of them, and turns in their order
abbrev pub acts_of_turn : ℕ → Turn → List Act
acts_of_turn c (Answered x) = heard c x.event x.reply
acts_of_turn c (Reported n r) = []
acts_of_turn c Ended = []
acts_of_turn c (Misread bad) = []

abbrev pub acts_of : ℕ → List Turn → List Act
acts_of c [] = []
acts_of c (t ∷ ts) = acts_of_turn c t ++ acts_of c ts

-- and the turns of a log, where these are the numbers of the connections
abbrev pub acts_in : (ℕ → ℕ) → TurnLog → List Act
acts_in number [] = []
acts_in number (x ∷ xs) = acts_of_turn (number x.0) x.1 ++ acts_in number xs

-- the number of the connection at a seat
abbrev pub number_at : List ℕ → ℕ → ℕ
number_at numbers key = get_or numbers key 0

-- by these acts the table of stays went on, where it is noted who keeps them, and unless an allocation failed
pub record Hears {D : Type 0} (acts : List Act) (w u : Attended D) : Type 0 where
  pub keeps_is : u.keeps ≡ w.keeps
  pub stays_are : u.lacks ≡ false → (w.lacks ≡ false) × (u.stays ≡ (if w.keeps then after_acts w.stays acts else w.stays))

-- The service answers as it may, and what that says of stays is noted, and what it changes of who holds numbers
abbrev pub AttendedMay : {D : Type 0} → (D → Request → ShownReply → D → Type 0) → Attended D → Request → ShownReply → Attended D → Type 0
AttendedMay may w q r u = may w.service q r u.service × Hears (heard_of w.speaker q r) w u × (u.speaker ≡ w.speaker) × GoesOnBy (change_by q r) w.changes u.changes

-- a connection ended at a tick
abbrev pub act_of_ending : ℕ → Ending → Act
act_of_ending tick e = if e.by_quit then Quit e.number else KeeperEnded e.number tick

abbrev pub after_ending : Bool → ℕ → Ending → List KeptStay → List KeptStay
after_ending keeps tick e stays = if keeps then after_act stays (act_of_ending tick e) else stays

-- where an answer was lost, whoever would have kept a stay by it ended
abbrev pub acts_of_lost : ℕ → Bool → List Act
acts_of_lost tick lost = if lost then KeeperEnded NOBODY tick ∷ [] else []

-- these connections ended at a tick, one after another, and then that
abbrev pub acts_of_endings : ℕ → Bool → List Ending → List Act
acts_of_endings tick lost endings = map (act_of_ending tick) endings ++ acts_of_lost tick lost
