-- numbers that a server takes for its connections: `take ID` is `enter ID`, and then in the wide world one `seek ID`, elsewhere `probe ID` as often
-- as it takes
use Rattle.std.specs.Prelude.{◌≡◌, ◌⊎◌, ◌+◌, ◌&&◌, ◌||◌, ℕ, ltb, replicate, Bool, true, false, List, [], ◌∷◌, ◌++◌, length, map, drop, get_or, Option, Some, None}
use Rattle.model_asked.specs.declared.event.Event.{Event}
use Rattle.model_asked.specs.declared.event.Event.TheVariants as event
use Rattle.model_asked.specs.declared.reply.Reply.{Reply}
use Rattle.model_asked.specs.declared.reply.Reply.TheVariants as reply
use Rattle.model_steps.specs.declared.refusal.Refusal.TheVariants as refusal
use Rattle.model_asked.specs.Replies.{ShownReply}
use Rattle.model_asked.specs.Requests.{Request}
use Rattle.text_player.specs.Runs.{Runs}
use Rattle.text_player.specs.Shared.{TurnLog, turns_of, all_turns}
use Rattle.text_player.specs.Turns.{Turn}
use Rattle.text_player.specs.Turns.Turn.{Answered}
use Rattle.service_loop.specs.Asking.{IsTakingOf}
use Rattle.service_loop.specs.BuffersState.{BuffersState}
use Rattle.service_loop.specs.Reported.{IsAmong}
use Rattle.service_loop.specs.Searching.{most_said, searched, searching}
use Rattle.service_loop.specs.Seats.{RepliesSent, Seating}
use Rattle.service_loop.specs.Tokens.{AsksToken, is_got, taken_text, token_events}
use Rattle.service_loop.specs.Waiting.{first_wait, given_up, taken_for}
use Rattle.service_loop.specs.declared.manner.Manner.{Manner}

-- behind this reply a number is searched for: `enter` was accepted, or a `probe` missed
abbrev pub wants_search : {V : Type 0} → Reply V → Bool
wants_search reply.Ok = true
wants_search reply.Missed = true
wants_search _ = false

abbrev pub entered : ℕ → ShownReply → Turn
entered id r = Answered (record { event = event.Enter id; reply = r })

-- from the first reply these lead to the last: behind each but that it is searched on
abbrev pub LeadTo : ShownReply → List ShownReply → ShownReply → Type 0
LeadTo r [] last = last ≡ r
LeadTo r (p ∷ ps) last = (wants_search r ≡ true) × LeadTo p ps last

-- `enter` of this identity, and then `seek` or `probe` as long as a reply wants it, and no more often than it may be said: the last reply is the
-- answer
pub record IsTaking (wide : Bool) (id : ℕ) (turns : List Turn) (answer : ShownReply) : Type 0 where
  pub first : ShownReply
  pub more : List ShownReply
  pub turns_are : turns ≡ entered id first ∷ map (searched wide id) more
  pub lead : LeadTo first more answer
  pub enough : (wants_search answer ≡ false) ⊎ (length more ≡ most_said wide)

-- the same, with so many more behind it that `seek` or `probe` is said as often as it may be
pub record IsTakingAhead (wide : Bool) (id : ℕ) (turns : List Turn) (answer : ShownReply) : Type 0 where
  pub own : List Turn
  pub taking : IsTaking wide id own answer
  pub rest : List ShownReply
  pub turns_are : turns ≡ own ++ map (searched wide id) rest
  pub many : length taking.more + length rest ≡ most_said wide

-- and by whether the answers were prefetched
abbrev pub SaysTaking : Bool → Bool → ℕ → List Turn → ShownReply → Type 0
SaysTaking wide false id turns answer = IsTaking wide id turns answer
SaysTaking wide true id turns answer = IsTakingAhead wide id turns answer

-- the same, and then a token is asked for, where tokens are given and the answer is a number, or the answers were prefetched
pub record TakesWith (manner : Manner) (ahead : Bool) (id : ℕ) (turns : List Turn) (answer : ShownReply) (token : Option ShownReply) : Type 0 where
  pub searches : List Turn
  pub says : SaysTaking manner.wide ahead id searches answer
  pub raises : List Turn
  pub asks : AsksToken (manner.tokens && (ahead || is_got answer)) (is_got answer) id raises token
  pub turns_are : turns ≡ searches ++ raises

-- the events of that, where the answers are prefetched: `seek` or `probe` as often as it may be said; none, where no number is taken
abbrev pub search_events : Bool → ℕ → List Event
search_events wide id = event.Enter id ∷ replicate (most_said wide) (searching wide id)

abbrev pub events_for : Manner → Option ℕ → List Event
events_for manner None = []
events_for manner (Some id) = search_events manner.wide id ++ token_events manner.tokens id

-- The line that waits first takes a number: it is taken, and the answer waits behind what waited to be sent. The transcript, and whatever else waits, is
-- as it was, but where it is at fault
pub record TakesNumber (manner : Manner) (ahead : Bool) (turns : List Turn) (s s' : BuffersState) : Type 0 where
  pub identity : ℕ
  pub count : ℕ
  pub asks : IsTakingOf s.inbox identity count
  pub answer : ShownReply
  pub token : Option ShownReply
  pub says : TakesWith manner ahead identity turns answer token
  pub responder_is : s'.responder ≡ s.responder
  pub ended_is : s'.ended ≡ s.ended
  pub in_line_is : s'.in_line ≡ s.in_line
  pub inbox_is : s'.inbox ≡ drop count s.inbox
  pub kept : s'.broken ≡ false → (s'.outbox ≡ s.outbox ++ taken_text answer token) × (s.broken ≡ false)

-- it is refused one since as many compete as may
abbrev pub is_crowded : {V : Type 0} → Reply V → Bool
is_crowded (reply.Refused refusal.Crowded) = true
is_crowded _ = false

-- the line asks for a number and waits for one, those who are called are patient, all are held, and it waits on: nothing is answered, and nothing changes
pub record WaitsOn (manner : Manner) (ahead patient : Bool) (turns : List Turn) (s s' : BuffersState) : Type 0 where
  pub identity : ℕ
  pub count : ℕ
  pub asks : IsTakingOf s.inbox identity count
  pub may_wait : patient ≡ true
  pub waits : ltb 0 (first_wait s.inbox) ≡ true
  pub answer : ShownReply
  pub token : Option ShownReply
  pub says : TakesWith manner ahead identity turns answer token
  pub crowded : is_crowded answer ≡ true
  pub same : s' ≡ s

-- it does, or waits on, or nothing is said and nothing changes
abbrev pub MayTakeNumber : Manner → Bool → Bool → List Turn → BuffersState → BuffersState → Type 0
MayTakeNumber manner ahead patient turns s s' = ((turns ≡ []) × (s' ≡ s)) ⊎ TakesNumber manner ahead turns s s' ⊎ WaitsOn manner ahead patient turns s s'

module _ {C : Type 0} (on : Seating C) where
  -- for which identity the connection at a seat takes a number
  abbrev pub seat_taken_for : Option C → Option ℕ
  seat_taken_for None = None
  seat_taken_for (Some c) = taken_for (on.buffers c)

  -- the events by which the connections at these seats take numbers, one after another
  abbrev pub events_of : Manner → List (Option C) → List ℕ → List Event
  events_of manner seats [] = []
  events_of manner seats (key ∷ keys) = events_for manner (seat_taken_for (get_or seats key None)) ++ events_of manner seats keys

  -- a connection that takes a number is at fault, and nothing else changes; an empty seat stays empty
  abbrev pub SeatGivenUp : Option C → Option C → Type 0
  SeatGivenUp None None = Unit {0}
  SeatGivenUp None (Some c) = ⊥
  SeatGivenUp (Some c) None = ⊥
  SeatGivenUp (Some c) (Some d) = (on.buffers d ≡ given_up (on.buffers c)) × (on.left d ≡ on.left c) × (on.gone d ≡ on.gone c)

  -- at each of these seats a connection that takes a number is at fault, and nothing else changes at any seat
  pub record TakingsGivenUp (keys : List ℕ) (seats seats' : List (Option C)) : Type 0 where
    pub each : (i : ℕ) → IsAmong i keys → SeatGivenUp (get_or seats i None) (get_or seats' i None)
    pub others : (i : ℕ) → (IsAmong i keys → ⊥) → get_or seats' i None ≡ get_or seats i None

module _ {C : Type 0} (on : Seating C) (manner : Manner) (ahead patient : Bool) where
  -- by these turns a connection may take a number, and nothing is read or sent; an empty seat stays empty
  abbrev pub SeatTakesNumber : List Turn → Option C → Option C → Type 0
  SeatTakesNumber turns None None = turns ≡ []
  SeatTakesNumber turns None (Some c) = ⊥
  SeatTakesNumber turns (Some c) None = ⊥
  SeatTakesNumber turns (Some c) (Some d) = MayTakeNumber manner ahead patient turns (on.buffers c) (on.buffers d) × (on.left d ≡ on.left c) × (on.gone d ≡ on.gone c)

  module _ {T : Type 0} (may : T → Request → ShownReply → T → Type 0) where
    -- the turns of all connections, in the one order of this log, lead the service from w to u, and those of each seat are what its connection took
    -- by them
    pub record NumbersTaken (w : T) (seats : List (Option C)) (log : TurnLog) (u : T) (seats' : List (Option C)) : Type 0 where
      pub run : Runs may w (all_turns log) u
      pub each : (i : ℕ) → SeatTakesNumber (turns_of i log) (get_or seats i None) (get_or seats' i None)
      pub many : length seats' ≡ length seats

    -- one connection does
    pub record SeatTook (Due : C → Type 0) (key : ℕ) (w : T) (seats : List (Option C)) (u : T) (seats' : List (Option C)) : Type 0 where
      pub turns : List Turn
      pub run : Runs may w turns u
      pub was : C
      pub is : C
      pub was_there : get_or seats key None ≡ Some was
      pub is_there : get_or seats' key None ≡ Some is
      pub due : Due was
      pub done : Due is → ⊥
      pub takes : SeatTakesNumber turns (Some was) (Some is)
      pub others : (i : ℕ) → (i ≡ key → ⊥) → get_or seats' i None ≡ get_or seats i None
      pub many : length seats' ≡ length seats

    -- connections took numbers, what the service tells of it is kept, and only then was anything sent
    pub record TakingsKept {K : Type 0} (persists : K → T → K → T → Type 0) (k : K) (w : T) (seats : List (Option C)) (k' : K) (u : T) (seats' : List (Option C)) : Type 0 where
      pub log : TurnLog
      pub reported : T
      pub between : List (Option C)
      pub taken : NumbersTaken w seats log reported between
      pub kept : persists k reported k' u
      pub sent : RepliesSent on between seats'

    -- the same, over a service that knows the answers: those to these lines were prefetched before, where there were any
    pub record TakingsPrefetched {K : Type 0} (prefetches : K → T → List ℕ → K → T → Type 0) (persists : K → T → K → T → Type 0) (k : K) (w : T) (seats : List (Option C)) (lines : List ℕ) (k' : K) (u : T) (seats' : List (Option C)) : Type 0 where
      pub prefetched_by : K
      pub ready : T
      pub prefetched : ((lines ≡ []) × (prefetched_by ≡ k) × (ready ≡ w)) ⊎ prefetches k w lines prefetched_by ready
      pub turn : TakingsKept persists prefetched_by ready seats k' u seats'
