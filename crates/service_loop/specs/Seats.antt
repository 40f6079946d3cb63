-- a turn of the loop, over connections that have seats: what each takes and sends, and the one order of all that was said
use Rattle.std.specs.Prelude.{◌≡◌, ◌≢◌, ℕ, ◌<◌, ◌≤◌, List, [], length, get_or, Option, Some, None}
use Rattle.model_asked.specs.Replies.{ShownReply}
use Rattle.model_asked.specs.Requests.{Request}
use Rattle.text_player.specs.Runs.{Runs}
use Rattle.text_player.specs.Shared.{TurnLog, turns_of, all_turns}
use Rattle.text_player.specs.Turns.{Turn}
use Rattle.service_loop.specs.Reported.{IsAmong}
use Rattle.service_loop.specs.BuffersState.{BuffersState}
use Rattle.service_loop.specs.ConnectionBuffers.{HasTakenAll, TakesOf, SendsTo}
use Rattle.service_loop.specs.declared.connection.Connection.{Connection}

-- what a contract sees of a connection: what its stream has left to give and has taken, and its buffers
pub record Seating (C : Type 0) : Type 0 where
  pub left : C → Option (List ℕ)
  pub gone : C → Option (List ℕ)
  pub buffers : C → BuffersState

abbrev pub seating : {C : Type 0} → (C → Option (List ℕ)) → (C → Option (List ℕ)) → (C → BuffersState) → Seating C
seating left gone buffers = record { left = left; gone = gone; buffers = buffers }

-- of connections over streams that tell this of themselves
abbrev pub seats_of : {S A : Type 0} → (S → Option (List ℕ)) → (S → Option (List ℕ)) → Seating (Connection S A)
seats_of left gone = seating (λ c. left c.stream) (λ c. gone c.stream) (λ c. c.buffers)

-- a connection at a seat is so, if one sits there
abbrev pub SeatIs : {C : Type 0} → (C → Type 0) → Option C → Type 0
SeatIs P None = Unit {0}
SeatIs P (Some c) = P c

-- no connection at a seat is due
abbrev pub SeatIdle : {C : Type 0} → (C → Type 0) → Option C → Type 0
SeatIdle Due x = SeatIs (λ c. Due c → ⊥) x

-- each connection that sits at one of these seats is so
abbrev pub EachIs : {C : Type 0} → (C → Type 0) → List ℕ → List (Option C) → Type 0
EachIs P keys seats = (i : ℕ) → IsAmong i keys → SeatIs P (get_or seats i None)

-- of the seats that are ready so many are called: one at least, where any is ready
abbrev pub CallsSome : List ℕ → ℕ → Type 0
CallsSome ready called = (called ≤ length ready) × (0 < length ready → 0 < called)

module _ {C : Type 0} (on : Seating C) where
  -- by these turns a connection takes what came, and nothing is sent; an empty seat stays empty
  abbrev pub SeatTakes : List Turn → Option C → Option C → Type 0
  SeatTakes turns None None = turns ≡ []
  SeatTakes turns None (Some c) = ⊥
  SeatTakes turns (Some c) None = ⊥
  SeatTakes turns (Some c) (Some d) = TakesOf turns (on.left c) (on.buffers c) (on.left d) (on.buffers d) × (on.gone d ≡ on.gone c)

  -- a connection sends some of what waits, and nothing is read
  abbrev pub SeatSends : Option C → Option C → Type 0
  SeatSends None None = Unit {0}
  SeatSends None (Some c) = ⊥
  SeatSends (Some c) None = ⊥
  SeatSends (Some c) (Some d) = SendsTo (on.gone c) (on.buffers c) (on.gone d) (on.buffers d) × (on.left d ≡ on.left c)

  -- the turns of all connections, in the one order of this log, lead the service from w to u, and those of each seat are what its
  -- connection took
  pub record TurnsTaken {T : Type 0} (may : T → Request → ShownReply → T → Type 0) (w : T) (seats : List (Option C)) (log : TurnLog) (u : T) (seats' : List (Option C)) : Type 0 where
    pub run : Runs may w (all_turns log) u
    pub each : (i : ℕ) → SeatTakes (turns_of i log) (get_or seats i None) (get_or seats' i None)
    pub many : length seats' ≡ length seats

  -- each connection that was due at one of these seats has taken all that came of it
  abbrev pub Served : (C → Type 0) → List ℕ → List (Option C) → List (Option C) → Type 0
  Served Due keys seats seats' = (i : ℕ) (c : C) → IsAmong i keys → get_or seats i None ≡ Some c → Due c → SeatIs (λ d. HasTakenAll (on.buffers d)) (get_or seats' i None)

  -- each connection has sent some of what waits for it
  pub record RepliesSent (seats seats' : List (Option C)) : Type 0 where
    pub each : (i : ℕ) → SeatSends (get_or seats i None) (get_or seats' i None)
    pub many : length seats' ≡ length seats

  -- nothing was sent to any
  abbrev pub NoneSent : List (Option C) → List (Option C) → Type 0
  NoneSent seats seats' = (i : ℕ) (c d : C) → get_or seats i None ≡ Some c → get_or seats' i None ≡ Some d → on.gone d ≡ on.gone c

  -- one connection has its turn
  pub record SeatTurn {T : Type 0} (may : T → Request → ShownReply → T → Type 0) (Due : C → Type 0) (key : ℕ) (w : T) (seats : List (Option C)) (u : T) (seats' : List (Option C)) : Type 0 where
    pub turns : List Turn
    pub run : Runs may w turns u
    pub was : C
    pub is : C
    pub was_there : get_or seats key None ≡ Some was
    pub is_there : get_or seats' key None ≡ Some is
    pub due : Due was
    pub done : Due is → ⊥
    pub takes : SeatTakes turns (Some was) (Some is)
    pub others : (i : ℕ) → i ≢ key → get_or seats' i None ≡ get_or seats i None
    pub many : length seats' ≡ length seats

  -- one connection sends what waits
  pub record SeatSent (Due : C → Type 0) (key : ℕ) (seats seats' : List (Option C)) : Type 0 where
    pub was : C
    pub is : C
    pub was_there : get_or seats key None ≡ Some was
    pub is_there : get_or seats' key None ≡ Some is
    pub due : Due was
    pub done : Due is → ⊥
    pub sends : SeatSends (Some was) (Some is)
    pub others : (i : ℕ) → i ≢ key → get_or seats' i None ≡ get_or seats i None
    pub many : length seats' ≡ length seats

  -- a turn of the loop: all turns of all connections, in the one order of a log, lead the service from w to where it was when what it tells
  -- was kept; only then was anything sent
  pub record LoopIteration {T K : Type 0} (may : T → Request → ShownReply → T → Type 0) (persists : K → T → K → T → Type 0) (k : K) (w : T) (seats : List (Option C)) (k' : K) (u : T) (seats' : List (Option C)) : Type 0 where
    pub log : TurnLog
    pub reported : T
    pub between : List (Option C)
    pub taken : TurnsTaken may w seats log reported between
    pub kept : persists k reported k' u
    pub sent : RepliesSent between seats'

  -- a turn of the loop in which these seats are called: before anything was sent, each that was due had taken all that came
  pub record ServedIteration {T K : Type 0} (may : T → Request → ShownReply → T → Type 0) (persists : K → T → K → T → Type 0) (Due : C → Type 0) (keys : List ℕ) (k : K) (w : T) (seats : List (Option C)) (k' : K) (u : T) (seats' : List (Option C)) : Type 0 where
    pub turn : LoopIteration may persists k w seats k' u seats'
    pub served : Served Due keys seats turn.between
