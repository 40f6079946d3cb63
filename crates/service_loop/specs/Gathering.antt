-- what a connection has of its stream before its lines are taken, and a turn of the loop whose answers were prefetched before
use Rattle.std.specs.Prelude.{◌≡◌, ◌⊎◌, ℕ, ◌++◌, Bool, List, [], length, get_or, true, false, Option, Some, None}
use Rattle.std.specs.List.{list_any}
use Rattle.std.specs.Io.KnownBytes.{Consumes}
use Rattle.model_asked.specs.Replies.{ShownReply}
use Rattle.model_asked.specs.Requests.{Request}
use Rattle.model_asked.specs.declared.kind.WorldKind.{WorldKind}
use Rattle.text_lines.specs.Lines.{with_ends}
use Rattle.text_player.specs.Shared.{TurnLog, turns_of}
use Rattle.text_player.specs.Turns.{Turn}
use Rattle.service_loop.specs.Reported.{SeatLines, EndsWith, IsAmong, all_lines, asks_of, holds_of, lines_of, requests_seen}
use Rattle.service_loop.specs.BuffersState.{BuffersState}
use Rattle.service_loop.specs.ConnectionBuffers.{TakesPeeked}
use Rattle.service_loop.specs.Seats.{Seating, SeatTurn, LoopIteration}
use Rattle.service_loop.specs.declared.gathering.Called.{Called}
use Rattle.service_loop.specs.declared.gathering.Called.TheVariants as called
use Rattle.service_loop.specs.declared.peek.Peek.{Peek}

-- these bytes came of the stream, and wait behind what waited, but where it is at fault; nothing was taken or said
pub record GathersOf (left : Option (List ℕ)) (s : BuffersState) (left' : Option (List ℕ)) (s' : BuffersState) : Type 0 where
  pub came : List ℕ
  pub gave : Consumes left left' came
  pub responder_is : s'.responder ≡ s.responder
  pub outbox_is : s'.outbox ≡ s.outbox
  pub ended_is : s'.ended ≡ s.ended
  pub in_line_is : s'.in_line ≡ s.in_line
  pub kept : s'.broken ≡ false → (s'.inbox ≡ s.inbox ++ came) × (s.broken ≡ false)

-- how many of the seats a turn called
abbrev pub count_of : Called → ℕ
count_of (called.Served count) = count
count_of (called.Unserved count) = count

-- the connection at a seat, where this was looked at of each, asks for what was reported
abbrev pub SeatAsks : {C : Type 0} → (C → Option Peek) → Option C → Type 0
SeatAsks peek None = ⊥
SeatAsks peek (Some c) = asks_of (peek c) ≡ true

-- the connection at a seat asks who holds numbers, and one at any of these seats does
abbrev pub asks_holders : {C : Type 0} → (C → Option Peek) → Option C → Bool
asks_holders peek None = false
asks_holders peek (Some c) = holds_of (peek c)

abbrev pub any_asks_holders : {C : Type 0} → (C → Option Peek) → List ℕ → List (Option C) → Bool
any_asks_holders peek keys seats = list_any (λ i. asks_holders peek (get_or seats i None)) keys

-- it is at fault
abbrev pub SeatBroken : {C : Type 0} → Seating C → Option C → Type 0
SeatBroken on None = ⊥
SeatBroken on (Some c) = (on.buffers c).broken ≡ true

module _ {C : Type 0} (on : Seating C) where
  -- of a seat something may have come, and nothing was sent; an empty seat stays empty
  abbrev pub SeatGathers : Option C → Option C → Type 0
  SeatGathers None None = Unit {0}
  SeatGathers None (Some c) = ⊥
  SeatGathers (Some c) None = ⊥
  SeatGathers (Some c) (Some d) = GathersOf (on.left c) (on.buffers c) (on.left d) (on.buffers d) × (on.gone d ≡ on.gone c)

  -- of each seat
  pub record Gathered (seats seats' : List (Option C)) : Type 0 where
    pub each : (i : ℕ) → SeatGathers (get_or seats i None) (get_or seats' i None)
    pub many : length seats' ≡ length seats

  -- what was looked at of each connection; and which of them are due
  module _ (peek : C → Option Peek) (Due : C → Type 0) where
    -- one connection that is due is looked at: these are the requests among what was seen
    pub record SeatPeeked (kind : WorldKind) (key : ℕ) (seats seats' : List (Option C)) (more : List (List ℕ)) : Type 0 where
      pub was : C
      pub is : C
      pub was_there : get_or seats key None ≡ Some was
      pub is_there : get_or seats' key None ≡ Some is
      pub due : Due is
      pub more_is : more ≡ requests_seen kind (on.buffers is) (peek is)
      pub asks : asks_of (peek is) ≡ false → (asks_of (peek was) ≡ false) × (more ≡ [])
      pub others : (i : ℕ) → (i ≡ key → ⊥) → get_or seats' i None ≡ get_or seats i None

    -- Of these seats, whose connections were looked at, these lines are reported: of one that is due the requests among what was seen of it, and
    -- whose lines are in the batch knows it
    pub record Reported (kind : WorldKind) (keys : List ℕ) (reported : SeatLines) (seats : List (Option C)) : Type 0 where
      pub each : (i : ℕ) (c : C) → IsAmong i keys → get_or seats i None ≡ Some c → Due c → EndsWith (lines_of i reported) (requests_seen kind (on.buffers c) (peek c))
      pub known : (i : ℕ) → (lines_of i reported ≡ []) ⊎ (IsAmong i keys × SeatAsks peek (get_or seats i None))

    -- A turn before which the answers were not prefetched: what came was gathered, and nothing taken or sent. The lines are the requests among what
    -- was looked at of these seats, and whoever has one of them is at fault
    pub record NotPrefetched (kind : WorldKind) (keys : List ℕ) (seats : List (Option C)) (lines : List ℕ) (seats' : List (Option C)) : Type 0 where
      pub looked : List (Option C)
      pub gathered : Gathered seats looked
      pub given_up : Gathered looked seats'
      pub reported : SeatLines
      pub reported_is : lines ≡ with_ends (all_lines reported)
      pub reports : Reported kind keys reported looked
      pub broken : (i : ℕ) → (lines_of i reported ≡ []) ⊎ SeatBroken on (get_or seats' i None)

    -- a connection that is due takes of what was looked at, by these turns
    abbrev pub SeatTakesPeeked : List Turn → Option C → Option C → Type 0
    SeatTakesPeeked turns None y = ⊥
    SeatTakesPeeked turns (Some c) None = ⊥
    SeatTakesPeeked turns (Some c) (Some d) = Due c × TakesPeeked turns (peek c) (on.left c) (on.buffers c) (on.left d) (on.buffers d)

    -- one connection does
    pub record SeatTurnPeeked {T : Type 0} (may : T → Request → ShownReply → T → Type 0) (key : ℕ) (w : T) (seats : List (Option C)) (u : T) (seats' : List (Option C)) : Type 0 where
      pub turn : SeatTurn on may Due key w seats u seats'
      pub peeked : TakesPeeked turn.turns (peek turn.was) (on.left turn.was) (on.buffers turn.was) (on.left turn.is) (on.buffers turn.is)

    -- and each of these in turn; the others take nothing
    pub record TakenPeeked (keys : List ℕ) (log : TurnLog) (seats seats' : List (Option C)) : Type 0 where
      pub each : (i : ℕ) → (turns_of i log ≡ []) ⊎ (IsAmong i keys × SeatTakesPeeked (turns_of i log) (get_or seats i None) (get_or seats' i None))

    -- what a connection takes by these turns is a prefix of what was looked at, and all requests in that are reported: these lines end with them
    abbrev pub SeatReportedAndTakes : WorldKind → List (List ℕ) → List Turn → Option C → Option C → Type 0
    SeatReportedAndTakes kind ls turns None y = ⊥
    SeatReportedAndTakes kind ls turns (Some c) None = ⊥
    SeatReportedAndTakes kind ls turns (Some c) (Some d) =
        EndsWith ls (requests_seen kind (on.buffers c) (peek c)) × TakesPeeked turns (peek c) (on.left c) (on.buffers c) (on.left d) (on.buffers d)

    -- A turn of the loop, before which its answers were prefetched: what came was gathered, and nothing sent; the answers to these lines were
    -- prefetched, where there were any, and in any case where a connection at one of these seats asks who holds numbers; and then all took their
    -- turns over a service that knows the answers, and only then was anything sent. The lines are the requests among what was looked at of each connection, and no connection took anything else
    pub record PrefetchedIteration {T K : Type 0} (may : T → Request → ShownReply → T → Type 0) (prefetches : K → T → List ℕ → K → T → Type 0) (persists : K → T → K → T → Type 0) (kind : WorldKind) (keys : List ℕ) (k : K) (w : T) (seats : List (Option C)) (lines : List ℕ) (k' : K) (u : T) (seats' : List (Option C)) : Type 0 where
      pub gathered_seats : List (Option C)
      pub prefetched_by : K
      pub ready : T
      pub gathered : Gathered seats gathered_seats
      pub prefetched : ((lines ≡ []) × (prefetched_by ≡ k) × (ready ≡ w)) ⊎ prefetches k w lines prefetched_by ready
      pub asked : any_asks_holders peek keys gathered_seats ≡ true → prefetches k w lines prefetched_by ready
      pub turn : LoopIteration on may persists prefetched_by ready gathered_seats k' u seats'
      pub reported : SeatLines
      pub reported_is : lines ≡ with_ends (all_lines reported)
      pub each : (i : ℕ) → (turns_of i turn.log ≡ []) ⊎ SeatReportedAndTakes kind (lines_of i reported) (turns_of i turn.log) (get_or gathered_seats i None) (get_or turn.between i None)
