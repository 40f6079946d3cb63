-- the numbers of connections, and how those end that leave
use Rattle.std.specs.Prelude.{◌≡◌, ◌⊎◌, ◌<◌, ◌-◌, ◌&&◌, ◌||◌, if◌then◌else◌, leb, ℕ, Bool, true, false, List, get_or, Option, Some, None}
use Rattle.service_loop.specs.Attending.{number_at}
use Rattle.service_loop.specs.declared.attended.Ending.{Ending}
use Rattle.service_loop.specs.declared.connection.Connection.{Connection}
use Rattle.service_loop.specs.declared.connection.ConnectionStage.{ConnectionStage}
use Rattle.service_loop.specs.declared.connection.ConnectionStage.TheVariants as stage
use Rattle.service_loop.specs.declared.connections.TheConstants.{FLUSH_TICKS}

-- the number of the connection at a seat is below the next, and no other seat has it
pub record AreNumbered (numbers : List ℕ) (next : ℕ) : Type 0 where
  pub below : (i : ℕ) → number_at numbers i < next
  pub own : (i j : ℕ) → number_at numbers i ≡ number_at numbers j → (i ≡ j) ⊎ (number_at numbers i ≡ 0)

-- the number of the connection at each seat, and that of the next
pub record Numbering : Type 0 where
  pub items : List ℕ
  pub next : ℕ

-- the connection at a seat said `quit`
abbrev pub seat_over : {S A : Type 0} → Option (Connection S A) → Bool
seat_over None = false
seat_over (Some c) = c.buffers.responder.over

-- how the connection at a seat ends that leaves now
abbrev pub ending_at : {S A : Type 0} → List ℕ → List (Option (Connection S A)) → ℕ → Ending
ending_at numbers seats key = record { number = number_at numbers key; by_quit = seat_over (get_or seats key None) }

-- nothing is to be done for a connection
abbrev pub is_idle : ConnectionStage → Bool
is_idle stage.Idle = true
is_idle stage.Queued = false
is_idle stage.Taken = false

-- for how many ticks a connection may rest: a few where it is at its end or said `quit`, and else as the server lets it
abbrev pub most_rest : {S A : Type 0} → Option ℕ → Connection S A → Option ℕ
most_rest idle c = if c.buffers.responder.over || c.buffers.ended then Some FLUSH_TICKS else idle

abbrev pub is_past : Option ℕ → ℕ → Bool
is_past None ticks = false
is_past (Some most) ticks = leb most ticks

-- the connection at a seat rests for as long, and is closed
abbrev pub is_swept : {S A : Type 0} → ℕ → Option ℕ → Option (Connection S A) → Bool
is_swept tick idle None = false
is_swept tick idle (Some c) = is_idle c.stage && is_past (most_rest idle c) (tick - c.since)
