-- when a server sends replies, and to whom it sends none
use Rattle.std.specs.Prelude.{◌≡◌, ◌⊎◌, ℕ, zero, suc, true, List, [], get_or, Option, Some, None}
use Rattle.std.specs.declared.alloc.Global.{Global}
use Rattle.model_pool.specs.declared.stays.kept_stay.KeptStay.{KeptStay}
use Rattle.model_pool.specs.stays.Stays.{keeps_any}
use Rattle.service_loop.specs.Attending.{number_at}
use Rattle.service_loop.specs.Seats.{RepliesSent, Seating, SeatIs, SeatSends, seats_of}
use Rattle.service_loop.specs.declared.connection.Connection.{Connection}
use Rattle.service_loop.specs.declared.socket.Socket.{Socket}

-- of connections over sockets, which tell no bytes
abbrev pub sockets : {S A : Type 0} → Seating (Connection S A)
sockets = seats_of (λ s. None) (λ s. None)

-- of those of a server
abbrev pub hosted : Seating (Connection Socket Global)
hosted = sockets

module _ {C : Type 0} (on : Seating C) where
  -- nothing is sent to a connection, and one at fault stays so; an empty seat stays empty
  abbrev pub SeatUnsent : Option C → Option C → Type 0
  SeatUnsent None None = Unit {0}
  SeatUnsent None (Some c) = ⊥
  SeatUnsent (Some c) None = ⊥
  SeatUnsent (Some c) (Some d) = (on.gone d ≡ on.gone c) × ((on.buffers c).broken ≡ true → (on.buffers d).broken ≡ true)

  abbrev pub Unsent : List (Option C) → List (Option C) → Type 0
  Unsent seats seats' = (i : ℕ) → SeatUnsent (get_or seats i None) (get_or seats' i None)

  -- what is sent to the connection at a seat is nothing
  abbrev pub IsSilent : (x y : Option C) → SeatSends on x y → Type 0
  IsSilent None y sends = Unit {0}
  IsSilent (Some c) None sends = Unit {0}
  IsSilent (Some c) (Some d) sends = sends.0.sent ≡ []

  -- so many times replies are sent, to these seats none; and before, between and behind nothing is sent
  abbrev pub SendsBut : (ℕ → Type 0) → ℕ → List (Option C) → List (Option C) → Type 0
  SendsBut Mute zero seats seats' = Unsent seats seats'
  SendsBut Mute (suc n) seats seats' = (before : List (Option C)) × (after : List (Option C)) × Unsent seats before × (sent : RepliesSent on before after) ×
      ((i : ℕ) → Mute i → IsSilent (get_or before i None) (get_or after i None) (sent.each i)) × SendsBut Mute n after seats'

  -- the connection at a seat was at fault at first
  abbrev pub Fails : List (Option C) → ℕ → Type 0
  Fails seats i = SeatIs (λ c. (on.buffers c).broken ≡ true) (get_or seats i None)

  -- replies are sent, to those none that were at fault
  abbrev pub HasSent : List (Option C) → List (Option C) → Type 0
  HasSent seats seats' = (n : ℕ) × SendsBut (Fails seats) n seats seats'

  -- who keeps a stay may be answered, or replies are sent, and none to those who keep stays
  abbrev pub SendsToKeepers : Type 0 → List KeptStay → List ℕ → List (Option C) → List (Option C) → Type 0
  SendsToKeepers may stays numbers seats seats' = may ⊎ ((n : ℕ) × SendsBut (λ i. keeps_any (number_at numbers i) stays ≡ true) n seats seats')
