-- connections that keep stays, where the persister may not answer them
use Rattle.std.specs.Prelude.{◌≡◌, ◌⊎◌, ℕ, Bool, true, List, get_or, Option, None, Some}
use Rattle.model_pool.specs.declared.stays.kept_stay.KeptStay.{KeptStay}
use Rattle.model_pool.specs.stays.Stays.{Act, all_due, keeps_any}
use Rattle.service_loop.specs.Attending.{Hears, number_at}
use Rattle.service_loop.specs.Seats.{SeatIs}
use Rattle.service_loop.specs.declared.attended.Attended.{Attended}
use Rattle.service_loop.specs.declared.connection.Connection.{Connection}

-- the connection at a seat is at fault, if one sits there: nothing is sent to it any more (`SendsTo.quiet`)
abbrev pub SeatFails : {S A : Type 0} → Option (Connection S A) → Type 0
SeatFails x = SeatIs (λ c. c.buffers.broken ≡ true) x

-- each connection that keeps a stay is at fault
abbrev pub KeepersFail : {S A : Type 0} → List KeptStay → List ℕ → List (Option (Connection S A)) → Type 0
KeepersFail stays numbers seats = (i : ℕ) → keeps_any (number_at numbers i) stays ≡ true → SeatFails (get_or seats i None)

-- who keeps a stay may be answered, or is at fault
abbrev pub MayServe : {S A : Type 0} → Type 0 → List KeptStay → List ℕ → List (Option (Connection S A)) → Type 0
MayServe may stays numbers seats = may ⊎ KeepersFail stays numbers seats

-- Where stays end a grace time after their keepers, and a second has passed, those that are due at this tick are ended. Else they may be, or nothing is done
pub record EndsAtTick {D K : Type 0} (ends : List ℕ → K → Attended D → K → Attended D → Type 0) (grace : Option ℕ) (passed : Bool) (tick : ℕ) (k : K) (w : Attended D) (l : K) (u : Attended D) : Type 0 where
  pub due : (g : ℕ) → grace ≡ Some g → passed ≡ true → ends (all_due g tick w.stays) k w l u
  pub only : ((l ≡ k) × (u ≡ w)) ⊎ ((g : ℕ) × (grace ≡ Some g) × ends (all_due g tick w.stays) k w l u)

-- It was heard which connections had ended, and the stays that are due are ended. Whoever keeps a stay then may be answered, or is at fault
pub record HearsAndEnds {D K S A : Type 0} (may_answer : K → Type 0) (ends : List ℕ → K → Attended D → K → Attended D → Type 0) (grace : Option ℕ) (passed : Bool) (tick : ℕ) (acts : List Act) (numbers : List ℕ) (seats : List (Option (Connection S A))) (k : K) (w : Attended D) (l : K) (u : Attended D) : Type 0 where
  pub heard : Attended D
  pub hears : Hears acts w heard
  pub same : heard.service ≡ w.service
  pub ended : EndsAtTick ends grace passed tick k heard l u
  pub keepers : MayServe (may_answer l) u.stays numbers seats
