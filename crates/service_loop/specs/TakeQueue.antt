-- those who wait for numbers at a server, in the order in which they came, and who of them is called (first come, first served)
use Rattle.std.specs.Prelude.{◌≡◌, ◌⊎◌, ℕ, ◌==◌, ltb, leb, min, Bool, true, false, ◌&&◌, ◌||◌, if◌then◌else◌, List, [], ◌∷◌, ◌++◌, map, filter, take, get_or, Option, Some, None, is_some}
use Rattle.model_pool.specs.Competitors.{stay_of}
use Rattle.model_pool.specs.slots.SlotsState.{SlotsState}
use Rattle.service_loop.specs.Attending.{number_at}
use Rattle.service_loop.specs.Rooms.{room_in}
use Rattle.service_loop.specs.Waiting.{first_wait, taken_for}
use Rattle.service_loop.specs.declared.connection.Connection.{Connection}
use Rattle.service_loop.specs.declared.take_line.TakeLine.{TakeLine}
use Rattle.service_loop.specs.declared.take_queue.TakeQueue.{TakeQueue}
use Rattle.service_loop.specs.declared.take_queue.Waiter.{Waiter}
use Rattle.service_loop.specs.declared.take_queue.TheConstants.{MOST_CALLED}

abbrev pub wish_if : Bool → ℕ → Option ℕ → Option TakeLine
wish_if hung seconds None = None
wish_if hung seconds (Some id) = Some (record { identity = id; seconds = if hung then 0 else seconds })

-- for whom the connection at a seat takes a number, and for how many seconds it waits: for none where the end of what comes was told
abbrev pub wish_of : {S A : Type 0} → Option (Connection S A) → Option TakeLine
wish_of None = None
wish_of (Some c) = wish_if c.hung (first_wait c.buffers.inbox) (taken_for c.buffers)

abbrev pub waits_for : ℕ → Option TakeLine → Bool
waits_for id None = false
waits_for id (Some line) = (line.identity == id) && ltb 0 line.seconds

-- one still waits where it sat
abbrev pub waits_on : {S A : Type 0} → List ℕ → List (Option (Connection S A)) → Waiter → Bool
waits_on numbers seats w = (number_at numbers w.key == w.number) && waits_for w.identity (wish_of (get_or seats w.key None))

-- these all do
abbrev pub AllWaitOn : {S A : Type 0} → List ℕ → List (Option (Connection S A)) → List Waiter → Type 0
AllWaitOn numbers seats waiters = filter (waits_on numbers seats) waiters ≡ waiters

-- a number is taken, and the line is not to wait for one: it waits for no second, or is refused whatever is free
abbrev pub asks_at_once : SlotsState ℕ → Option TakeLine → Bool
asks_at_once state None = false
asks_at_once state (Some line) = (line.seconds == 0) || ((line.identity == 0) || is_some (stay_of line.identity state.pool.competitors))

-- those of these seats whose lines are so
abbrev pub asking_of : {S A : Type 0} → SlotsState ℕ → List (Option (Connection S A)) → List ℕ → List ℕ
asking_of state seats keys = filter (λ key. asks_at_once state (wish_of (get_or seats key None))) keys

-- one waits no longer
abbrev pub is_late : ℕ → Waiter → Bool
is_late tick w = leb w.until tick

abbrev pub seats_of_all : List Waiter → List ℕ
seats_of_all waiters = map (λ w. w.key) waiters

-- where so many more may hold a number, somebody waits who may
abbrev pub is_patient : ℕ → List Waiter → Bool
is_patient room [] = false
is_patient room (w ∷ ws) = ltb 0 room

-- who is called: as many of the first who wait as may hold a number, and nobody else; where nobody waits or none may, who waits no longer, and who
-- asks and does not wait
abbrev pub called_of : ℕ → ℕ → List Waiter → List ℕ → List ℕ
called_of room tick waiters asking =
    if is_patient room waiters then seats_of_all (take (min room MOST_CALLED) waiters)
    else seats_of_all (filter (is_late tick) waiters) ++ asking

-- In a round those leave the queue who wait no longer where they sat, and others who wait join behind. Those are called whose turn it is by the room that the
-- pool has; of these seats those ask whose lines do not wait; and whether the called are patient is told
pub record CallsInTurn {S A : Type 0} (state : SlotsState ℕ) (tick : ℕ) (numbers : List ℕ) (seats : List (Option (Connection S A))) (keys : List ℕ) (queue queue' : TakeQueue) (patient : Bool) : Type 0 where
  pub joined : List Waiter
  pub wait : AllWaitOn numbers seats joined
  pub waiters_are : queue'.waiters.items ≡ filter (waits_on numbers seats) queue.waiters.items ++ joined
  pub called_are : queue'.called.items ≡ called_of (room_in state) tick queue'.waiters.items (asking_of state seats keys)
  pub patient_is : patient ≡ is_patient (room_in state) queue'.waiters.items

-- those who are called came first: behind them stands the rest of those who wait, in its order
abbrev pub AreFirst : List ℕ → List Waiter → Type 0
AreFirst called waiters = (rest : List Waiter) × (called ++ seats_of_all rest ≡ seats_of_all waiters)

-- where more may hold a number and somebody waits, only those are called who came first; and who does not wait is called where nobody waits, or none may
abbrev pub IsInTurn : Type 0
IsInTurn = (room tick : ℕ) (waiters : List Waiter) (asking : List ℕ) → (is_patient room waiters ≡ true → AreFirst (called_of room tick waiters asking) waiters) ×
    (is_patient room waiters ≡ false → (room ≡ 0) ⊎ (waiters ≡ []))
