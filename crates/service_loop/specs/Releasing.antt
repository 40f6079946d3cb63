-- what a server says to end stays
use Rattle.std.specs.Prelude.{◌≡◌, ◌⊎◌, ◌<◌, if◌then◌else◌, ℕ, Bool, true, false, not, is_some, List, [], ◌∷◌, ◌++◌, filter, flat_map, map, replicate}
use Rattle.std.specs.List.{Contains}
use Rattle.model_steps.specs.declared.refusal.Refusal.{Refusal}
use Rattle.model_steps.specs.declared.refusal.Refusal.TheVariants as refusal
use Rattle.model_pool.specs.Competitors.{stay_of}
use Rattle.model_pool.specs.slots.SlotsState.{SlotsState}
use Rattle.model_asked.specs.declared.event.Event.{Event}
use Rattle.model_asked.specs.declared.event.Event.TheVariants as event
use Rattle.model_asked.specs.declared.reply.Reply.{Reply}
use Rattle.model_asked.specs.declared.reply.Reply.TheVariants as reply
use Rattle.model_asked.specs.Replies.{ShownReply}
use Rattle.model_asked.specs.Requests.{Request}
use Rattle.model_asked.specs.Requests.Request.{Take}
use Rattle.text_player.specs.Runs.{Runs}
use Rattle.text_player.specs.Turns.{Turn}
use Rattle.text_player.specs.Turns.Turn.{Answered, Reported, Ended, Misread}
use Rattle.model_pool.specs.stays.Stays.{Act}
use Rattle.model_pool.specs.stays.Stays.Act.{Left}
use Rattle.service_loop.specs.declared.attended.Attended.{Attended}
use Rattle.service_loop.specs.Attending.{Hears}
use Rattle.service_loop.specs.Searching.{most_said, searched}

-- `leave` of an identity was answered so
abbrev pub leave_of : ℕ → ShownReply → Turn
leave_of id r = Answered (record { event = event.Leave id; reply = r })

-- the identity competes and holds no number, by the reply to `leave`
abbrev pub is_not_holding : Refusal → Bool
is_not_holding refusal.NotHolding = true
is_not_holding _ = false

abbrev pub lacks_number : {V : Type 0} → Reply V → Bool
lacks_number (reply.Refused why) = is_not_holding why
lacks_number _ = false

-- a `probe` was missed
abbrev pub is_missed : {V : Type 0} → Reply V → Bool
is_missed reply.Missed = true
is_missed _ = false

-- `seek` or `probe` of an identity, missed but for the last, or missed as often as it may be said
abbrev pub AreProbes : Bool → ℕ → List Turn → Type 0
AreProbes wide id turns =
    (turns ≡ replicate (most_said wide) (searched wide id reply.Missed)) ⊎
    ((n : ℕ) × (r : ShownReply) × (n < most_said wide) × (is_missed r ≡ false) × (turns ≡ replicate n (searched wide id reply.Missed) ++ searched wide id r ∷ []))

-- These turns release an identity: `leave`, or, where it holds no number, `seek` or `probe`, and `leave` once more. This is the reply to the last
-- `leave`
abbrev pub IsReleaseBy : Bool → ℕ → ShownReply → List Turn → Type 0
IsReleaseBy wide id r turns =
    ((turns ≡ leave_of id r ∷ []) × (lacks_number r ≡ false)) ⊎
    ((first : ShownReply) × (probes : List Turn) × (lacks_number first ≡ true) × AreProbes wide id probes × (turns ≡ leave_of id first ∷ probes ++ leave_of id r ∷ []))

-- they release these identities, one after another
abbrev pub AreReleases : Bool → List ℕ → List Turn → Type 0
AreReleases wide [] turns = turns ≡ []
AreReleases wide (id ∷ ids) turns = (one rest : List Turn) × (r : ShownReply) × (turns ≡ one ++ rest) × IsReleaseBy wide id r one × AreReleases wide ids rest

-- the identity does not compete any more, by the reply to `leave`: it was accepted, or refused for that
abbrev pub is_not_competing : Refusal → Bool
is_not_competing refusal.NotCompeting = true
is_not_competing _ = false

abbrev pub is_freed : {V : Type 0} → Reply V → Bool
is_freed (reply.Left number) = true
is_freed (reply.Refused why) = is_not_competing why
is_freed _ = false

-- then its stay has ended
abbrev pub freed_by : {V : Type 0} → Event → Reply V → List Act
freed_by (event.Leave id) r = if is_freed r then Left id ∷ [] else []
freed_by _ r = []

abbrev pub freed_of : Turn → List Act
freed_of (Answered x) = freed_by x.event x.reply
freed_of (Reported n r) = []
freed_of Ended = []
freed_of (Misread bad) = []

abbrev pub freed_in : List Turn → List Act
freed_in turns = flat_map freed_of turns

-- These identities were released, one after another, by turns of the service that say nothing else. Of who keeps stays nothing changed but that the
-- stay of each is forgotten that does not compete any more, by the reply to it
pub record Released {D : Type 0} (wide : Bool) (may : D → Request → ShownReply → D → Type 0) (due : List ℕ) (w u : Attended D) : Type 0 where
  pub turns : List Turn
  pub run : Runs may w.service turns u.service
  pub each : AreReleases wide due turns
  pub heard : Hears (freed_in turns) w u

-- the stays of these identities were released, and what the service tells of it is kept
pub record ReleasedAndKept {D K : Type 0} (wide : Bool) (may : D → Request → ShownReply → D → Type 0) (persists : K → D → K → D → Type 0) (due : List ℕ) (k : K) (w : Attended D) (l : K) (u : Attended D) : Type 0 where
  pub reported : Attended D
  pub released : Released wide may due w reported
  pub kept : persists k reported.service l u.service
  pub same : Hears [] reported u

-- an identity competes for these slots
abbrev pub competes_for : SlotsState ℕ → ℕ → Bool
competes_for slots id = is_some (stay_of id slots.pool.competitors)

-- nothing was done but that the stay of each of these identities is forgotten that does not compete for the slots
pub record Forgot {D : Type 0} (slots : SlotsState ℕ) (due : List ℕ) (w u : Attended D) : Type 0 where
  pub same : u.service ≡ w.service
  pub heard : Hears (map Left (filter (λ id. not (competes_for slots id)) due)) w u

-- the persister went on by itself, and then the stay of each of these identities is forgotten that does not compete any more
pub record WaitedAndForgot {D K : Type 0} (waits : K → D → K → D → Type 0) (holds : K → D → SlotsState ℕ) (due : List ℕ) (k : K) (w : Attended D) (l : K) (u : Attended D) : Type 0 where
  pub reached : Attended D
  pub waited : waits k w.service l reached.service
  pub same : Hears [] w reached
  pub forgot : Forgot (holds l reached.service) due reached u

-- Where the persister shares stays it went on by itself. Else these are none, and nothing was done; or these were released
abbrev pub EndsDue : {D K : Type 0} → Bool → (D → Request → ShownReply → D → Type 0) → (K → D → K → D → Type 0) → (K → D → K → D → Type 0) → (K → Bool) → (K → D → SlotsState ℕ) → List ℕ → K → Attended D → K → Attended D → Type 0
EndsDue wide may persists waits shares holds due k w l u =
    ((shares k ≡ true) × WaitedAndForgot waits holds due k w l u) ⊎
    ((shares k ≡ false) × (((due ≡ []) × (l ≡ k) × (u ≡ w)) ⊎ ReleasedAndKept wide may persists due k w l u))

-- what a service tells of who competes: not who was freed, and nobody enters by `leave`, `probe` or `seek`
pub record TellsOfStays {D : Type 0} (may : D → Request → ShownReply → D → Type 0) (competes : D → ℕ → Bool) : Type 0 where
  pub freed : (w u : D) (id : ℕ) (r : ShownReply) → may w (Take (event.Leave id)) r u → is_freed r ≡ true → competes u id ≡ false
  pub leave : (w u : D) (id i : ℕ) (r : ShownReply) → may w (Take (event.Leave i)) r u → competes w id ≡ false → competes u id ≡ false
  pub probe : (w u : D) (id i : ℕ) (r : ShownReply) → may w (Take (event.Probe i)) r u → competes w id ≡ false → competes u id ≡ false
  pub seek : (w u : D) (id i : ℕ) (r : ShownReply) → may w (Take (event.Seek i)) r u → competes w id ≡ false → competes u id ≡ false

-- among these turns is a release of an identity whose last `leave` did not free it
pub record IsNotFreed (wide : Bool) (id : ℕ) (turns : List Turn) : Type 0 where
  pub before : List Turn
  pub one : List Turn
  pub after : List Turn
  pub parts : turns ≡ before ++ (one ++ after)
  pub reply : ShownReply
  pub by : IsReleaseBy wide id reply one
  pub not : is_freed reply ≡ false

-- of a service that tells so, each of these does not compete once it was released, but where its last `leave` did not free it
abbrev pub ReleasesFree : {D : Type 0} → Bool → (D → Request → ShownReply → D → Type 0) → Type 0
ReleasesFree {D = D} wide may = (competes : D → ℕ → Bool) (due : List ℕ) (w u : Attended D) (released : Released wide may due w u) (id : ℕ) → TellsOfStays may competes →
    Contains due id → (competes u.service id ≡ false) ⊎ IsNotFreed wide id released.turns
