-- what a server does to its service, its persister and the table of who keeps stays, as long as it runs
use Rattle.std.specs.Prelude.{◌≡◌, ℕ, Bool, true, false, List, [], ◌∷◌, ◌++◌, Option}
use Rattle.model_asked.specs.Replies.{ShownReply}
use Rattle.model_asked.specs.Requests.{Request}
use Rattle.model_asked.specs.declared.kind.WorldKind.{WorldKind}
use Rattle.model_pool.specs.declared.stays.kept_stay.KeptStay.{KeptStay}
use Rattle.model_pool.specs.slots.SlotsState.{SlotsState}
use Rattle.model_pool.specs.stays.Stays.{Act, Has, IsDue, IsGraced}
use Rattle.model_pool.specs.stays.Stays.Act.{Entered, Left, Ended as KeeperEnded, Quit}
use Rattle.text_lines.specs.Lines.{whole_lines}
use Rattle.text_player.specs.Shared.{TurnLog}
use Rattle.service_loop.specs.Attending.{Hears, acts_in, acts_of_endings, number_at}
use Rattle.service_loop.specs.Keepers.{EndsAtTick}
use Rattle.service_loop.specs.Losing.{lost_acts}
use Rattle.service_loop.specs.Releasing.{EndsDue}
use Rattle.service_loop.specs.Seats.{LoopIteration, Seating}
use Rattle.service_loop.specs.Table.{AreNumbered}
use Rattle.service_loop.specs.Taking.{TakingsKept}
use Rattle.service_loop.specs.declared.attended.Attended.{Attended}
use Rattle.service_loop.specs.declared.attended.Ending.{Ending}
use Rattle.service_loop.specs.declared.attended.TheConstants.{NOBODY}
use Rattle.service_loop.specs.declared.manner.Manner.{Manner}

-- one thing that is done: the persister goes on by itself; the answers to these lines are prefetched; connections of these numbers take the turns of a
-- log, or numbers by its turns; the answers to these lines are lost; or, at a tick, it is heard which connections ended and whether an answer was lost, and then stays are ended
-- that are due, all of them where a second has passed
pub data AttendedDeed : Type 0 where
  Waits : AttendedDeed
  Prefetches : List ℕ → AttendedDeed
  Serves : List ℕ → TurnLog → AttendedDeed
  Takes : List ℕ → TurnLog → AttendedDeed
  Loses : WorldKind → List ℕ → AttendedDeed
  Ends : Bool → ℕ → Bool → List Ending → AttendedDeed

-- by these acts stays are left, and nothing else
abbrev pub AreLeft : List Act → Type 0
AreLeft [] = Unit {0}
AreLeft (Left id ∷ acts) = AreLeft acts
AreLeft (Entered id c ∷ acts) = ⊥
AreLeft (KeeperEnded c tick ∷ acts) = ⊥
AreLeft (Quit c ∷ acts) = ⊥

-- by these acts nobody keeps stays that may have begun, and nothing else
abbrev pub AreLost : List Act → Type 0
AreLost [] = Unit {0}
AreLost (Left id ∷ acts) = ⊥
AreLost (Entered id c ∷ acts) = (c ≡ NOBODY) × AreLost acts
AreLost (KeeperEnded c tick ∷ acts) = ⊥
AreLost (Quit c ∷ acts) = ⊥

-- What is heard of stays by what is done, in its order: of turns, of the connection that took each; of answers that are lost, that nobody keeps those
-- stays; at a tick, which connections ended then, and afterwards which stays are left
abbrev pub AreHeard : List AttendedDeed → List Act → Type 0
AreHeard [] acts = acts ≡ []
AreHeard (Waits ∷ deeds) acts = AreHeard deeds acts
AreHeard (Prefetches lines ∷ deeds) acts = AreHeard deeds acts
AreHeard (Serves numbers log ∷ deeds) acts = (rest : List Act) × (acts ≡ acts_in (number_at numbers) log ++ rest) × AreHeard deeds rest
AreHeard (Takes numbers log ∷ deeds) acts = (rest : List Act) × (acts ≡ acts_in (number_at numbers) log ++ rest) × AreHeard deeds rest
AreHeard (Loses kind lines ∷ deeds) acts = (lost rest : List Act) × (acts ≡ lost ++ rest) × AreLost lost × AreHeard deeds rest
AreHeard (Ends passed tick lost endings ∷ deeds) acts =
    (left rest : List Act) × (acts ≡ acts_of_endings tick lost endings ++ (left ++ rest)) × AreLeft left × AreHeard deeds rest

module _ {C D K : Type 0} (on : Seating C) (manner : Manner) (may : D → Request → ShownReply → D → Type 0) (prefetches : K → D → List ℕ → K → D → Type 0) (persists waits : K → D → K → D → Type 0) (shares : K → Bool) (holds : K → D → SlotsState ℕ) (grace : Option ℕ) where
  -- The connections at some seats took the turns of this log, each those to the lines that it sent; what the service tells of them was kept; and only then
  -- were replies sent, to each connection of those that wait for it. What the turns say of stays was heard of the number of the connection that took them,
  -- which no other has
  pub record ServesLog (numbers : List ℕ) (log : TurnLog) (k : K) (w : Attended D) (l : K) (u : Attended D) : Type 0 where
    pub seats : List (Option C)
    pub seats' : List (Option C)
    pub turn : LoopIteration on may persists k w.service seats l u.service seats'
    pub log_is : turn.log ≡ log
    pub next : ℕ
    pub numbered : AreNumbered numbers next
    pub hears : Hears (acts_in (number_at numbers) log) w u

  -- and so they took numbers (`TakesNumber`)
  pub record TakesLog (numbers : List ℕ) (log : TurnLog) (k : K) (w : Attended D) (l : K) (u : Attended D) : Type 0 where
    pub ahead : Bool
    pub patient : Bool
    pub seats : List (Option C)
    pub seats' : List (Option C)
    pub taking : TakingsKept on manner ahead patient may persists k w.service seats l u.service seats'
    pub log_is : taking.log ≡ log
    pub next : ℕ
    pub numbered : AreNumbered numbers next
    pub hears : Hears (acts_in (number_at numbers) log) w u

  -- it was heard how these connections ended, and then the stays that are due were ended
  pub record EndsStays (passed : Bool) (tick : ℕ) (acts : List Act) (k : K) (w : Attended D) (l : K) (u : Attended D) : Type 0 where
    pub heard : Attended D
    pub hears : Hears acts w heard
    pub same : heard.service ≡ w.service
    pub ended : EndsAtTick (EndsDue manner.wide may persists waits shares holds) grace passed tick k heard l u

  -- one thing leads a persister and an attended service from there to here
  abbrev pub AttendedBy : K → Attended D → AttendedDeed → K → Attended D → Type 0
  AttendedBy k w Waits l u = waits k w.service l u.service × Hears [] w u
  AttendedBy k w (Prefetches lines) l u = prefetches k w.service lines l u.service × Hears [] w u
  AttendedBy k w (Serves numbers log) l u = ServesLog numbers log k w l u
  AttendedBy k w (Takes numbers log) l u = TakesLog numbers log k w l u
  AttendedBy k w (Loses kind lines) l u = waits k w.service l u.service × Hears (lost_acts kind w.stays (whole_lines lines)) w u
  AttendedBy k w (Ends passed tick lost endings) l u = EndsStays passed tick (acts_of_endings tick lost endings) k w l u

  -- all of these do, one after another
  abbrev pub AllAttended : K → Attended D → List AttendedDeed → K → Attended D → Type 0
  AllAttended k w [] l u = (l ≡ k) × (u ≡ w)
  AllAttended k w (deed ∷ deeds) l u = (mid : K) × (then : Attended D) × AttendedBy k w deed mid then × AllAttended mid then deeds l u

  -- nothing else was done to them
  abbrev pub WasAttended : K → Attended D → K → Attended D → Type 0
  WasAttended k w l u = (deeds : List AttendedDeed) × AllAttended k w deeds l u

  -- A stay that is due at a tick, once it was heard there which connections ended, is graced by all that was heard till then: its keeper said `quit` or ended
  -- longer ago than the grace time, and nobody has kept it since
  abbrev pub KeepsGrace : Type 0
  KeepsGrace = (k mid l : K) (w v u : Attended D) (deeds : List AttendedDeed) (passed : Bool) (tick : ℕ) (lost : Bool) (endings : List Ending) →
      AllAttended k w deeds mid v → (e : EndsStays passed tick (acts_of_endings tick lost endings) mid v l u) → e.heard.keeps ≡ true → e.heard.lacks ≡ false →
      (g : ℕ) (stay : KeptStay) → Has stay e.heard.stays → IsDue g tick stay.keeper →
      (acts : List Act) × AreHeard deeds acts × IsGraced g tick w.stays (acts ++ acts_of_endings tick lost endings) stay
