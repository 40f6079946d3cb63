-- machines with calls, and properties of them over every list of calls with its replies
use Rattle.std.specs.Prelude.{◌≡◌, List, [], ◌∷◌, ◌++◌}
use Rattle.model_steps.specs.Runs.{Run, replay_from}

-- a machine: its starts, its states, and its calls, each with its reply
pub record Machine (Start State Call : Type 0) : Type 1 where
  -- the machine may start in this way
  pub MayStart : Start → Type 0
  -- the state in which it starts
  pub first : Start → State
  -- the state after a call
  pub next : State → Call → State
  -- the call may have this reply
  pub IsReply : State → Call → Type 0
  -- the specification of lists of calls
  pub Spec : Start → List Call → Type 0
  -- each call of the list returns the error that is due, and no other, failed allocations aside
  pub RefusesAsDue : Start → List Call → Type 0

module _ {Start State Call : Type 0} (machine : Machine Start State Call) where
  -- the machine started in this way, and these calls with these replies led it to this state
  pub record Reaches (start : Start) (w : State) (r : List Call) : Type 0 where
    pub started : machine.MayStart start
    pub run : Run machine.next machine.IsReply (machine.first start) r w

  -- the state that these calls lead to
  abbrev pub replay : Start → List Call → State
  replay start r = replay_from machine.next (machine.first start) r

  -- this holds of every list of calls that leads to this state
  abbrev pub OnEveryHistory : (Start → List Call → Type 0) → State → Type 0
  OnEveryHistory Holds w = (start : Start) (r : List Call) → Reaches start w r → Holds start r

  -- every list of calls that leads to the old state leads, with this call, to the new one
  abbrev pub Extends : State → State → Call → Type 0
  Extends old new call = (start : Start) (r : List Call) → Reaches start old r → Reaches start new (r ++ call ∷ [])

  -- a call with a reply that it may have extends the history
  abbrev pub CallExtends : State → State → Call → Type 0
  CallExtends w new call = new ≡ machine.next w call → machine.IsReply w call → Extends w new call

  -- every list of calls that leads to this state satisfies the specification
  abbrev pub SatisfiesSpec : State → Type 0
  SatisfiesSpec w = OnEveryHistory machine.Spec w

  -- failed allocations aside, each call that led to this state returned an error if and only if the calls before it
  -- make that error due
  abbrev pub RefusesWhereDue : State → Type 0
  RefusesWhereDue w = OnEveryHistory machine.RefusesAsDue w

  -- What is proved of a machine once. It starts after no call, and each call extends its history. Every list of calls
  -- that leads to a state, with every prefix of it, satisfies the specification, and its calls return the errors that
  -- are due. A prefix leads to a state from which the other calls follow. One list leads to one state alone, that of
  -- its replay
  pub record IsProved : Type 0 where
    pub fresh : (start : Start) → machine.MayStart start → Reaches start (machine.first start) []
    pub call : (w new : State) (h : Call) → CallExtends w new h
    pub law : (w : State) → SatisfiesSpec w
    pub due : (w : State) → RefusesWhereDue w
    pub prefix : (start : Start) (w : State) (r t : List Call) → Reaches start w (r ++ t) → machine.Spec start r
    pub between : (start : Start) (w : State) (r t : List Call) → Reaches start w (r ++ t) → (mid : State) × Reaches start mid r × Run machine.next machine.IsReply mid t w
    pub one : (start : Start) (w other : State) (r : List Call) → Reaches start w r → Reaches start other r → w ≡ other
    pub replays : (w : State) → OnEveryHistory (λ start r. w ≡ replay start r) w
