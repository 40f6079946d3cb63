-- a service that transcripts share: one order of all turns, and the turns of each transcript in it
use Rattle.std.specs.Prelude.{◌≡◌, ℕ, ◌==◌, if◌then◌else◌, List, [], ◌∷◌, ◌++◌, flat_map}
use Rattle.model_asked.specs.Replies.{ShownReply}
use Rattle.model_asked.specs.Requests.{Request}
use Rattle.text_player.specs.Progress.{Progress}
use Rattle.text_player.specs.Runs.{Runs}
use Rattle.text_player.specs.Says.{Anywhere, SaysBy, Spoke}
use Rattle.text_player.specs.ResponderState.{ResponderState}
use Rattle.text_player.specs.Turns.{Turn}

-- a log: the turns of all transcripts, in the order in which the service answered them, each with the number of its
-- transcript
abbrev pub TurnLog : Type 0
TurnLog = List (ℕ × Turn)

module _ {X : Type 0} where
  -- the items that have this number
  abbrev pub numbered : ℕ → List (ℕ × X) → List X
  numbered i [] = []
  numbered i (x ∷ xs) = if x.0 == i then x.1 ∷ numbered i xs else numbered i xs

  -- all of them
  abbrev pub unnumbered : List (ℕ × X) → List X
  unnumbered [] = []
  unnumbered (x ∷ xs) = x.1 ∷ unnumbered xs

  -- these items, each with this number
  abbrev pub tagged : ℕ → List X → List (ℕ × X)
  tagged i [] = []
  tagged i (x ∷ xs) = (i, x) ∷ tagged i xs

-- the turns of one transcript, and all of them
abbrev pub turns_of : ℕ → TurnLog → List Turn
turns_of i log = numbered i log

abbrev pub all_turns : TurnLog → List Turn
all_turns log = unnumbered log

-- the same function, with another value at one place
abbrev pub changed : {X : Type 0} → (ℕ → X) → ℕ → X → ℕ → X
changed f i x j = if i == j then x else f j

-- the turns of the log, in its order, lead the service from its start to w. The turns of each transcript in it are all
-- of that transcript, and their text is all that it was sent
pub record IsShared {T : Type 0} (may : T → Request → ShownReply → T → Type 0) (text : Turn → List ℕ) (start w : T) (log : TurnLog) (at : ℕ → ResponderState) (far : ℕ → Progress) (reported : ℕ → List ℕ) : Type 0 where
  pub run : Runs may start (all_turns log) w
  pub each : (i : ℕ) → Spoke (turns_of i log) (at i) (far i)
  pub reported_is : (i : ℕ) → reported i ≡ flat_map text (turns_of i log)

-- if one of the transcripts goes on, all turns still have one order, and in it each transcript has its own turns alone
abbrev pub SharedGoesOn : {T : Type 0} → (T → Request → ShownReply → T → Type 0) → (Turn → List ℕ) → Type 0
SharedGoesOn {T = T} may text =
    (start w u : T) (log : TurnLog) (at : ℕ → ResponderState) (far : ℕ → Progress) (reported : ℕ → List ℕ) (i : ℕ) (out out' : List ℕ) (s' : ResponderState)
    (next : Progress → Progress) (more : List Turn) → IsShared may text start w log at far reported → SaysBy may text more w (at i) out u s' out' Anywhere next →
    IsShared may text start u (log ++ tagged i more) (changed at i s') (changed far i (next (far i))) (changed reported i (reported i ++ flat_map text more))
