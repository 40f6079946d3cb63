-- what a server does to its service and its persister as long as it runs
use Rattle.std.specs.Prelude.{◌≡◌, ℕ, List, [], ◌∷◌}
use Rattle.model_asked.specs.Replies.{ShownReply}
use Rattle.model_asked.specs.Requests.{Request}
use Rattle.text_player.specs.Runs.{Runs}
use Rattle.text_player.specs.Turns.{Turn}

-- one thing that is done: the persister goes on by itself; the answers to these lines are prefetched; or these turns are taken, and what the service
-- tells of them is kept
pub data Deed : Type 0 where
  Waits : Deed
  Prefetches : List ℕ → Deed
  Serves : List Turn → Deed

module _ {T K : Type 0} (may : T → Request → ShownReply → T → Type 0) (prefetches : K → T → List ℕ → K → T → Type 0) (persists waits : K → T → K → T → Type 0) where
  -- it leads a persister and a service from there to here
  abbrev pub DoneBy : K → T → Deed → K → T → Type 0
  DoneBy k w Waits l u = waits k w l u
  DoneBy k w (Prefetches lines) l u = prefetches k w lines l u
  DoneBy k w (Serves turns) l u = (reported : T) × Runs may w turns reported × persists k reported l u

  -- all of these do, one after another
  abbrev pub AllDone : K → T → List Deed → K → T → Type 0
  AllDone k w [] l u = (l ≡ k) × (u ≡ w)
  AllDone k w (deed ∷ deeds) l u = (mid : K) × (then : T) × DoneBy k w deed mid then × AllDone mid then deeds l u

  -- nothing else was done to them
  abbrev pub WasServed : K → T → K → T → Type 0
  WasServed k w l u = (deeds : List Deed) × AllDone k w deeds l u
