-- the nodes that a list of calls makes. Moves are quiet, so calls and replies alone do not show it, and the worlds
-- between them are needed
use Rattle.std.specs.Prelude.{◌≡◌, ℕ, true, List, [], Some, Ok}
use Rattle.model_steps.specs.Runs.{HappensFrom}
use Rattle.model_steps.specs.Steps.{MemorySteps}
use Rattle.model_splitter.specs.declared.tree.register.TreeRegister.{TreeRegister}
use Rattle.model_splitter.specs.declared.tree.register.TreeValue.{TreeValue}
use Rattle.model_splitter.specs.declared.tree.walker.Walker.{Walker}
use Rattle.model_splitter.specs.tree.TreeWorld.{TreeState}
use Rattle.model_splitter.specs.tree.TreeCalls.{TreeCall, next}
use Rattle.model_splitter.specs.tree.TreeCalls.TreeCall.{Stepped}
use Rattle.model_splitter.specs.tree.PlacesLaw.{walkers}

module _ {S : Type 0} (memory : MemorySteps S TreeRegister TreeValue) where
  -- the call is an accepted step of a participant before node k, and marks the node. The first of these makes it
  abbrev pub Marks : TreeState S → TreeCall → ℕ → Type 0
  Marks w (Stepped id (Ok place)) k = (u : Walker) × (walkers w.participants id ≡ Some u) × (u.is_marking ≡ true) × (u.place ≡ k)
  Marks w t k = ⊥

  -- one of these calls, made one after another from this world on, marks node k
  abbrev pub MarksFrom : TreeState S → List TreeCall → ℕ → Type 0
  MarksFrom w r k = HappensFrom (next memory) (λ u h. Marks u h k) w r

  -- these calls made node k, in a world over this memory for at most this many participants
  abbrev pub WasMade : S → ℕ → List TreeCall → ℕ → Type 0
  WasMade first most r k = MarksFrom (record { memory = first; most = most; participants = [] }) r k
