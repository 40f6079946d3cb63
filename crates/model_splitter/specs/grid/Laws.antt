-- the statements of this crate's laws, each under a name
use Rattle.model_steps.specs.Locality.{Indistinguishable, StandAlike}
use Rattle.std.specs.Prelude.{◌≡◌, ◌≢◌, ℕ, ◌+◌, ◌*◌, ◌≤◌, ◌<◌, length, Option, Some, None, ◌∷◌, ◌++◌, List, Ok, Err, false, is_some}
use Rattle.model_splitter.specs.Visitor.{word_of}
use Rattle.model_splitter.specs.grid.Invariant.{IsConsistent}
use Rattle.model_splitter.specs.grid.Machine.{GridState, world_after_step}
use Rattle.model_splitter.specs.grid.Law.{GridSpec}
use Rattle.model_splitter.specs.grid.Walk.{walk_of, next_access, walker_after, accesses_of, place_of, walker_steps}
use Rattle.model_splitter.specs.declared.grid.walker.Walker.{Walker}
use Rattle.model_steps.specs.Calls.{Call}
use Rattle.model_steps.specs.Calls.Call.{Began, Stepped}
use Rattle.model_steps.specs.Due.{RefusesAsDue}
use Rattle.model_steps.specs.RegisterState.{Registers}
use Rattle.model_steps.specs.Registers.{answer_of, after_access, memory_steps}
use Rattle.model_steps.specs.SetAt.{set_at}
use Rattle.model_steps.specs.declared.access.Answer.{Answer}
use Rattle.model_steps.specs.declared.refusal.Refusal.{Refusal}

-- one more may begin before the door in the corner
abbrev pub AgreesWithBeginner : Type 0
AgreesWithBeginner =
    (most b : ℕ) (m : Registers ℕ) (walker : ℕ → Option Walker) (p : ℕ) → IsConsistent most b m walker → p ≢ 0 → walker p ≡ None → b < most →
    IsConsistent most (b + 1) m (set_at walker p (Some (walk_of p)))

-- a walk may make its next access
abbrev pub AgreesAfterAccess : Type 0
AgreesAfterAccess =
    (most b : ℕ) (m : Registers ℕ) (walker : ℕ → Option Walker) (p : ℕ) (u : Walker) → IsConsistent most b m walker → walker p ≡ Some u →
    IsConsistent most b (after_access m (next_access u)) (set_at walker p (Some (walker_after u (answer_of m (next_access u)))))

-- doors and walks agree in every memory with the same words
abbrev pub AgreesElsewhere : Type 0
AgreesElsewhere =
    (most b : ℕ) (m other : Registers ℕ) (walker : ℕ → Option Walker) → IsConsistent most b m walker → length other.values ≡ length m.values →
    ((r : ℕ) → word_of other r ≡ word_of m r) → IsConsistent most b other walker

-- an access brings a walk nearer to its place
abbrev pub ComesNearer : Type 0
ComesNearer =
    (most b : ℕ) (m : Registers ℕ) (walker : ℕ → Option Walker) (p : ℕ) (u : Walker) (got : Answer ℕ) → IsConsistent most b m walker →
    walker p ≡ Some u → place_of u ≡ None → accesses_of u + 1 ≤ accesses_of (walker_after u got)

-- a participant without a place has accesses left
abbrev pub HasAccessesLeft : Type 0
HasAccessesLeft =
    (most b : ℕ) (m : Registers ℕ) (walker : ℕ → Option Walker) (p : ℕ) (u : Walker) → IsConsistent most b m walker → walker p ≡ Some u →
    place_of u ≡ None → accesses_of u + 1 ≤ 4 * b

-- where one walks somebody has begun
abbrev pub HasBegun : Type 0
HasBegun = (most b : ℕ) (m : Registers ℕ) (walker : ℕ → Option Walker) (p : ℕ) (u : Walker) → IsConsistent most b m walker → walker p ≡ Some u → 1 ≤ b

-- nobody gets a second place
abbrev pub TellsOnePlace : Type 0
TellsOnePlace =
    (p a b : ℕ) (before between rest : List (Call (Option ℕ))) →
    GridSpec (before ++ Stepped p (Ok (Some a)) ∷ (between ++ Stepped p (Ok (Some b)) ∷ rest)) → ⊥

-- the first to begin is not refused
abbrev pub LetsTheFirstIn : Type 0
LetsTheFirstIn =
    (most p : ℕ) (why : Refusal) (rest : List (Call (Option ℕ))) → 1 ≤ most → p ≢ 0 → RefusesAsDue is_some most false (Began p (Err why) ∷ rest) → ⊥

-- in each world that the participant cannot distinguish from the old one, its step leaves it in the same state as in
-- the new one
abbrev pub StaysAlike : GridState → GridState → ℕ → Type 0
StaysAlike old new id = (other : GridState) → Indistinguishable walker_steps memory_steps id old other → StandAlike id new (world_after_step other id)
