-- the statements of this crate's laws, each under a name
use Rattle.model_steps.specs.declared.refusal.Refusal.{Refusal}
use Rattle.model_splitter.specs.tree.TreeSteps.{tree_steps}
use Rattle.model_steps.specs.Locality.{Indistinguishable, StandAlike}
use Rattle.std.specs.Prelude.{◌≡◌, ◌≢◌, ℕ, ◌+◌, ◌*◌, ◌≤◌, ◌↔◌, Option, Some, false, List, not, is_some, length, ◌∷◌, ◌++◌, Ok, Err, Result}
use Rattle.model_splitter.specs.tree.Ahead.{HasRead, marked_in}
use Rattle.model_splitter.specs.tree.Client.{is_placing, client_access, client_steps}
use Rattle.model_splitter.specs.tree.CollectLaw.{Allows, CollectObject, new_object, observed}
use Rattle.model_splitter.specs.tree.Invariant.{IsConsistent, IsTree}
use Rattle.model_splitter.specs.tree.Depth.{IsNodeWithin}
use Rattle.model_splitter.specs.tree.Made.{WasMade}
use Rattle.model_splitter.specs.tree.PlacesLaw.{way_calls, PlacesSpec, walkers}
use Rattle.model_splitter.specs.tree.Machine.{TreeWorldState, tree, tree_over}
use Rattle.model_steps.specs.Machine.{OnEveryHistory, IsProved}
use Rattle.model_splitter.specs.tree.TreeCalls.{TreeCall}
use Rattle.model_splitter.specs.tree.TreeCalls.TreeCall.{Began, Stepped}
use Rattle.model_splitter.specs.tree.TreeDue.{TreeRefusesAsDue}
use Rattle.model_splitter.specs.tree.TreeMemory.{mark_at}
use Rattle.model_splitter.specs.tree.TreeWorld.{TreeState, place_answer, after_placing, after_collecting}
use Rattle.model_splitter.specs.tree.Walk.{place_of, place_by, StandsAtNode}
use Rattle.model_splitter.specs.declared.tree.client.Client.{Client}
use Rattle.model_splitter.specs.declared.tree.client.Task.TheVariants.{Collecting}
use Rattle.model_splitter.specs.declared.tree.collect.Collect.{Collect}
use Rattle.model_splitter.specs.declared.tree.register.TreeRegister.{TreeRegister}
use Rattle.model_splitter.specs.declared.tree.register.TreeRegister.TheVariants.{Contents}
use Rattle.model_splitter.specs.declared.tree.register.TreeValue.{TreeValue}
use Rattle.model_steps.specs.Calls.{begun_in, outcome_of}
use Rattle.model_steps.specs.Participant.{participant_of}
use Rattle.model_steps.specs.Runs.{Run}
use Rattle.model_steps.specs.Steps.{MemorySteps}
use Rattle.model_steps.specs.declared.access.Access.TheVariants.{Write}
use Rattle.model_steps.specs.declared.participant.Participant.{Participant}

-- the first to begin is not refused
abbrev pub LetsTheFirstIn : Type 0
LetsTheFirstIn = (most p : ℕ) (why : Refusal) (rest : List TreeCall) → 1 ≤ most → p ≢ 0 → TreeRefusesAsDue most (Began p (Err why) ∷ rest) → ⊥

-- the world over any memory that is a tree is proved
abbrev pub TreesAreProved : (S : Type 0) → Type 0
TreesAreProved S = (memory : MemorySteps S TreeRegister TreeValue) → IsProved (tree_over memory)

-- a collect under way has read as its steps say
abbrev pub CollectHasRead : (S : Type 0) → Type 0
CollectHasRead S =
    (memory : MemorySteps S TreeRegister TreeValue) (w : TreeState S) (o : CollectObject) (p : ℕ) (v : Participant Client) (c : Collect) →
    participant_of p w.participants ≡ Some v → v.program.task ≡ Collecting c →
    OnEveryHistory (tree_over memory) (λ first r. Run observed Allows new_object r o → (nodes : ℕ) × HasRead (marked_in memory w.memory) c.walk nodes (o.steps p) × (o.steps p + 1 ≤ 3 * nodes + 1)) w

-- nodes and walks agree
abbrev pub NodesAgreeWithWalks : (S : Type 0) → Type 0
NodesAgreeWithWalks S =
    (memory : MemorySteps S TreeRegister TreeValue) (w : TreeState S) →
    OnEveryHistory (tree_over memory) (λ first r. IsConsistent memory w.most (length w.participants) w.memory (walkers w.participants)) w

-- the nodes satisfy the invariant of a tree for the participants that have begun
abbrev pub NodesAreTree : (S : Type 0) → Type 0
NodesAreTree S =
    (memory : MemorySteps S TreeRegister TreeValue) (w : TreeState S) →
    OnEveryHistory (tree_over memory) (λ first r. IsTree memory (begun_in (way_calls r)) w.memory (walkers w.participants)) w

-- the place of a participant is the one that a step returned, if any
abbrev pub PlacesAreReported : (S : Type 0) → Type 0
PlacesAreReported S =
    (memory : MemorySteps S TreeRegister TreeValue) (w : TreeState S) (p : ℕ) →
    OnEveryHistory (tree_over memory) (λ first r. place_by (walkers w.participants p) ≡ outcome_of p (way_calls r)) w

-- a participant is on its way if and only if it has no place
abbrev pub IsOnTheWay : (S : Type 0) → Type 0
IsOnTheWay S =
    (memory : MemorySteps S TreeRegister TreeValue) (w : TreeState S) (p : ℕ) (v : Participant Client) → participant_of p w.participants ≡ Some v →
    OnEveryHistory (tree_over memory) (λ first r. is_placing v.program.task ≡ not (is_some (place_of v.program.walker))) w

-- a client of a tree never ends
abbrev pub NeverEnds : (S : Type 0) → Type 0
NeverEnds S =
    (memory : MemorySteps S TreeRegister TreeValue) (w : TreeState S) (p : ℕ) (v : Participant Client) → participant_of p w.participants ≡ Some v →
    OnEveryHistory (tree_over memory) (λ first r. v.ended ≡ false) w

-- a node is marked if and only if a call has made it
abbrev pub MarksWhatWasMade : (S : Type 0) → Type 0
MarksWhatWasMade S =
    (memory : MemorySteps S TreeRegister TreeValue) (w : TreeState S) (k : ℕ) →
    OnEveryHistory (tree_over memory) (λ first r. (mark_at memory w.memory k ≡ 1) ↔ WasMade memory first.0 first.1 r k) w

-- if b have begun, each node that was made is within the bound of b
abbrev pub MakesNodesWithin : (S : Type 0) → Type 0
MakesNodesWithin S =
    (memory : MemorySteps S TreeRegister TreeValue) (w : TreeState S) (k : ℕ) →
    OnEveryHistory (tree_over memory) (λ first r. WasMade memory first.0 first.1 r k → IsNodeWithin (begun_in (way_calls r)) k) w

-- no participant gets a second place
abbrev pub TellsOnePlace : Type 0
TellsOnePlace =
    (p a b : ℕ) (before between rest : List TreeCall) →
    PlacesSpec (before ++ Stepped p (Ok (Some a)) ∷ (between ++ Stepped p (Ok (Some b)) ∷ rest)) → ⊥

-- a client writes the segment at its own place alone
abbrev pub WritesOwnSegment : Type 0
WritesOwnSegment =
    (c : Client) (place : ℕ) (value : TreeValue) → StandsAtNode c.walker → client_access c ≡ Write (Contents place) value →
    place_of c.walker ≡ Some place

-- after every list of calls each walk is at its node
abbrev pub StandsAtItsNode : Type 0
StandsAtItsNode =
    (w : TreeWorldState) (p : ℕ) (v : Participant Client) → participant_of p w.participants ≡ Some v →
    OnEveryHistory tree (λ first r. StandsAtNode v.program.walker) w

-- in each world that the participant cannot distinguish, the reply to its step on the way to a place is the same
abbrev pub AnswersPlaceAlike : TreeWorldState → ℕ → Result (Option ℕ) Refusal → Type 0
AnswersPlaceAlike old id reply = (other : TreeWorldState) → Indistinguishable client_steps tree_steps id old other → reply ≡ place_answer tree_steps other id

-- in each such world that step leaves it in the same state
abbrev pub StaysAlikeOnWay : TreeWorldState → TreeWorldState → ℕ → Type 0
StaysAlikeOnWay old new id =
    (other : TreeWorldState) → Indistinguishable client_steps tree_steps id old other → StandAlike id new (after_placing tree_steps other id)

-- in each such world a step of its collect leaves it in the same state
abbrev pub StaysAlikeCollecting : TreeWorldState → TreeWorldState → ℕ → Type 0
StaysAlikeCollecting old new id =
    (other : TreeWorldState) → Indistinguishable client_steps tree_steps id old other → StandAlike id new (after_collecting tree_steps other id)
