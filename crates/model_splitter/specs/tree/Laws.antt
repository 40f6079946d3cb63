-- the statements of this crate's laws, each under a name
use Rattle.std.specs.Prelude.{◌≡◌, ◌≢◌, ℕ, ◌+◌, ◌*◌, ◌≤◌, ◌<◌, true, ◌⊎◌, ◌↔◌, Option, Some, None, ◌-◌, Bool, false, if◌then◌else◌}
use Rattle.model_splitter.specs.tree.Ahead.{HasGrown, HasRead, marked_in, IsAhead, IsPathMarked, IsUpcoming, Sees}
use Rattle.model_splitter.specs.tree.CollectWalk.{first_walk, place_read, finds_mark, walk_resumed, walk_is_over}
use Rattle.model_splitter.specs.tree.Invariant.{IsConsistent, IsTree, accesses_of}
use Rattle.model_steps.specs.Count.{count_to}
use Rattle.model_splitter.specs.tree.TreeMemory.{IsTreeMemory, IsEmptyTree, mark_at, x_at, y_at, segment_at}
use Rattle.model_splitter.specs.tree.Walk.{walk_of, next_access, walker_after, walker_note, place_of, place_by}
use Rattle.model_splitter.specs.declared.tree.collect_walk.CollectWalk.{CollectWalk}
use Rattle.model_splitter.specs.declared.tree.register.TreeRegister.{TreeRegister}
use Rattle.model_splitter.specs.declared.tree.register.TreeRegister.TheVariants.{Contents}
use Rattle.model_splitter.specs.declared.tree.register.TreeValue.{TreeValue}
use Rattle.model_splitter.specs.declared.tree.register.TreeValue.TheVariants.{Contents as Held}
use Rattle.model_splitter.specs.declared.tree.walker.Walker.{Walker}
use Rattle.model_steps.specs.Calls.{outcome_in}
use Rattle.model_steps.specs.SetAt.{set_at}
use Rattle.model_steps.specs.Steps.{MemorySteps, answer_from}
use Rattle.model_steps.specs.declared.access.Access.TheVariants.{Write}
use Rattle.model_steps.specs.declared.access.Answer.{Answer}
use Rattle.model_steps.specs.declared.note.Note.TheVariants.{Ended}
use Rattle.model_steps.specs.declared.record.Record.{Record}

-- an empty tree agrees with no walk
abbrev pub AgreesWhenEmpty : (S : Type 0) → Type 0
AgreesWhenEmpty S =
    (memory : MemorySteps S TreeRegister TreeValue) (most : ℕ) (s : S) → IsEmptyTree memory s → most ≤ 64 → IsConsistent memory most 0 s (λ p. None)

-- one more may begin before the root
abbrev pub AgreesWithBeginner : (S : Type 0) → Type 0
AgreesWithBeginner S =
    (memory : MemorySteps S TreeRegister TreeValue) (most b : ℕ) (s : S) (walker : ℕ → Option Walker) (p : ℕ) → IsConsistent memory most b s walker →
    p ≢ 0 → walker p ≡ None → b < most → IsConsistent memory most (b + 1) s (set_at walker p (Some (walk_of p)))

-- a walk may make its next access
abbrev pub AgreesAfterAccess : (S : Type 0) → Type 0
AgreesAfterAccess S =
    (memory : MemorySteps S TreeRegister TreeValue) (most b : ℕ) (s : S) (walker : ℕ → Option Walker) (p : ℕ) (u : Walker) → IsTreeMemory memory →
    IsConsistent memory most b s walker → walker p ≡ Some u →
    IsConsistent memory most b (memory.after s (next_access u)) (set_at walker p (Some (walker_after u (answer_from (memory.register s) (next_access u)))))

-- the segment that a walk reads next is upcoming
abbrev pub IsUpcomingWhenRead : Type 0
IsUpcomingWhenRead = (marked : ℕ → Bool) (w : CollectWalk) (nodes reads q : ℕ) → HasRead marked w nodes reads → place_read w ≡ Some q → IsUpcoming w q

-- nodes and walks agree in every memory with the same marks, X and Y
abbrev pub AgreesElsewhere : (S : Type 0) → Type 0
AgreesElsewhere S =
    (memory : MemorySteps S TreeRegister TreeValue) (most b : ℕ) (s other : S) (walker : ℕ → Option Walker) → IsConsistent memory most b s walker →
    ((k : ℕ) → (mark_at memory other k ≡ mark_at memory s k) × (x_at memory other k ≡ x_at memory s k) × (y_at memory other k ≡ y_at memory s k)) →
    IsConsistent memory most b other walker

-- nodes and walks that agree keep the invariant of the tree
abbrev pub WalksKeepTreeLaw : (S : Type 0) → Type 0
WalksKeepTreeLaw S =
    (memory : MemorySteps S TreeRegister TreeValue) (most b : ℕ) (s : S) (walker : ℕ → Option Walker) → IsConsistent memory most b s walker →
    IsTree memory b s walker

-- an access brings a walk nearer to its place
abbrev pub ComesNearer : (S : Type 0) → Type 0
ComesNearer S =
    (memory : MemorySteps S TreeRegister TreeValue) (most b : ℕ) (s : S) (walker : ℕ → Option Walker) (p : ℕ) (u : Walker) (got : Answer TreeValue) →
    IsConsistent memory most b s walker → walker p ≡ Some u → place_of u ≡ None → accesses_of u + 1 ≤ accesses_of (walker_after u got)

-- a participant without a place has accesses left
abbrev pub HasAccessesLeft : (S : Type 0) → Type 0
HasAccessesLeft S =
    (memory : MemorySteps S TreeRegister TreeValue) (most b : ℕ) (s : S) (walker : ℕ → Option Walker) (p : ℕ) (u : Walker) →
    IsConsistent memory most b s walker → walker p ≡ Some u → place_of u ≡ None → accesses_of u + 1 ≤ 5 * b

-- a walk ends with the access that reaches its place
abbrev pub EndsAtPlace : Type 0
EndsAtPlace =
    (u : Walker) (got : Answer TreeValue) (x : ℕ) → place_of u ≡ None → (walker_note u got ≡ Ended x) ↔ (place_of (walker_after u got) ≡ Some x)

-- an access of a walk changes no segment
abbrev pub WalkKeepsSegments : (S : Type 0) → Type 0
WalkKeepsSegments S =
    (memory : MemorySteps S TreeRegister TreeValue) (most b : ℕ) (s : S) (walker : ℕ → Option Walker) (p : ℕ) (u : Walker) (k : ℕ) →
    IsTreeMemory memory → IsConsistent memory most b s walker → walker p ≡ Some u →
    segment_at memory (memory.after s (next_access u)) k ≡ segment_at memory s k

-- an access of a walk marks its node or none
abbrev pub WalkMarksItsNode : (S : Type 0) → Type 0
WalkMarksItsNode S =
    (memory : MemorySteps S TreeRegister TreeValue) (most b : ℕ) (s : S) (walker : ℕ → Option Walker) (p : ℕ) (u : Walker) (k : ℕ) →
    IsTreeMemory memory → IsConsistent memory most b s walker → walker p ≡ Some u →
    (mark_at memory (memory.after s (next_access u)) k ≡ 1) ↔ (((u.is_marking ≡ true) × (u.place ≡ k)) ⊎ (mark_at memory s k ≡ 1))

-- only an access that makes a node may be refused
abbrev pub RefusedAtNewNode : (S : Type 0) → Type 0
RefusedAtNewNode S =
    (memory : MemorySteps S TreeRegister TreeValue) (most b : ℕ) (s : S) (walker : ℕ → Option Walker) (p : ℕ) (u : Walker) → IsTreeMemory memory →
    IsConsistent memory most b s walker → walker p ≡ Some u → memory.may_refuse s (next_access u) ≡ true →
    (u.is_marking ≡ true) × (mark_at memory s u.place ≡ 0)

-- what is ahead is read now or stays ahead
abbrev pub ReadsWhatIsAhead : Type 0
ReadsWhatIsAhead =
    (marked : ℕ → Bool) (w : CollectWalk) (got : TreeValue) (q : ℕ) → Sees marked w got → IsAhead marked w q →
    (place_read w ≡ Some q) ⊎ ((walk_is_over w got ≡ false) × IsAhead marked (walk_resumed w got) q)

-- marks that are added do not undo what was read
abbrev pub KeepsReads : Type 0
KeepsReads =
    (marked later : ℕ → Bool) (w : CollectWalk) (nodes reads : ℕ) → HasGrown marked later → HasRead marked w nodes reads → HasRead later w nodes reads

-- a read that does not end the walk is one more
abbrev pub CountsOneRead : Type 0
CountsOneRead =
    (marked : ℕ → Bool) (w : CollectWalk) (got : TreeValue) (nodes reads : ℕ) → Sees marked w got → HasRead marked w nodes reads →
    walk_is_over w got ≡ false → HasRead marked (walk_resumed w got) (nodes + (if finds_mark w got then 1 else 0)) (reads + 1)

-- a walk finds no more nodes than are marked
abbrev pub FindsFewNodes : Type 0
FindsFewNodes =
    (marked : ℕ → Bool) (w : CollectWalk) (nodes reads most : ℕ) → HasRead marked w nodes reads → ((n : ℕ) → count_to marked n ≤ most) → nodes ≤ most

-- a fresh collect has every place ahead
abbrev pub PlacesAreAhead : (S : Type 0) → Type 0
PlacesAreAhead S =
    (memory : MemorySteps S TreeRegister TreeValue) (most b : ℕ) (s : S) (walker : ℕ → Option Walker) (p k : ℕ) →
    IsConsistent memory most b s walker → place_by (walker p) ≡ Some k → IsAhead (marked_in memory s) first_walk k

-- a collect over b participants makes at most 3(2b - 1) + 1 reads
abbrev pub ReadsFew : (S : Type 0) → Type 0
ReadsFew S =
    (memory : MemorySteps S TreeRegister TreeValue) (most b : ℕ) (s : S) (walker : ℕ → Option Walker) (w : CollectWalk) (nodes reads : ℕ) →
    IsConsistent memory most b s walker → HasRead (marked_in memory s) w nodes reads → reads + 1 ≤ 3 * (2 * b - 1) + 1

-- an access of a walk clears no mark
abbrev pub WalkAddsMarks : (S : Type 0) → Type 0
WalkAddsMarks S =
    (memory : MemorySteps S TreeRegister TreeValue) (most b : ℕ) (s : S) (walker : ℕ → Option Walker) (p : ℕ) (u : Walker) → IsTreeMemory memory →
    IsConsistent memory most b s walker → walker p ≡ Some u → HasGrown (marked_in memory s) (marked_in memory (memory.after s (next_access u)))

-- the write of a segment clears no mark
abbrev pub WriteAddsMarks : (S : Type 0) → Type 0
WriteAddsMarks S =
    (memory : MemorySteps S TreeRegister TreeValue) (s : S) (k : ℕ) (segment : Option Record) → IsTreeMemory memory →
    HasGrown (marked_in memory s) (marked_in memory (memory.after s (Write (Contents k) (Held segment))))

-- the outcome in the note of a walk is the place that the walk then has, if any
abbrev pub TellsItsPlace : Type 0
TellsItsPlace = (u : Walker) (got : Answer TreeValue) → place_of u ≡ None → outcome_in (walker_note u got) ≡ place_of (walker_after u got)

-- a walk that reads a segment is at its node
abbrev pub StandsWhereItReads : Type 0
StandsWhereItReads = (w : CollectWalk) (q : ℕ) → place_read w ≡ Some q → (w.is_reading_contents ≡ true) × (w.at ≡ q)

-- every node from the root down to a place is marked
abbrev pub PathsAreMarked : (S : Type 0) → Type 0
PathsAreMarked S =
    (memory : MemorySteps S TreeRegister TreeValue) (most b : ℕ) (s : S) (walker : ℕ → Option Walker) (p k : ℕ) →
    IsConsistent memory most b s walker → place_by (walker p) ≡ Some k → IsPathMarked (marked_in memory s) k

-- if b have begun, at most 2b - 1 nodes are marked
abbrev pub MarksFew : (S : Type 0) → Type 0
MarksFew S =
    (memory : MemorySteps S TreeRegister TreeValue) (most b : ℕ) (s : S) (walker : ℕ → Option Walker) (n : ℕ) →
    IsConsistent memory most b s walker → count_to (marked_in memory s) n ≤ 2 * b - 1
