-- the statements of this crate's laws, each under a name
use Rattle.std.specs.Prelude.{◌≡◌, ◌≢◌, ◌==◌, if◌then◌else◌, ℕ, ◌+◌, ◌<◌, ◌≤◌, [], ◌∷◌, ◌++◌, Bool, true, false, List, Option, Some, None, Ok, Err, Result, MatchResult, IsOkAnd, is_some, IsSome, Contains, length}
use Rattle.std.proofs.Common.{get_or}
use Rattle.model_steps.specs.Count.{count_to}
use Rattle.model_steps.specs.SetAt.{set_at}
use Rattle.model_steps.specs.Roster.{index_by, seen_by, replaced_by, StandsAt}
use Rattle.model_steps.specs.Participant.{participant_of, with_participant, resumed}
use Rattle.model_steps.specs.Steps.{ProgramSteps, MemorySteps}
use Rattle.model_steps.specs.WorldState.{WorldState}
use Rattle.model_steps.specs.World.{begin_refusal, step_answer, after_step, got_by}
use Rattle.model_steps.specs.Calls.{Call, next, begun_in, reply_of, lacked_memory, steps_by, outcome_of, outcome_by, outcome_in, first_of}
use Rattle.model_steps.specs.Calls.Call.{Began, Stepped}
use Rattle.model_steps.specs.Locality.{Indistinguishable, StandAlike}
use Rattle.model_steps.specs.Machine.{OnEveryHistory, IsProved, Extends}
use Rattle.model_steps.specs.WorldMachine.{any_world}
use Rattle.model_steps.specs.Reported.{Tells}
use Rattle.model_steps.specs.Due.{RefusesAsDue, EndsOnce}
use Rattle.model_steps.specs.View.{IsRising, value_of, inserted}
use Rattle.model_steps.specs.declared.note.Note.{Note}
use Rattle.model_steps.specs.declared.participant.Participant.{Participant}
use Rattle.model_steps.specs.declared.refusal.Refusal.{Refusal}

-- an entry whose index was found among the entries is the one that is seen under its identity
abbrev pub FindsEntry : (X Y : Type 0) → Type 0
FindsEntry X Y =
    (identity : X → ℕ) (seen : X → Y) (id : ℕ) (shown items xs : List X) (i : ℕ) (x : X) → shown ≡ items → items ≡ xs →
    Some i ≡ index_by identity id shown → x ≡ get_or items i x → StandsAt identity seen id xs i x

-- if no index was found, no entry is seen
abbrev pub FindsNoEntry : (X Y : Type 0) → Type 0
FindsNoEntry X Y =
    (identity : X → ℕ) (seen : X → Y) (id : ℕ) (shown items xs : List X) → shown ≡ items → items ≡ xs →
    None ≡ index_by identity id shown → seen_by identity seen id xs ≡ None

-- an index is found if and only if an entry is seen
abbrev pub FindsWhatIsSeen : (X Y : Type 0) → Type 0
FindsWhatIsSeen X Y =
    (identity : X → ℕ) (seen : X → Y) (id : ℕ) (xs : List X) → is_some (index_by identity id xs) ≡ is_some (seen_by identity seen id xs)

-- after one more entry was added, its identity sees it, and each other identity sees what it saw
abbrev pub SeesAdded : (X Y : Type 0) → Type 0
SeesAdded X Y =
    (identity : X → ℕ) (seen : X → Y) (xs : List X) (new : X) → seen_by identity seen (identity new) xs ≡ None → (q : ℕ) →
    seen_by identity seen q (xs ++ new ∷ []) ≡ set_at (λ v. seen_by identity seen v xs) (identity new) (Some (seen new)) q

-- after an entry was replaced by another of its identity, that identity sees the new one, and each other sees what it
-- saw
abbrev pub SeesReplaced : (X Y : Type 0) → Type 0
SeesReplaced X Y =
    (identity : X → ℕ) (seen : X → Y) (xs : List X) (new : X) → is_some (seen_by identity seen (identity new) xs) ≡ true → (q : ℕ) →
    seen_by identity seen q (replaced_by identity new xs) ≡ set_at (λ v. seen_by identity seen v xs) (identity new) (Some (seen new)) q

-- a function of an entry that has one value at none and at a new entry does not change when that entry is added
abbrev pub ShowsNoNewcomer : (X Y : Type 0) → Type 0
ShowsNoNewcomer X Y =
    (say : Option Y → X) (f : ℕ → Option Y) (p : ℕ) (new : Y) (q : ℕ) → f p ≡ None → say None ≡ say (Some new) →
    say (f q) ≡ say (set_at f p (Some new) q)

-- after one more participant has begun, its identity finds it, and each other identity finds the participant that it
-- found
abbrev pub FindsNewcomer : (P : Type 0) → Type 0
FindsNewcomer P =
    (ps : List (Participant P)) (new : Participant P) → participant_of new.identity ps ≡ None → (q : ℕ) →
    participant_of q (ps ++ new ∷ []) ≡ set_at (λ v. participant_of v ps) new.identity (Some new) q

-- after a participant was replaced by another of its identity, that identity finds the new one, and each other finds
-- the one that it found
abbrev pub FindsReplaced : (P : Type 0) → Type 0
FindsReplaced P =
    (ps : List (Participant P)) (new : Participant P) → is_some (participant_of new.identity ps) ≡ true → (q : ℕ) →
    participant_of q (with_participant new ps) ≡ set_at (λ v. participant_of v ps) new.identity (Some new) q

-- if `begin` is not refused, the identity is not 0 and has not begun, and there is room
abbrev pub BeginsWhereFree : (P S : Type 0) → Type 0
BeginsWhereFree P S =
    (w : WorldState S P) (id : ℕ) → begin_refusal w id ≡ None →
    (id ≢ 0) × (participant_of id w.participants ≡ None) × (length w.participants < w.most)

-- the reply to a participant that has not ended is the note of its program
abbrev pub AnswersByNote : (P S R V O : Type 0) → Type 0
AnswersByNote P S R V O =
    (program : ProgramSteps P R V O) (memory : MemorySteps S R V) (w : WorldState S P) (id : ℕ) (p : Participant P) →
    participant_of id w.participants ≡ Some p → p.ended ≡ false →
    step_answer program memory w id ≡ Ok (program.note p.program (got_by program memory w.memory p))

-- a step of a participant that has not ended leaves the world after its access
abbrev pub LeavesByAccess : (P S R V O : Type 0) → Type 0
LeavesByAccess P S R V O =
    (program : ProgramSteps P R V O) (memory : MemorySteps S R V) (w : WorldState S P) (id : ℕ) (p : Participant P) →
    participant_of id w.participants ≡ Some p → p.ended ≡ false →
    after_step program memory w id ≡ record {
      memory = memory.after w.memory (program.next p.program);
      most = w.most;
      participants = with_participant (resumed program p (got_by program memory w.memory p)) w.participants;
    }

-- no step makes more room for participants
abbrev pub StepKeepsMost : (P S R V O : Type 0) → Type 0
StepKeepsMost P S R V O =
    (program : ProgramSteps P R V O) (memory : MemorySteps S R V) (w : WorldState S P) (id : ℕ) → (after_step program memory w id).most ≡ w.most

-- the due reply to a step is never `NoMemory`
abbrev pub AnswersWithMemory : (P S R V O X : Type 0) → Type 0
AnswersWithMemory P S R V O X =
    (program : ProgramSteps P R V O) (memory : MemorySteps S R V) (shown : Note O → X) (w : WorldState S P) (id : ℕ) →
    lacked_memory (reply_of shown (step_answer program memory w id)) ≡ false

-- a call that is no accepted step does not change what calls show of the participants
abbrev pub TellsNothing : (Z O : Type 0) → Type 0
TellsNothing Z O =
    (say : Z → Option O) (least most : Z → ℕ) (stands : ℕ → Z) (r : List (Call (Option O))) → Tells say least most stands r →
    (h : Call (Option O)) → ((p : ℕ) → steps_by p h ≡ 0) → ((p : ℕ) → outcome_by p h ≡ None) → Tells say least most stands (r ++ h ∷ [])

-- a participant that begins has made no step, and has the same outcome as before it began
abbrev pub TellsOfBeginner : (Z O : Type 0) → Type 0
TellsOfBeginner Z O =
    (say : Z → Option O) (least most : Z → ℕ) (stands : ℕ → Z) (r : List (Call (Option O))) → Tells say least most stands r →
    (id : ℕ) (new : Z) → say (stands id) ≡ say new → least new ≤ least (stands id) → most (stands id) ≤ most new →
    Tells say least most (set_at stands id new) (r ++ Began id (Ok tt) ∷ [])

-- a step of a participant without an outcome shows the outcome that it has afterwards
abbrev pub TellsOfStep : (Z O : Type 0) → Type 0
TellsOfStep Z O =
    (say : Z → Option O) (least most : Z → ℕ) (stands : ℕ → Z) (r : List (Call (Option O))) → Tells say least most stands r →
    (id : ℕ) (new : Z) (said : Option O) → say (stands id) ≡ None → said ≡ say new → least new ≤ least (stands id) + 1 →
    most (stands id) + 1 ≤ most new → Tells say least most (set_at stands id new) (r ++ Stepped id (Ok said) ∷ [])

-- any world is a machine that is proved
abbrev pub WorldsAreProved : (P S R V O X : Type 0) → Type 0
WorldsAreProved P S R V O X =
    (program : ProgramSteps P R V O) (memory : MemorySteps S R V) (shown : Note O → X) (start : ℕ → P) (last : X → Bool) (grows : Bool) →
    IsProved (any_world program memory shown start last grows)

-- a step with its due reply extends the history
abbrev pub StepExtends : (P S R V O X : Type 0) → Type 0
StepExtends P S R V O X =
    (program : ProgramSteps P R V O) (memory : MemorySteps S R V) (shown : Note O → X) (start : ℕ → P) (last : X → Bool) (grows : Bool) →
    (w new : WorldState S P) (id : ℕ) (reply : Result X Refusal) → new ≡ after_step program memory w id →
    reply ≡ reply_of shown (step_answer program memory w id) → Extends (any_world program memory shown start last grows) w new (Stepped id reply)

-- no call makes more room for participants
abbrev pub CallKeepsMost : (P S R V O X : Type 0) → Type 0
CallKeepsMost P S R V O X =
    (program : ProgramSteps P R V O) (memory : MemorySteps S R V) (shown : Note O → X) (start : ℕ → P) (w : WorldState S P) (h : Call X) →
    (next program memory shown start w h).most ≡ w.most

-- a rising list whose identities are all among some is no longer than these
abbrev pub IsNoLonger : Type 0
IsNoLonger =
    (pairs : List (ℕ × ℕ)) (identities : List ℕ) → IsRising pairs → ((q : ℕ) → IsSome (value_of q pairs) → Contains identities q) →
    length pairs ≤ length identities

-- as many participants have begun in the calls as the world has
abbrev pub CountsBegun : (P S R V O X : Type 0) → Type 0
CountsBegun P S R V O X =
    (program : ProgramSteps P R V O) (memory : MemorySteps S R V) (shown : Note O → X) (start : ℕ → P) (last : X → Bool) (grows : Bool) →
    (w : WorldState S P) → OnEveryHistory (any_world program memory shown start last grows) (λ first r. begun_in r ≡ length w.participants) w

-- no participant ends twice
abbrev pub HasNoSecondEnd : (X : Type 0) → Type 0
HasNoSecondEnd X =
    (last : X → Bool) (p : ℕ) (a b : X) (before between rest : List (Call X)) → last a ≡ true →
    EndsOnce last (before ++ Stepped p (Ok a) ∷ (between ++ Stepped p (Ok b) ∷ rest)) → ⊥

-- `begin` of the first participant is not refused
abbrev pub LetsTheFirstIn : (X : Type 0) → Type 0
LetsTheFirstIn X =
    (last : X → Bool) (most : ℕ) (grows : Bool) (p : ℕ) (why : Refusal) (rest : List (Call X)) → 1 ≤ most → p ≢ 0 →
    RefusesAsDue last most grows (Began p (Err why) ∷ rest) → ⊥

-- the outcome of p's program after one more call is the earlier one, or else the one that this call shows
abbrev pub KeepsTheFirstOutcome : (X : Type 0) → Type 0
KeepsTheFirstOutcome X =
    (p : ℕ) (r : List (Call (Option X))) (h : Call (Option X)) → outcome_of p (r ++ h ∷ []) ≡ first_of (outcome_of p r) (outcome_by p h)

-- a reply to a step that has the outcome of its note alone shows that outcome
abbrev pub ShowsWhatIsMapped : (O : Type 0) → Type 0
ShowsWhatIsMapped O =
    (reported : Result (Note O) Refusal) (got : Result (Option O) Refusal) →
    MatchResult reported (λ note. IsOkAnd got (λ outcome. outcome ≡ outcome_in note)) (λ refusal. got ≡ Err refusal) → got ≡ reply_of outcome_in reported

-- after an insertion an identity has the value that was inserted under it, and each other the value that it had
abbrev pub HasWhatWasInserted : Type 0
HasWhatWasInserted =
    (q : ℕ) (pairs : List (ℕ × ℕ)) (new : ℕ × ℕ) → value_of q (inserted pairs new) ≡ (if new.0 == q then Some new.1 else value_of q pairs)

-- rising pairs are equal where each identity has the same value in both
abbrev pub AreReportedByValues : Type 0
AreReportedByValues =
    (one other : List (ℕ × ℕ)) → IsRising one → IsRising other → ((q : ℕ) → value_of q one ≡ value_of q other) → one ≡ other

-- in two worlds that a participant cannot distinguish, the reply to its step is the same
abbrev pub AnswersAlike : (P S R V O : Type 0) → Type 0
AnswersAlike P S R V O =
    (program : ProgramSteps P R V O) (memory : MemorySteps S R V) (p : ℕ) (one other : WorldState S P) → Indistinguishable program memory p one other →
    step_answer program memory one p ≡ step_answer program memory other p

-- in two worlds that a participant cannot distinguish, its step leaves it in the same state
abbrev pub StandsAlikeAfter : (P S R V O : Type 0) → Type 0
StandsAlikeAfter P S R V O =
    (program : ProgramSteps P R V O) (memory : MemorySteps S R V) (p : ℕ) (one other : WorldState S P) → Indistinguishable program memory p one other →
    StandAlike p (after_step program memory one p) (after_step program memory other p)

-- if one more number passes, and each that passed before, the count is larger
abbrev pub CountsOneMore : Type 0
CountsOneMore =
    (f g : ℕ → Bool) (n k : ℕ) → k < n → f k ≡ false → g k ≡ true → ((i : ℕ) → i < n → f i ≡ true → g i ≡ true) → count_to f n + 1 ≤ count_to g n
