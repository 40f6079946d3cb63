-- what a checker says of a line, and keeps after it
use Rattle.std.specs.Prelude.{◌≡◌, ℕ, ◌<◌, ◌≤◌, ◌^◌, List, [], ◌∷◌, ◌++◌, length, take, slice_get, Option, Some, None, Result, Ok, Err}
use Rattle.model_asked.specs.declared.event.Event.{Event}
use Rattle.model_pool.specs.PoolObject.{no_entry, no_probe, number_in}
use Rattle.model_pool.specs.PoolState.{PoolStart}
use Rattle.model_pool.specs.Widening.{widen_refusal}
use Rattle.model_renaming.specs.RenameObject.{RenameTerms, no_begin, no_step}
use Rattle.text_checker.specs.declared.checker.Checker.{Checker}
use Rattle.text_checker.specs.declared.fault.Fault.{Fault}
use Rattle.text_checker.specs.declared.fault.Fault.TheVariants.{Unlawful, NoMemory}
use Rattle.text_records.specs.declared.line.Line.{Line}
use Rattle.text_checker.specs.declared.reason.Reason.{Reason}
use Rattle.text_checker.specs.declared.reason.Reason.TheVariants as reason
use Rattle.text_records.specs.declared.reported.Reported.{Reported}
use Rattle.text_checker.specs.ObjectRun.{DeskObject}
use Rattle.text_checker.specs.Lines.{after_line, Follow, AreLinesOfRun}
use Rattle.text_checker.specs.Reasons.{Keeps, KeepsAll, IsLeastReason, why_of}
use Rattle.text_checker.specs.judges.Standing.{HoldsNames}
use Rattle.text_checker.specs.judges.Stays.{HoldsSlots}

-- what is kept is of these objects
pub record HoldsDesk (terms : RenameTerms) (c : Checker) (o : DeskObject) : Type 0 where
  pub names : HoldsNames terms c.names o.names
  pub slots : HoldsSlots c.stays o.slots
  pub grows_is : c.grows ≡ terms.grows

-- it is a reply of the command, and a refusal where and as one is due
pub record IsRefusedAsDue (terms : RenameTerms) (o : DeskObject) (e : Event) (t : Reported) : Type 0 where
  pub reply : Keeps terms o e t reason.Reply
  pub refusal : Keeps terms o e t reason.Refusal

-- no reason fits, and what is kept is of the objects after the line
pub record IsTaken (terms : RenameTerms) (o : DeskObject) (l : Line) (new : Checker) : Type 0 where
  pub keeps : KeepsAll terms o l.event l.reported
  pub after : HoldsDesk terms new (after_line o l)

-- it can follow, or the least reason for which it can't is reported; a refused growth says nothing
abbrev pub IsJudged : RenameTerms → DeskObject → Line → Result (Unit {0}) Fault → Checker → Type 0
IsJudged terms o l (Ok done) new = IsTaken terms o l new
IsJudged terms o l (Err (Unlawful why)) new = IsLeastReason terms o l.event l.reported why
IsJudged terms o l (Err NoMemory) new = Unit {0}

-- what is kept is of some objects of which this holds: then what is said of the line, and kept after it, is right
abbrev pub Judges : (RenameTerms → DeskObject → Type 0) → Checker → Line → Result (Unit {0}) Fault → Checker → Type 0
Judges P old l said new = (terms : RenameTerms) (o : DeskObject) → HoldsDesk terms old o → P terms o → IsJudged terms o l said new

-- the same, of objects with fewer moments than a sequence number counts
abbrev pub JudgesWithRoom : (RenameTerms → DeskObject → Type 0) → Checker → Line → Result (Unit {0}) Fault → Checker → Type 0
JudgesWithRoom P old l said new =
    (terms : RenameTerms) (o : DeskObject) → HoldsDesk terms old o → P terms o → o.names.last < 2 ^ 62 → IsJudged terms o l said new

abbrev pub HasRoom : RenameTerms → DeskObject → Type 0
HasRoom terms o = o.names.last < 2 ^ 62

-- no refusal is due where this identity begins, steps, enters or probes, or gives back or uses its number
abbrev pub MayBegin : ℕ → RenameTerms → DeskObject → Type 0
MayBegin id terms o = no_begin terms o.names id ≡ None

abbrev pub MayStep : ℕ → RenameTerms → DeskObject → Type 0
MayStep id terms o = no_step o.names id ≡ None

abbrev pub MayEnter : ℕ → RenameTerms → DeskObject → Type 0
MayEnter id terms o = no_entry o.slots.pool id ≡ None

abbrev pub MayProbe : ℕ → RenameTerms → DeskObject → Type 0
MayProbe id terms o = no_probe o.slots.pool id ≡ None

abbrev pub HoldsNumber : ℕ → RenameTerms → DeskObject → Type 0
HoldsNumber id terms o = why_of (number_in o.slots.pool id) ≡ None

-- nor where the pool widens
abbrev pub MayWiden : ℕ → RenameTerms → DeskObject → Type 0
MayWiden more terms o = widen_refusal o.slots.pool.most o.slots.pool.size more ≡ None

abbrev pub IsDueSo : Event → Reported → RenameTerms → DeskObject → Type 0
IsDueSo e t terms o = IsRefusedAsDue terms o e t

-- these lines were taken: each can follow those before it, and what is kept is of the objects after them
pub record HasTaken (terms : RenameTerms) (start : PoolStart) (lines : List Line) (c : Checker) : Type 0 where
  pub object : DeskObject
  pub run : Follow terms start lines object
  pub held : HoldsDesk terms c object
  pub few : object.names.last ≤ length lines

-- these lines can follow one another, and after them this is the least reason for which this line can't follow
pub record IsFaultAfter (terms : RenameTerms) (start : PoolStart) (lines : List Line) (l : Line) (why : Reason) : Type 0 where
  pub object : DeskObject
  pub run : Follow terms start lines object
  pub least : IsLeastReason terms object l.event l.reported why

-- one more line is taken, or it is the first at fault
abbrev pub TakesOn : RenameTerms → PoolStart → List Line → Line → Option Reason → Checker → Type 0
TakesOn terms start lines l None new = HasTaken terms start (lines ++ l ∷ []) new
TakesOn terms start lines l (Some why) new = IsFaultAfter terms start lines l why

-- the first line that can't follow, from 0, with the least reason that fits it
pub record IsFirstFault (terms : RenameTerms) (start : PoolStart) (lines : List Line) (k : ℕ) (why : Reason) : Type 0 where
  pub line : Line
  pub at : slice_get lines k ≡ Some line
  pub fault : IsFaultAfter terms start (take k lines) line why

-- after any lines that were taken this one is, or it is the first at fault
abbrev pub TakesMore : Line → Checker → Option Reason → Checker → Type 0
TakesMore l old said new =
    (terms : RenameTerms) (start : PoolStart) (lines : List Line) → HasTaken terms start lines old → length lines < 2 ^ 62 → TakesOn terms start lines l said new

-- the first line that can't follow, or that the lines are those of a run
abbrev pub IsFirstFaultOrNone : RenameTerms → PoolStart → List Line → Option (ℕ × Reason) → Type 0
IsFirstFaultOrNone terms start lines None = AreLinesOfRun terms start lines
IsFirstFaultOrNone terms start lines (Some fault) = IsFirstFault terms start lines fault.0 fault.1
