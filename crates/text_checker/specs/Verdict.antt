-- what is said of a record
use Rattle.std.specs.Prelude.{◌≡◌, ◌⊎◌, ℕ, ◌+◌, ◌<◌, ◌≤◌, List, [], ◌∷◌, ◌++◌, length}
use Rattle.text_worlds.specs.desk.Start.{pool_start}
use Rattle.text_records.specs.declared.header.Header.{Header}
use Rattle.text_records.specs.declared.line.Line.{Line}
use Rattle.text_checker.specs.declared.reason.Reason.{Reason}
use Rattle.text_checker.specs.declared.verdict.Verdict.{Verdict}
use Rattle.text_checker.specs.declared.verdict.Verdict.TheVariants.{Yes, No, BadRecord, NoMemory}
use Rattle.text_checker.specs.Config.{terms_of}
use Rattle.text_checker.specs.Lines.{AreLinesOfRun}
use Rattle.text_checker.specs.Judged.{IsFaultAfter}
use Rattle.text_records.specs.RecordLine.{IsEventLine, IsHeaderLine}
use Rattle.text_records.specs.Records.{record_lines, AreRead}

-- the event lines of a record spell a run of this header, and there are at most a million
pub record SpellRun (h : Header) (rows : List (List ℕ)) : Type 0 where
  pub lines : List Line
  pub read : AreRead h.config.world h.version rows lines
  pub few : length rows ≤ 1000000
  pub run : AreLinesOfRun (terms_of h.config) (pool_start h.config) lines

-- the line of this number is the first at fault: those before it are read and follow one another, and this is the least reason
-- for which it can't
pub record IsFaultyRow (h : Header) (rows : List (List ℕ)) (number : ℕ) (why : Reason) : Type 0 where
  pub before : List (List ℕ)
  pub row : List ℕ
  pub after : List (List ℕ)
  pub is : before ++ row ∷ after ≡ rows
  pub lines : List Line
  pub read : AreRead h.config.world h.version before lines
  pub few : length before < 1000000
  pub line : Line
  pub says : IsEventLine h.config.world h.version row line
  pub fault : IsFaultAfter (terms_of h.config) (pool_start h.config) lines line why
  pub at : number ≡ length before + 2

-- the line of this number is the first that is none: those before it, at most a million, are read and follow one another, and
-- it says no event, or a million were before it
pub record IsBadRow (h : Header) (rows : List (List ℕ)) (number : ℕ) : Type 0 where
  pub before : List (List ℕ)
  pub row : List ℕ
  pub after : List (List ℕ)
  pub is : before ++ row ∷ after ≡ rows
  pub lines : List Line
  pub read : AreRead h.config.world h.version before lines
  pub few : length before ≤ 1000000
  pub run : AreLinesOfRun (terms_of h.config) (pool_start h.config) lines
  pub bad : length before < 1000000 → (l : Line) → IsEventLine h.config.world h.version row l → ⊥
  pub at : number ≡ length before + 2

-- what is said of the event lines
abbrev pub IsSaidOfRows : Header → List (List ℕ) → Verdict → Type 0
IsSaidOfRows h rows Yes = SpellRun h rows
IsSaidOfRows h rows (No number why) = IsFaultyRow h rows number why
IsSaidOfRows h rows (BadRecord number) = IsBadRow h rows number
IsSaidOfRows h rows NoMemory = ⊥

-- the first line is this header, and these are the others
pub record HasHeader (lines : List (List ℕ)) (h : Header) (rows : List (List ℕ)) : Type 0 where
  pub head : List ℕ
  pub is : lines ≡ head ∷ rows
  pub says : IsHeaderLine head h

-- the first line is a header, and this is said of the others
pub record IsSaidAfter (lines : List (List ℕ)) (v : Verdict) : Type 0 where
  pub head : List ℕ
  pub rows : List (List ℕ)
  pub is : lines ≡ head ∷ rows
  pub header : Header
  pub says : IsHeaderLine head header
  pub said : IsSaidOfRows header rows v

-- the first line is no header, or there is none
abbrev pub LacksHeader : List (List ℕ) → Type 0
LacksHeader [] = Unit {0}
LacksHeader (head ∷ rows) = (h : Header) → IsHeaderLine head h → ⊥

-- what is said of the lines of a record
abbrev pub IsSaid : List (List ℕ) → Verdict → Type 0
IsSaid lines v = IsSaidAfter lines v ⊎ ((v ≡ BadRecord 1) × LacksHeader lines)

-- what is said of a record, where no growth was refused
abbrev pub IsVerdict : List ℕ → Verdict → Type 0
IsVerdict bytes v = IsSaid (record_lines bytes) v ⊎ (v ≡ NoMemory)
