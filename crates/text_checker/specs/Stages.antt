-- how far a record is judged whose bytes come one after the other
use Rattle.std.specs.Prelude.{◌≡◌, ℕ, List, [], ◌∷◌, ◌++◌, Option, Some, None, map}
use Rattle.text_lines.specs.Lines.{pieces_from}
use Rattle.text_records.specs.RecordLine.{IsHeaderLine}
use Rattle.text_records.specs.Seals.{opened_line}
use Rattle.text_checker.specs.declared.row_judge.RowJudge.{RowJudge}
use Rattle.text_checker.specs.declared.judge.Judge.{Judge}
use Rattle.text_checker.specs.declared.judge.JudgeStage.{JudgeStage}
use Rattle.text_checker.specs.declared.judge.JudgeStage.TheVariants.{Opening, Judging, Over}
use Rattle.text_checker.specs.declared.verdict.Verdict.{Verdict}
use Rattle.text_checker.specs.SoFar.{RowsSoFar}
use Rattle.text_checker.specs.Verdict.{IsSaid, IsSaidOfRows}

-- these rows were read and taken, whatever rows are left
abbrev pub HasJudged : RowJudge → List (List ℕ) → Type 0
HasJudged j rows = (left : List (List ℕ)) → RowsSoFar j.header (rows ++ left) left j.checker j.number

-- one more row is read and taken; or a verdict is said of the rows with it, whatever rows follow
abbrev pub JudgesRow : RowJudge → List ℕ → Option Verdict → RowJudge → Type 0
JudgesRow old row None new = (new.header ≡ old.header) × ((rows : List (List ℕ)) → HasJudged old rows → HasJudged new (rows ++ row ∷ []))
JudgesRow old row (Some v) new = (rows : List (List ℕ)) → HasJudged old rows → (more : List (List ℕ)) → IsSaidOfRows old.header (rows ++ row ∷ more) v

-- the first of these lines is the header, and the others were read and taken
pub record HasOpened (j : RowJudge) (lines : List (List ℕ)) : Type 0 where
  pub head : List ℕ
  pub rows : List (List ℕ)
  pub is : lines ≡ head ∷ rows
  pub says : IsHeaderLine head j.header
  pub judged : HasJudged j rows

-- after these lines it stands so: there was none; or all were read and taken; or a verdict is said, whatever lines follow
abbrev pub StandsAfter : List (List ℕ) → JudgeStage → Type 0
StandsAfter lines Opening = lines ≡ []
StandsAfter lines (Judging j) = HasOpened j lines
StandsAfter lines (Over v) = (more : List (List ℕ)) → IsSaid (lines ++ more) v

-- of these bytes all but the last ones, which are left, were taken: whatever follows, they are these whole lines, after which it stands
-- so, with what sealed ones hold, and what is held of the next
pub record HasTakenBut (left seen : List ℕ) (j : Judge) : Type 0 where
  pub whole : List (List ℕ)
  pub cut : (more : List ℕ) → pieces_from 10 [] (seen ++ more) ≡ whole ++ pieces_from 10 j.held.items (left ++ more)
  pub stands : StandsAfter (map opened_line whole) j.stage

-- all of these bytes were taken
abbrev pub HasTakenAll : List ℕ → Judge → Type 0
HasTakenAll seen j = HasTakenBut [] seen j

-- the bytes that are left, none where nothing follows an LF
abbrev pub bytes_left : Option (List ℕ) → List ℕ
bytes_left None = []
bytes_left (Some bytes) = bytes
