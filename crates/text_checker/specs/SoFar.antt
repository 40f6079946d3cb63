-- what was read and taken of the lines of a record so far
use Rattle.std.specs.Prelude.{◌≡◌, ◌≢◌, ℕ, ◌+◌, ◌<◌, ◌≤◌, true, List, ◌∷◌, ◌++◌, length, None}
use Rattle.text_worlds.specs.desk.Start.{pool_start}
use Rattle.text_records.specs.declared.header.Header.{Header}
use Rattle.text_records.specs.declared.line.Line.{Line}
use Rattle.text_records.specs.declared.line.Row.{Row}
use Rattle.text_records.specs.Lines.{IsCanonical}
use Rattle.text_records.specs.RecordLine.{IsEventLine}
use Rattle.text_records.specs.Records.{AreRead}
use Rattle.text_checker.specs.declared.checker.Checker.{Checker}
use Rattle.text_checker.specs.Config.{terms_of}
use Rattle.text_checker.specs.declared.verdict.Verdict.{Verdict}
use Rattle.text_checker.specs.declared.verdict.Verdict.TheVariants.{Yes}
use Rattle.text_checker.specs.Judged.{HasTaken, TakesMore}
use Rattle.text_checker.specs.Verdict.{IsSaidOfRows}

-- the rows so far were read and taken, and these are left
pub record RowsSoFar (h : Header) (rows left : List (List ℕ)) (checker : Checker) (number : ℕ) : Type 0 where
  pub before : List (List ℕ)
  pub lines : List Line
  pub is : before ++ left ≡ rows
  pub read : AreRead h.config.world h.version before lines
  pub many : length lines ≡ length before
  pub few : length before ≤ 1000000
  pub taken : HasTaken (terms_of h.config) (pool_start h.config) lines checker
  pub at : number ≡ length before + 2

-- a row that is not one too many was read as this line, and that is taken
pub record TakesRow (h : Header) (number : ℕ) (row : List ℕ) (old new : Checker) (l : Line) : Type 0 where
  pub early : number < 1000002
  pub says : IsEventLine h.config.world h.version row l
  pub taken : TakesMore l old None new

-- the same of a row with what is told of its bytes
pub record TakesBytes (h : Header) (number : ℕ) (bytes : List ℕ) (old new : Checker) (r : Row) : Type 0 where
  pub takes : TakesRow h number bytes old new r.line
  pub canonical : r.is_canonical ≡ true → IsCanonical bytes r.line

-- this, and not Yes, is said of any rows of which this one is the next
pub record EndsAtRow (h : Header) (number : ℕ) (row : List ℕ) (old : Checker) (v : Verdict) : Type 0 where
  pub other : v ≢ Yes
  pub said : (rows more : List (List ℕ)) → RowsSoFar h rows (row ∷ more) old number → IsSaidOfRows h rows v
