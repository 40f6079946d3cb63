-- what is shown of a record (this project's profile)
use Rattle.std.specs.Prelude.{◌≡◌, ◌<◌, ℕ, List, ◌∷◌, Option, Result, Ok, Err}
use Rattle.std.specs.Io.KnownBytes.{Appends}
use Rattle.text_lines.specs.Written.{HasPartOf}
use Rattle.text_lines.specs.declared.fault.Fault.{Fault}
use Rattle.text_lines.specs.declared.fault.Fault.TheVariants.{Write}
use Rattle.text_player.specs.Played.{Writing}
use Rattle.text_records.specs.declared.header.Header.{Header}
use Rattle.text_records.specs.declared.line.Line.{Line}
use Rattle.text_records.specs.RecordLine.{IsHeaderLine}
use Rattle.text_records.specs.Records.{record_lines, AreRead}
use Rattle.text_checker.specs.declared.verdict.Verdict.{Verdict}
use Rattle.text_checker.specs.declared.verdict.Verdict.TheVariants.{Yes}
use Rattle.text_checker.specs.Verdict.{IsVerdict}
use Rattle.tool_work.specs.declared.page.stretch.Stretch.{Stretch}
use Rattle.tool_work.specs.page.Page.{page}

-- a record of a run, and its page
pub record IsPage (bytes : List ℕ) (s : Stretch) (text : List ℕ) : Type 0 where
  pub head : List ℕ
  pub rows : List (List ℕ)
  pub is : record_lines bytes ≡ head ∷ rows
  pub header : Header
  pub says : IsHeaderLine head header
  pub lines : List Line
  pub read : AreRead header.config.world header.version rows lines
  pub said : IsVerdict bytes Yes
  pub text_is : text ≡ page header.config s lines

-- gained was the page of a record
abbrev pub GainsPage : Option (List ℕ) → Option (List ℕ) → List ℕ → Stretch → Type 0
GainsPage before now bytes s = (text : List ℕ) × IsPage bytes s text × Appends before now text

-- or a prefix of it
abbrev pub GainsPart : Option (List ℕ) → Option (List ℕ) → List ℕ → Stretch → Type 0
GainsPart before now bytes s = (text : List ℕ) × IsPage bytes s text × HasPartOf before now text

-- what `show` answers of a record: its verdict, with the page written where that is Yes, and nothing written elsewhere; or that a
-- write failed, with a prefix of the page written
abbrev pub IsShown : {W : Type 0} → Writing W → List ℕ → Stretch → Result Verdict Fault → Type 0
IsShown writing bytes s (Ok Yes) = (writing.failed writing.new ≡ writing.failed writing.old) × GainsPage (writing.contents writing.old) (writing.contents writing.new) bytes s
IsShown writing bytes s (Ok v) = IsVerdict bytes v × (writing.new ≡ writing.old)
IsShown writing bytes s (Err fault) = (fault ≡ Write) × (writing.failed writing.old < writing.failed writing.new) × GainsPart (writing.contents writing.old) (writing.contents writing.new) bytes s
