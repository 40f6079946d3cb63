-- what is gathered of lines that follow one another
use Rattle.std.specs.Prelude.{ℕ, List, [], ◌∷◌, ◌++◌}
use Rattle.model_asked.specs.declared.config.Config.{Config}
use Rattle.text_worlds.specs.desk.Start.{pool_start}
use Rattle.text_records.specs.declared.header.Header.{Header}
use Rattle.text_records.specs.declared.line.Line.{Line}
use Rattle.text_checker.specs.Config.{terms_of}
use Rattle.text_checker.specs.Lines.{Follow}
use Rattle.text_checker.specs.ObjectRun.{DeskObject}
use Rattle.text_checker.specs.Verdict.{SpellRun}

-- one more line was gathered, which can follow those before it
abbrev pub Gathers : {G : Type 0} → (Config → List Line → G → Type 0) → Line → G → G → Type 0
Gathers IsOf l g g' =
    (c : Config) (lines : List Line) (o : DeskObject) → IsOf c lines g → Follow (terms_of c) (pool_start c) (lines ++ l ∷ []) o → IsOf c (lines ++ l ∷ []) g'

-- the event lines of a record spell a run of this header, and this holds of them
pub record AreGathered (h : Header) (rows : List (List ℕ)) (IsOf : List Line → Type 0) : Type 0 where
  pub run : SpellRun h rows
  pub gathered : IsOf run.lines
