-- the bytes of a record as lines, and what lines say
use Rattle.std.specs.Prelude.{◌≡◌, ℕ, List, [], ◌∷◌, Option, Some, None, true, map}
use Rattle.text_lines.specs.Lines.{pieces_from, unless_empty}
use Rattle.model_asked.specs.declared.kind.WorldKind.{WorldKind}
use Rattle.text_records.specs.declared.header.Header.{Header}
use Rattle.text_records.specs.declared.header.Version.{Version}
use Rattle.text_records.specs.declared.line.Line.{Line}
use Rattle.text_records.specs.RecordLine.{IsEventLine, IsHeaderLine}
use Rattle.text_records.specs.Seals.{opened_line}
use Rattle.model_asked.specs.declared.config.Config.{Config}
use Rattle.model_asked.specs.declared.exchange.Exchange.{Exchange}
use Rattle.text_records.specs.declared.header.Version.TheVariants.{Two}
use Rattle.text_records.specs.Lines.{line_of}

-- what stands after the last LF is a line where it is not empty
abbrev pub lines_from : List ℕ → List (List ℕ) → List (List ℕ)
lines_from piece [] = unless_empty piece
lines_from piece (next ∷ more) = piece ∷ lines_from next more

abbrev pub lines_of : List (List ℕ) → List (List ℕ)
lines_of [] = []
lines_of (piece ∷ more) = lines_from piece more

-- the lines of a record, without their LFs: of a sealed line the line that it holds
abbrev pub record_lines : List ℕ → List (List ℕ)
record_lines bytes = map opened_line (lines_of (pieces_from 10 [] bytes))

-- the lines that are left, none where nothing follows an LF
abbrev pub lines_left : Option (List ℕ) → List (List ℕ)
lines_left None = []
lines_left (Some bytes) = record_lines bytes

-- rows are read as these lines, one by one
abbrev pub AreRead : WorldKind → Version → List (List ℕ) → List Line → Type 0
AreRead kind version [] [] = Unit {0}
AreRead kind version [] (l ∷ ls) = ⊥
AreRead kind version (row ∷ rows) [] = ⊥
AreRead kind version (row ∷ rows) (l ∷ ls) = IsEventLine kind version row l × AreRead kind version rows ls

-- the bytes are a header of version 2 and of this config, and a line for each of these exchanges, in order, which says it with the
-- view of a name
pub record IsRecordOf (c : Config) (r : List Exchange) (bytes : List ℕ) : Type 0 where
  pub head : List ℕ
  pub rows : List (List ℕ)
  pub is : record_lines bytes ≡ head ∷ rows
  pub header : IsHeaderLine head (record { version = Two; config = c })
  pub read : AreRead c.world Two rows (map (line_of true) r)

-- a header says one version and one config
pub record AreSame (g h : Header) : Type 0 where
  pub version : g.version ≡ h.version
  pub world : g.config.world ≡ h.config.world
  pub m : g.config.m ≡ h.config.m
  pub k : g.config.k ≡ h.config.k
  pub limit : g.config.limit ≡ h.config.limit
