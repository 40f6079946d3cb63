-- what a line of a record says
use Rattle.std.specs.Prelude.{◌≡◌, ℕ, ◌≤◌, true, List, length, Option, Some, Ok, MatchOption, IsUtf8}
use Rattle.serde_json.specs.Data.{Data}
use Rattle.serde_json.specs.Read.{read}
use Rattle.model_asked.specs.declared.kind.WorldKind.{WorldKind}
use Rattle.model_asked.specs.declared.event.Event.{Event}
use Rattle.model_asked.specs.declared.command.Command.TheVariants as command
use Rattle.text_lines.specs.Meaning.{meaning}
use Rattle.text_records.specs.declared.header.Header.{Header}
use Rattle.text_records.specs.declared.header.Version.{Version}
use Rattle.text_records.specs.declared.line.Line.{Line}
use Rattle.text_records.specs.declared.line.Row.{Row}
use Rattle.text_records.specs.Json.{AreTexts, IsHeader}
use Rattle.text_records.specs.Lines.{IsCanonical}
use Rattle.text_records.specs.ReplyText.{reported_by}

-- the bytes are a text that is read as this value
pub record IsJson (bytes : List ℕ) (d : Data) : Type 0 where
  pub utf8 : IsUtf8 bytes
  pub reads : read bytes ≡ Some d

-- the text is this event's line, in the world of this kind
abbrev pub IsEventOf : WorldKind → List ℕ → Event → Type 0
IsEventOf kind text e = meaning kind text ≡ Ok (command.Event e)

-- the value says an event, in the world of this kind, and what is reported of its reply in this version
pub record SaysLine (kind : WorldKind) (version : Version) (d : Data) (l : Line) : Type 0 where
  pub asked : List ℕ
  pub replied : List ℕ
  pub shown : Option (List ℕ)
  pub texts : AreTexts d asked replied shown
  pub event_is : meaning kind asked ≡ Ok (command.Event l.event)
  pub reported_is : reported_by version replied shown ≡ Some l.reported

-- these texts say it
pub record SaysByTexts (kind : WorldKind) (version : Version) (asked replied : List ℕ) (shown : Option (List ℕ)) (l : Line) : Type 0 where
  pub event_is : meaning kind asked ≡ Ok (command.Event l.event)
  pub reported_is : reported_by version replied shown ≡ Some l.reported

-- the line that is found says this; where none is found, no line does
abbrev pub FindsLine : (Line → Type 0) → Option Line → Type 0
FindsLine Says found = MatchOption found ((l : Line) → Says l → ⊥) Says

-- a line of at most 8,192 bytes, without its LF
pub record IsEventLine (kind : WorldKind) (version : Version) (bytes : List ℕ) (l : Line) : Type 0 where
  pub short : length bytes ≤ 8192
  pub value : Data
  pub json : IsJson bytes value
  pub says : SaysLine kind version value l

-- a line, with what is told of its bytes
pub record IsRowOf (kind : WorldKind) (version : Version) (bytes : List ℕ) (r : Row) : Type 0 where
  pub says : IsEventLine kind version bytes r.line
  pub canonical : r.is_canonical ≡ true → IsCanonical bytes r.line

-- the line that is found; where none is found, there is none
abbrev pub FindsRow : WorldKind → Version → List ℕ → Option Row → Type 0
FindsRow kind version bytes found = MatchOption found ((l : Line) → IsEventLine kind version bytes l → ⊥) (IsRowOf kind version bytes)

-- the first line of a record
pub record IsHeaderLine (bytes : List ℕ) (h : Header) : Type 0 where
  pub short : length bytes ≤ 8192
  pub value : Data
  pub json : IsJson bytes value
  pub says : IsHeader value h
