-- lines that are spelled as records are written: with no space between their parts, their keys in order, and texts in which each byte
-- stands for itself
use Rattle.std.specs.Prelude.{◌≡◌, ℕ, true, false, List, ◌++◌, Option, Some, None, Ok, codes}
use Rattle.std.specs.List.{list_all}
use Rattle.serde_json.specs.Data.{Data}
use Rattle.model_asked.specs.declared.kind.WorldKind.{WorldKind}
use Rattle.model_asked.specs.declared.event.Event.{Event}
use Rattle.model_asked.specs.declared.command.Command.TheVariants as command
use Rattle.text_lines.specs.Meaning.{is_digit, meaning, number_in}
use Rattle.text_records.specs.declared.header.Version.{Version}
use Rattle.text_records.specs.declared.line.Line.{Line}
use Rattle.text_records.specs.declared.line.Row.{Row}
use Rattle.text_records.specs.declared.reported.Reported.{Reported}
use Rattle.text_records.specs.Json.{is_plain}
use Rattle.text_records.specs.Lines.{IsCanonical}
use Rattle.text_records.specs.Reported.{is_name}
use Rattle.text_records.specs.ReportedWords.{reported_words}
use Rattle.text_records.specs.RecordLine.{IsJson, SaysLine}
use Rattle.text_records.specs.ReplyText.{reported_by}

-- the bytes are read as a value that says this line
pub record SpellsLine (kind : WorldKind) (version : Version) (bytes : List ℕ) (l : Line) : Type 0 where
  pub value : Data
  pub json : IsJson bytes value
  pub says : SaysLine kind version value l

-- and where the bytes are told to be canonical, they are
pub record SpellsRow (kind : WorldKind) (version : Version) (bytes : List ℕ) (r : Row) : Type 0 where
  pub spells : SpellsLine kind version bytes r.line
  pub canonical : r.is_canonical ≡ true → IsCanonical bytes r.line

-- a line begins so, with words that mean this event, and the rest stands from its reply on
pub record SpellsEvent (kind : WorldKind) (bytes : List ℕ) (e : Event) (rest : List ℕ) : Type 0 where
  pub asked : List ℕ
  pub written : bytes ≡ codes "{\"command\":\"" ++ (asked ++ (codes "\",\"reply\":\"" ++ rest))
  pub plain : list_all is_plain asked ≡ true
  pub means : meaning kind asked ≡ Ok (command.Event e)

-- what follows a reply, with a view beside it or none
abbrev pub ending : Option (List ℕ) → List ℕ
ending None = codes "\"}"
ending (Some view) = codes "\",\"view\":\"" ++ (view ++ codes "\"}")

abbrev pub IsPlainView : Option (List ℕ) → Type 0
IsPlainView None = Unit {0}
IsPlainView (Some view) = list_all is_plain view ≡ true

-- a line ends so, with this reply and the view beside it
pub record SpellsEnd (text replied : List ℕ) (shown : Option (List ℕ)) : Type 0 where
  pub written : text ≡ replied ++ ending shown
  pub plain : list_all is_plain replied ≡ true
  pub plain_view : IsPlainView shown

-- what it ends with tells this in this version
pub record SpellsReported (version : Version) (text : List ℕ) (t : Reported) : Type 0 where
  pub replied : List ℕ
  pub shown : Option (List ℕ)
  pub end : SpellsEnd text replied shown
  pub tells : reported_by version replied shown ≡ Some t

-- with no view beside it, it tells this in each version, in the words of what is reported, which is no name
pub record SpellsReply (text : List ℕ) (t : Reported) : Type 0 where
  pub replied : List ℕ
  pub words : replied ≡ reported_words t
  pub unnamed : is_name t ≡ false
  pub end : SpellsEnd text replied None
  pub tells : (version : Version) → reported_by version replied None ≡ Some t

-- a line ends so, with digits that write this number
pub record SpellsLastNumber (text : List ℕ) (n : ℕ) : Type 0 where
  pub digits : List ℕ
  pub written : text ≡ digits ++ codes "\"}"
  pub are_digits : list_all is_digit digits ≡ true
  pub number : number_in digits ≡ Some n

-- and has this word before them
pub record SpellsNumberAfter (text word : List ℕ) (n : ℕ) : Type 0 where
  pub rest : List ℕ
  pub split : text ≡ word ++ rest
  pub number : SpellsLastNumber rest n
