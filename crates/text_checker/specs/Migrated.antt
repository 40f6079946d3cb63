-- what a record is migrated to
use Rattle.std.specs.Prelude.{◌≡◌, ◌≢◌, ℕ, ◌<◌, List, [], ◌∷◌, ◌++◌, map, flat_map, Option, Some, None, Result, Ok, Err, unwrap_or}
use Rattle.std.specs.Io.KnownBytes.{Appends}
use Rattle.model_steps.specs.Runs.{Run}
use Rattle.model_renaming.specs.RenameObject.{RenameTerms, RenameObject}
use Rattle.model_asked.specs.declared.config.Config.{Config}
use Rattle.model_asked.specs.declared.event.Event.{Event}
use Rattle.model_asked.specs.declared.event.Event.TheVariants as event
use Rattle.model_asked.specs.declared.exchange.Exchange.{Exchange}
use Rattle.model_asked.specs.Replies.{ShownReply}
use Rattle.model_asked.specs.declared.reply.Reply.TheVariants as reply
use Rattle.text_worlds.specs.desk.DeskCalls.{DeskCall, exchange_of}
use Rattle.text_worlds.specs.desk.Start.{pool_start}
use Rattle.text_lines.specs.Written.{HasPartOf}
use Rattle.text_lines.specs.declared.fault.Fault.{Fault}
use Rattle.text_lines.specs.declared.fault.Fault.TheVariants.{Write}
use Rattle.text_player.specs.Records.{header_line, exchange_line}
use Rattle.text_player.specs.Played.{Writing}
use Rattle.text_checker.specs.declared.judges.firsts.Firsts.{Firsts}
use Rattle.text_records.specs.declared.header.Header.{Header}
use Rattle.text_records.specs.declared.line.Line.{Line}
use Rattle.text_checker.specs.declared.migration.Migration.{Migration}
use Rattle.text_records.specs.declared.reported.Reported.{Reported}
use Rattle.text_records.specs.declared.reported.Reported.TheVariants as reported
use Rattle.text_checker.specs.declared.verdict.Verdict.{Verdict}
use Rattle.text_checker.specs.declared.verdict.Verdict.TheVariants.{Yes}
use Rattle.text_checker.specs.Config.{terms_of}
use Rattle.text_checker.specs.judges.Firsts.{IsFirstSole, view_at, HoldsFirsts}
use Rattle.text_records.specs.Lines.{IsLineOf, IsShown}
use Rattle.text_checker.specs.ObjectRun.{DeskObject, fresh_desk_object, AllowsCall, after_call}
use Rattle.text_records.specs.RecordLine.{IsHeaderLine}
use Rattle.text_checker.specs.Recorded.{IsYes}
use Rattle.text_checker.specs.judges.Standing.{proposed_by}
use Rattle.text_records.specs.Records.{record_lines, AreRead}
use Rattle.text_checker.specs.Verdict.{IsVerdict}

-- ---- what is written of a record

-- a line, and the call that it is taken for
pub record Telling : Type 0 where
  pub line : Line
  pub call : DeskCall

-- where the view by which a name was given is not written, it is the first by which it could be given
abbrev pub ShowsFirst : RenameObject → Event → ShownReply → Reported → Type 0
ShowsFirst o (event.Step p) (reply.Named n view) (reported.Named m None) = IsFirstSole o p n view
ShowsFirst o e r t = Unit {0}

-- the objects may give the call its reply, and the line says it
pub record IsTelling (terms : RenameTerms) (o : DeskObject) (t : Telling) : Type 0 where
  pub allowed : AllowsCall terms o t.call
  pub spelled : IsLineOf (exchange_of t.call) t.line
  pub first : ShowsFirst o.names (exchange_of t.call).event (exchange_of t.call).reply t.line.reported

abbrev pub after_telling : DeskObject → Telling → DeskObject
after_telling o t = after_call o t.call

-- the exchanges that lines are taken for
abbrev pub exchanges_in : List Telling → List Exchange
exchanges_in ts = map (λ t. exchange_of t.call) ts

-- the record of version 2 of some exchanges
abbrev pub record_text : Config → List Exchange → List ℕ
record_text c xs = header_line c ++ flat_map exchange_line xs

-- the lines are those of exchanges that the objects can make, each view that is not written being the first, and the text is
-- their record
pub record IsMigration (c : Config) (lines : List Line) (text : List ℕ) : Type 0 where
  pub tellings : List Telling
  pub lines_are : map (λ t. t.line) tellings ≡ lines
  pub object : DeskObject
  pub run : Run after_telling (IsTelling (terms_of c)) (fresh_desk_object (pool_start c)) tellings object
  pub text_is : text ≡ record_text c (exchanges_in tellings)

-- a record of a run, and the text to which it is migrated, which is a record of a run too
pub record IsMigratedTo (bytes text : List ℕ) : Type 0 where
  pub head : List ℕ
  pub rows : List (List ℕ)
  pub is : record_lines bytes ≡ head ∷ rows
  pub header : Header
  pub says : IsHeaderLine head header
  pub lines : List Line
  pub read : AreRead header.config.world header.version rows lines
  pub said : IsVerdict bytes Yes
  pub migration : IsMigration header.config lines text
  pub yes : IsYes text

-- gained was a text to which the record is migrated
abbrev pub GainsMigrated : Option (List ℕ) → Option (List ℕ) → List ℕ → Type 0
GainsMigrated before now bytes = (text : List ℕ) × IsMigratedTo bytes text × Appends before now text

-- or a prefix of one
abbrev pub GainsPart : Option (List ℕ) → Option (List ℕ) → List ℕ → Type 0
GainsPart before now bytes = (text : List ℕ) × IsMigratedTo bytes text × HasPartOf before now text

-- what `migrate` answers of a record: its verdict, with the text to which it is migrated written where that is Yes, and nothing
-- written elsewhere; or that a write failed, with a prefix of that text written
abbrev pub IsMigrated : {W : Type 0} → Writing W → List ℕ → Result Verdict Fault → Type 0
IsMigrated writing bytes (Ok Yes) = (writing.failed writing.new ≡ writing.failed writing.old) × GainsMigrated (writing.contents writing.old) (writing.contents writing.new) bytes
IsMigrated writing bytes (Ok v) = IsVerdict bytes v × (writing.new ≡ writing.old)
IsMigrated writing bytes (Err fault) = (fault ≡ Write) × (writing.failed writing.old < writing.failed writing.new) × GainsPart (writing.contents writing.old) (writing.contents writing.new) bytes

-- ---- what is gathered of the lines so far

-- who proposes in a line, and which number
abbrev pub proposal_of : Event → Reported → Option (ℕ × ℕ)
proposal_of (event.Step p) (reported.Proposed n) = Some (p, n)
proposal_of e t = None

-- the view that is kept of who steps in an event
abbrev pub first_of : Firsts → Event → List (ℕ × ℕ)
first_of f (event.Step p) = unwrap_or (view_at f p) []
first_of f e = []

-- the view by which a line tells that a name was given: the one that is written, or the first that there was
abbrev pub shown_in : Firsts → Event → Reported → List (ℕ × ℕ)
shown_in f e (reported.Named n (Some view)) = view
shown_in f e (reported.Named n None) = first_of f e
shown_in f e t = []

-- a text has the line of each exchange that the line is of, with the view by which it tells that a name was given
abbrev pub PutsLine : Firsts → Line → List ℕ → List ℕ → Type 0
PutsLine f l before now = (x : Exchange) → IsLineOf x l → IsShown x.reply (shown_in f l.event l.reported) → now ≡ before ++ exchange_line x

-- what a line changes in what is kept of first moments
abbrev pub GoesOn : Option (ℕ × ℕ) → Firsts → Firsts → Type 0
GoesOn None f f' = f' ≡ f
GoesOn (Some x) f f' = (o : RenameObject) → HoldsFirsts f o → HoldsFirsts f' (proposed_by x.0 x.1 o)

-- what is gathered is of these lines
pub record HasMigrated (c : Config) (lines : List Line) (m : Migration) : Type 0 where
  pub so_far : IsMigration c lines m.text
  pub firsts : HoldsFirsts m.firsts so_far.object.names

-- another verdict than Yes
abbrev pub IsOther : (Verdict → Type 0) → Verdict → Type 0
IsOther Said v = Said v × (v ≢ Yes)
