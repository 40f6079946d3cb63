-- what a page tells of the events where no script runs (this project's profile)
use Rattle.std.specs.Prelude.{ℕ, suc, ◌==◌, Bool, true, false, List, [], ◌∷◌, ◌++◌, position, Option, Some, None, codes, decimal}
use Rattle.model_asked.specs.declared.event.Event.{Event}
use Rattle.model_asked.specs.declared.event.Event.TheVariants as event
use Rattle.text_worlds.specs.desk.DeskValue.{DeskValue}
use Rattle.text_lines.specs.Events.{event_words}
use Rattle.text_records.specs.declared.line.Line.{Line}
use Rattle.text_records.specs.Reported.{identity_of}
use Rattle.text_records.specs.ReportedWords.{reported_words}
use Rattle.tool_work.specs.declared.page.done.Done.{Done}
use Rattle.tool_work.specs.page.Access.{access_words}
use Rattle.tool_work.specs.page.Row.{access_in, desk_next, done_at, is_refused}

-- ---- who has begun

abbrev pub beginner_by : Event → Option ℕ
beginner_by (event.Begin p) = Some p
beginner_by e = None

abbrev pub unless_refused : Bool → Option ℕ → Option ℕ
unless_refused true p = None
unless_refused false p = p

-- who begins at a line
abbrev pub beginner_at : Line → Option ℕ
beginner_at l = unless_refused (is_refused l.reported) (beginner_by l.event)

abbrev pub with_beginner : List ℕ → Option ℕ → List ℕ
with_beginner ids None = ids
with_beginner ids (Some p) = ids ++ p ∷ []

abbrev pub begun_after : List ℕ → Line → List ℕ
begun_after ids l = with_beginner ids (beginner_at l)

-- who has begun after these lines, one after the other
abbrev pub begun_in : List ℕ → List Line → List ℕ
begun_in ids [] = ids
begun_in ids (l ∷ ls) = begun_in (begun_after ids l) ls

-- ---- an item for each event: its number, the lane of whose it is, the event, the access that is made, and the reply of the record

abbrev pub lane_of : List ℕ → Event → Option ℕ
lane_of ids e = position (λ one. one == identity_of e) ids

abbrev pub lane_words : Option ℕ → List ℕ
lane_words None = []
lane_words (Some lane) = codes " style=\"--lane:" ++ decimal lane ++ codes "\""

abbrev pub item_begin : ℕ → Option ℕ → List ℕ
item_begin number lane = codes "<li value=\"" ++ decimal number ++ codes "\"" ++ lane_words lane ++ codes ">"

abbrev pub item_words : Line → Option Done → List ℕ
item_words l d = event_words l.event ++ codes " <b>" ++ access_words (access_in d) ++ codes "</b> " ++ reported_words l.reported ++ codes "</li>\n"

abbrev pub item_of : List ℕ → ℕ → Line → Option Done → List ℕ
item_of ids number l d = item_begin number (lane_of ids l.event) ++ item_words l d

-- the items of lines that are replayed on a desk, where so many lines were before
abbrev pub items : List ℕ → ℕ → DeskValue → List Line → List (List ℕ)
items ids before w [] = []
items ids before w (l ∷ ls) = item_of (begun_after ids l) (suc before) l (done_at w l) ∷ items (begun_after ids l) (suc before) (desk_next w l) ls
