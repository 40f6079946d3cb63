-- what a page says of an event, replayed on a desk (this project's profile)
use Rattle.std.specs.Prelude.{ℕ, Bool, true, false, List, [], ◌∷◌, ◌++◌, Option, Some, None, codes, decimal}
use Rattle.text_worlds.specs.declared.desk.coming.Coming.{Coming}
use Rattle.model_asked.specs.declared.event.Event.{Event}
use Rattle.model_asked.specs.declared.event.Event.TheVariants as event
use Rattle.text_worlds.specs.desk.Coming.{coming_of}
use Rattle.text_worlds.specs.desk.Desk.{desk_after, desk_reply}
use Rattle.text_worlds.specs.desk.DeskValue.{DeskValue}
use Rattle.text_worlds.specs.desk.Held.{slots_of}
use Rattle.text_lines.specs.Events.{event_words}
use Rattle.text_lines.specs.Replies.{reply_words}
use Rattle.text_records.specs.declared.line.Line.{Line}
use Rattle.text_records.specs.declared.reported.Reported.{Reported}
use Rattle.text_records.specs.declared.reported.Reported.TheVariants as reported
use Rattle.text_records.specs.Reported.{identity_of}
use Rattle.text_records.specs.ReportedWords.{reported_words}
use Rattle.tool_work.specs.declared.page.done.Done.{Done}
use Rattle.tool_work.specs.declared.page.form.Form.TheVariants.{Data}
use Rattle.tool_work.specs.page.Access.{access_words, held_at, with_reached}
use Rattle.tool_work.specs.page.Standing.{standing_on, standing_words}

-- ---- what a desk does at a line

abbrev pub is_refused : Reported → Bool
is_refused (reported.Refused number) = true
is_refused t = false

-- only a step reaches a register of splitters or segments: the one that its participant accesses next
abbrev pub access_at : DeskValue → Event → Option Coming
access_at w (event.Step p) = coming_of w p
access_at w e = None

-- it answers, an access is made, and after it this stands in the register that was reached, whose event it is stands here, and
-- the pool has so many numbers
abbrev pub done_by : DeskValue → Event → Done
done_by w e = record {
  reply = desk_reply w e;
  access = access_at w e;
  held = held_at (desk_after w e) (access_at w e);
  standing = standing_on (desk_after w e) (identity_of e);
  size = (slots_of (desk_after w e)).pool.size;
}

-- a line that tells a refusal changes nothing
abbrev pub done_unless_refused : Bool → DeskValue → Event → Option Done
done_unless_refused true w e = None
done_unless_refused false w e = Some (done_by w e)

abbrev pub done_at : DeskValue → Line → Option Done
done_at w l = done_unless_refused (is_refused l.reported) w l.event

abbrev pub next_unless_refused : Bool → DeskValue → Event → DeskValue
next_unless_refused true w e = w
next_unless_refused false w e = desk_after w e

abbrev pub desk_next : DeskValue → Line → DeskValue
desk_next w l = next_unless_refused (is_refused l.reported) w l.event

-- ---- in words

abbrev pub held_words : Option ℕ → List ℕ
held_words None = []
held_words (Some word) = decimal word

-- the reply, the access, what then stands in its register, where whose event it is then stands, and the size of the pool
abbrev pub done_words : Done → List ℕ
done_words d =
    reply_words d.reply ++ codes "\",\"" ++ access_words d.access ++ codes "\",\"" ++ held_words d.held
    ++ codes "\",\"" ++ standing_words Data d.standing ++ codes "\",\"" ++ decimal d.size

-- only what parts them where nothing was done
abbrev pub words_of : Option Done → List ℕ
words_of None = codes "\",\"\",\"\",\"\",\"\",\"\",\""
words_of (Some d) = done_words d

-- a list of ten texts in JSON: the event, what is reported of its reply, and what the desk did
abbrev pub row_of : Line → Option Done → List ℕ
row_of l done = codes "[\"" ++ event_words l.event ++ codes "\",\"" ++ reported_words l.reported ++ codes "\",\"" ++ words_of done ++ codes "\"],\n"

-- the rows of lines that are replayed on a desk
abbrev pub rows : DeskValue → List Line → List (List ℕ)
rows w [] = []
rows w (l ∷ ls) = row_of l (done_at w l) ∷ rows (desk_next w l) ls

-- the access that is made at a line
abbrev pub access_in : Option Done → Option Coming
access_in None = None
access_in (Some d) = d.access

-- the places that were reached after these lines, each once
abbrev pub reached_in : List ℕ → DeskValue → List Line → List ℕ
reached_in places w [] = places
reached_in places w (l ∷ ls) = reached_in (with_reached places (access_in (done_at w l))) (desk_next w l) ls

-- the desk after lines
abbrev pub replayed : DeskValue → List Line → DeskValue
replayed w [] = w
replayed w (l ∷ ls) = replayed (desk_next w l) ls
