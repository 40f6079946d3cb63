-- the page of a record (this project's profile)
use Rattle.std.specs.Prelude.{◌≡◌, ℕ, ◌-◌, ◌==◌, Bool, nat_le, if◌then◌else◌, List, [], ◌++◌, length, take, drop, flat_map, codes, decimal}
use Rattle.std.specs.List.{list_any}
use Rattle.text_worlds.specs.desk.Desk.{fresh_desk}
use Rattle.text_worlds.specs.desk.DeskValue.{DeskValue}
use Rattle.model_asked.specs.declared.config.Config.{Config}
use Rattle.text_player.specs.Records.{header_line}
use Rattle.text_records.specs.declared.line.Line.{Line}
use Rattle.tool_work.specs.declared.page.head.TheConstants.{HEAD}
use Rattle.tool_work.specs.declared.page.middle.TheConstants.{BETWEEN, MIDDLE}
use Rattle.tool_work.specs.declared.page.tail.TheConstants.{TAIL}
use Rattle.tool_work.specs.declared.page.stretch.Stretch.{Stretch}
use Rattle.tool_work.specs.declared.page.sheet.Sheet.{Sheet}
use Rattle.tool_work.specs.declared.page.form.Form.{Form}
use Rattle.tool_work.specs.declared.page.form.Form.TheVariants.{Data, Item}
use Rattle.tool_work.specs.page.Row.{reached_in, rows, replayed}
use Rattle.tool_work.specs.page.State.{state}
use Rattle.tool_work.specs.page.Still.{begun_in, items}

-- the members of a list that a stretch has
abbrev pub stretch_of : {X : Type 0} → Stretch → List X → List X
stretch_of s xs = take s.count (drop (s.from - 1) xs)

-- one text after the other
abbrev pub joined : List (List ℕ) → List ℕ
joined xs = flat_map (λ x. x) xs

-- the rows of the lines in a stretch, replayed from the first line on
abbrev pub shown_rows : Config → Stretch → List Line → List ℕ
shown_rows c s lines = joined (stretch_of s (rows (fresh_desk c) lines))

-- and their items for readers without a script
abbrev pub shown_items : Config → Stretch → List Line → List ℕ
shown_items c s lines = joined (stretch_of s (items [] 0 (fresh_desk c) lines))

-- all that a desk of this config holds after these lines
abbrev pub state_after : Form → Config → List Line → List ℕ
state_after f c lines = state f (replayed (fresh_desk c) lines) (begun_in [] lines) (reached_in [] (fresh_desk c) lines)

-- the lines before the first event of a stretch
abbrev pub lines_before : Stretch → List Line → List Line
lines_before s lines = take (s.from - 1) lines

-- the record's config, the number of the first event, the rows, the state before them, and how many events there are, as an
-- object of JSON
abbrev pub opening_data : Config → Stretch → List ℕ
opening_data c s = header_line c ++ codes ",\"from\":" ++ decimal s.from ++ codes ",\"rows\":[\n"

abbrev pub closing_data : List ℕ → ℕ → List ℕ
closing_data before events = codes "null],\"before\":[\n" ++ before ++ codes "null],\"events\":" ++ decimal events ++ codes "}\n"

abbrev pub page_data : Config → Stretch → List Line → List ℕ
page_data c s lines = opening_data c s ++ shown_rows c s lines ++ closing_data (state_after Data c (lines_before s lines)) (length lines)

-- what each page begins with, what stands between its parts, and what it ends with
unfoldable pub page_head : List ℕ
page_head = HEAD.now

unfoldable pub page_middle : List ℕ
page_middle = MIDDLE.now

unfoldable pub page_between : List ℕ
page_between = BETWEEN.now

unfoldable pub page_tail : List ℕ
page_tail = TAIL.now

-- the data end, the last state is reported with the items, and the page ends
abbrev pub ending : List ℕ → DeskValue → List ℕ → List ℕ → ℕ → List ℕ → List ℕ
ending before w ids places events items = closing_data before events ++ page_middle ++ state Item w ids places ++ page_between ++ items ++ page_tail

-- the fixed head, the data, the last state, the items, and the fixed tail
abbrev pub page : Config → Stretch → List Line → List ℕ
page c s lines = page_head ++ page_data c s lines ++ page_middle ++ state_after Item c lines ++ page_between ++ shown_items c s lines ++ page_tail

-- it has a `<`
abbrev pub has_tag : List ℕ → Bool
has_tag text = list_any (λ byte. byte == 60) text

-- ---- a page so far

abbrev pub opening : Config → Stretch → List ℕ
opening c s = page_head ++ opening_data c s

-- the state before a stretch, once the first of its events has come
abbrev pub state_before : Config → Stretch → List Line → List ℕ
state_before c s lines = if nat_le (length lines) (s.from - 1) then [] else state_after Data c (lines_before s lines)

-- the lines were replayed, and the texts are the page up to their rows, the state before these, and their items
pub record HasPut (c : Config) (lines : List Line) (s : Sheet) : Type 0 where
  pub desk : s.desk ≡ replayed (fresh_desk c) lines
  pub begun : s.begun.items ≡ begun_in [] lines
  pub reached : s.reached.items ≡ reached_in [] (fresh_desk c) lines
  pub seen : s.seen ≡ length lines
  pub before : s.before ≡ state_before c s.stretch lines
  pub text : s.text ≡ opening c s.stretch ++ shown_rows c s.stretch lines
  pub listed : s.listed ≡ shown_items c s.stretch lines

-- the state before a stretch is that of the desk, where no event of the stretch has come
abbrev pub whole_before : Sheet → List ℕ
whole_before s = s.before ++ (if nat_le s.seen (s.stretch.from - 1) then state Data s.desk s.begun.items s.reached.items else [])

-- a page so far is ended, of this stretch
pub record IsPageOf (s : Sheet) (stretch : Stretch) (text : List ℕ) : Type 0 where
  pub same : s.stretch ≡ stretch
  pub text_is : text ≡ s.text ++ ending (whole_before s) s.desk s.begun.items s.reached.items s.seen s.listed
