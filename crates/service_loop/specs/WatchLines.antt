-- lines that ask what changes of who holds numbers, and what is answered
use Rattle.std.specs.Prelude.{ℕ, ◌+◌, ◌-◌, ◌++◌, min, ltb, if◌then◌else◌, List, [], ◌∷◌, length, take, drop, Option, Some, None, codes, decimal}
use Rattle.text_lines.specs.Meaning.{number_in, same_bytes}
use Rattle.text_lines.specs.declared.held.telling.TheConstants.{PAGE}
use Rattle.service_loop.specs.Changes.{changes_from, end_of}
use Rattle.service_loop.specs.FeedState.{FeedState}
use Rattle.service_loop.specs.declared.change.Change.{Change}
use Rattle.service_loop.specs.declared.change.Change.TheVariants as change
use Rattle.service_loop.specs.declared.watch_line.WatchQuery.{WatchQuery}
use Rattle.service_loop.specs.declared.watch_line.WatchQuery.TheVariants.{End, From}

abbrev pub from_if : Option ℕ → Option WatchQuery
from_if None = None
from_if (Some point) = Some (From point)

-- what a line asks: `watch` for the point at which the changes end, `watch P` for those from a point on
abbrev pub watch_query : List ℕ → Option WatchQuery
watch_query line =
    if same_bytes line (codes "watch") then Some End
    else if same_bytes (take 6 line) (codes "watch ") then from_if (number_in (drop 6 line)) else None

-- a number, and who took it or gave it back
abbrev pub change_line : Change → List ℕ
change_line (change.Got number id) = codes "got " ++ decimal number ++ codes " " ++ decimal id ++ codes "\n"
change_line (change.Left number id) = codes "left " ++ decimal number ++ codes " " ++ decimal id ++ codes "\n"

abbrev pub change_lines : List Change → List ℕ
change_lines [] = []
change_lines (c ∷ cs) = change_line c ++ change_lines cs

-- the point from which on others are to be asked for
abbrev pub point_line : ℕ → List ℕ
point_line point = codes "point " ++ decimal point ++ codes "\n"

-- the same, where some changes before it cannot be told
abbrev pub lost_line : ℕ → List ℕ
lost_line point = codes "lost " ++ decimal point ++ codes "\n"

-- so many changes as a page has, and the point behind them
abbrev pub page_of_changes : ℕ → ℕ → Option (List Change) → ℕ → List ℕ
page_of_changes base point None end = lost_line (base + end)
page_of_changes base point (Some cs) end = change_lines (take (min (length cs) PAGE) cs) ++ point_line (base + (point + min (length cs) PAGE))

-- what is answered, where the points are counted from this one on
abbrev pub watch_text : ℕ → FeedState → WatchQuery → List ℕ
watch_text base f End = point_line (base + end_of f)
watch_text base f (From point) = if ltb point base then lost_line (base + end_of f) else page_of_changes base (point - base) (changes_from f (point - base)) (end_of f)
