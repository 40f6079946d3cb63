-- who holds numbers: the lines that ask it, and what is answered
use Rattle.std.specs.Prelude.{ℕ, suc, zero, ◌+◌, ◌-◌, min, nat_le, if◌then◌else◌, List, [], ◌∷◌, ◌++◌, take, drop, get_or, Option, Some, None, Result, Ok, Err, codes, decimal}
use Rattle.model_steps.specs.declared.refusal.Refusal.{Refusal}
use Rattle.text_lines.specs.Meaning.{number_in, same_bytes}
use Rattle.model_pool.specs.Competitors.{holder_in}
use Rattle.model_pool.specs.Pool.{number_answer}
use Rattle.model_pool.specs.slots.SlotsState.{SlotsState}
use Rattle.text_lines.specs.declared.held.query.HeldQuery.{HeldQuery}
use Rattle.text_lines.specs.declared.held.query.HeldQuery.TheVariants.{All, From, Of}

abbrev pub query_if : Option ℕ → Option HeldQuery
query_if None = None
query_if (Some id) = Some (Of id)

abbrev pub number_query : List ℕ → Option HeldQuery
number_query word = query_if (number_in word)

abbrev pub page_if : Option ℕ → Option HeldQuery
page_if None = None
page_if (Some first) = Some (From first)

abbrev pub page_query : List ℕ → Option HeldQuery
page_query word = page_if (number_in word)

abbrev pub query_of_one : List ℕ → Option HeldQuery
query_of_one line = if same_bytes (take 5 line) (codes "held ") then number_query (drop 5 line) else None

-- what a line asks: `held` for all numbers, `held from N` for those from one on, `held ID` for that of one identity
abbrev pub held_query : List ℕ → Option HeldQuery
held_query line =
    if same_bytes line (codes "held") then Some All
    else if same_bytes (take 10 line) (codes "held from ") then page_query (drop 10 line)
    else query_of_one line

-- a number, its holder and its slot's value
abbrev pub holder_line : ℕ → ℕ → ℕ → List ℕ
holder_line number id value = decimal number ++ codes " " ++ decimal id ++ codes " " ++ decimal value ++ codes "\n"

abbrev pub line_if_held : SlotsState ℕ → ℕ → Option ℕ → List ℕ
line_if_held s before None = []
line_if_held s before (Some id) = holder_line (suc before) id (get_or s.values before 0)

-- of the number behind this one, where somebody holds it
abbrev pub line_of_number : SlotsState ℕ → ℕ → List ℕ
line_of_number s before = line_if_held s before (holder_in (suc before) s.pool.competitors)

-- of so many numbers behind this one, in rising order
abbrev pub lines_behind : SlotsState ℕ → ℕ → ℕ → List ℕ
lines_behind s before zero = []
lines_behind s before (suc count) = lines_behind s before count ++ line_of_number s (before + count)

-- behind a page, which is of 64 numbers: the number that the next page begins with, or `ok` behind the last
abbrev pub page_end : SlotsState ℕ → ℕ → List ℕ
page_end s before = if nat_le s.pool.size (before + 64) then codes "ok\n" else (codes "more " ++ decimal (before + 65)) ++ codes "\n"

-- a page of the numbers behind this one
abbrev pub page : SlotsState ℕ → ℕ → List ℕ
page s before = lines_behind s before (min (s.pool.size - before) 64) ++ page_end s before

-- the lines of all numbers that are held
abbrev pub all_held : SlotsState ℕ → List ℕ
all_held s = lines_behind s 0 s.pool.size ++ codes "ok\n"

-- of the number that an identity holds
abbrev pub line_or_none : SlotsState ℕ → ℕ → Result ℕ Refusal → List ℕ
line_or_none s id (Err why) = codes "none\n"
line_or_none s id (Ok number) = holder_line number id (get_or s.values (number - 1) 0)

abbrev pub text_of_one : SlotsState ℕ → ℕ → List ℕ
text_of_one s id = line_or_none s id (number_answer s.pool id)

-- what is answered
abbrev pub held_text : SlotsState ℕ → HeldQuery → List ℕ
held_text s All = page s 0
held_text s (From first) = page s (first - 1)
held_text s (Of id) = text_of_one s id
