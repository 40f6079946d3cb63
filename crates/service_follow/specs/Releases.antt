-- the lines by which stays end
use Rattle.std.specs.Prelude.{ℕ, zero, suc, Bool, true, false, List, [], ◌∷◌, ◌++◌, codes, decimal, Result, Ok, Err}
use Rattle.model_steps.specs.declared.refusal.Refusal.{Refusal}
use Rattle.model_asked.specs.Config.{is_wide}
use Rattle.model_pool.specs.Pool.{number_answer}
use Rattle.text_worlds.specs.desk.Held.{slots_of}
use Rattle.service_hall.specs.Halls.{desk_of}
use Rattle.service_hall.specs.HallState.{HallState}

abbrev pub leave_line : ℕ → List ℕ
leave_line id = codes "leave " ++ (decimal id ++ codes "\n")

-- `seek`, which only the wide world knows, or one `probe`
abbrev pub search_line : Bool → ℕ → List ℕ
search_line true id = codes "seek " ++ (decimal id ++ codes "\n")
search_line false id = codes "probe " ++ (decimal id ++ codes "\n")

-- a line so many times
abbrev pub search_lines : ℕ → List ℕ → List ℕ
search_lines zero line = []
search_lines (suc n) line = line ++ search_lines n line

-- one `seek`, or as many probes as the pool has numbers, have a competitor hold one; a holder needs none
abbrev pub searches_unless : Bool → Result ℕ Refusal → ℕ → ℕ
searches_unless wide (Ok number) size = 0
searches_unless true (Err why) size = 1
searches_unless false (Err why) size = size

abbrev pub searches_for : HallState → ℕ → ℕ
searches_for h id = searches_unless (is_wide h.config.world) (number_answer (slots_of (desk_of h)).pool id) (slots_of (desk_of h)).pool.size

-- these, and then `leave`
abbrev pub release_of : HallState → ℕ → List ℕ
release_of h id = search_lines (searches_for h id) (search_line (is_wide h.config.world) id) ++ leave_line id

abbrev pub lines_of : HallState → List ℕ → List ℕ
lines_of h [] = []
lines_of h (id ∷ ids) = release_of h id ++ lines_of h ids
