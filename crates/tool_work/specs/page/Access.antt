-- an access to a register of a desk, and what follows of it (this project's profile)
use Rattle.std.specs.Prelude.{ℕ, List, [], ◌∷◌, ◌++◌, ◌==◌, if◌then◌else◌, is_some, position, Option, Some, None, option_and_then, option_map, codes, decimal}
use Rattle.text_worlds.specs.declared.desk.coming.Coming.{Coming}
use Rattle.text_worlds.specs.declared.desk.coming.Coming.TheVariants.{Nothing, Read, Write}
use Rattle.text_worlds.specs.declared.desk.coming.Register.{Register}
use Rattle.text_worlds.specs.declared.desk.coming.Register.TheVariants.{X, Y, Mark, Segment}
use Rattle.text_worlds.specs.desk.DeskValue.{DeskValue}
use Rattle.text_worlds.specs.desk.Held.{held_in}

-- ---- in words

abbrev pub register_words : Register → List ℕ
register_words (X place) = codes "X " ++ decimal place
register_words (Y place) = codes "Y " ++ decimal place
register_words (Mark place) = codes "mark " ++ decimal place
register_words (Segment place) = codes "segment " ++ decimal place

abbrev pub access_words : Option Coming → List ℕ
access_words None = []
access_words (Some Nothing) = []
access_words (Some (Read r)) = codes "read " ++ register_words r
access_words (Some (Write r word)) = codes "write " ++ register_words r ++ codes " " ++ decimal word

-- ---- the register that it reaches

abbrev pub register_at : Option Coming → Option Register
register_at None = None
register_at (Some Nothing) = None
register_at (Some (Read r)) = Some r
register_at (Some (Write r word)) = Some r

-- what then stands there
abbrev pub held_at : DeskValue → Option Coming → Option ℕ
held_at w a = option_and_then (held_in w) (register_at a)

abbrev pub place_in : Register → ℕ
place_in (X place) = place
place_in (Y place) = place
place_in (Mark place) = place
place_in (Segment place) = place

-- the places that were reached, with that of one more access, each once
abbrev pub with_place : List ℕ → Option ℕ → List ℕ
with_place places None = places
with_place places (Some place) = if is_some (position (λ one. one == place) places) then places else places ++ place ∷ []

abbrev pub with_reached : List ℕ → Option Coming → List ℕ
with_reached places a = with_place places (option_map place_in (register_at a))
