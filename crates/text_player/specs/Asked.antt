-- the requests that the lines of an input make
use Rattle.std.specs.Prelude.{ℕ, Bool, true, false, List, [], ◌∷◌, map, Result, Ok, Err}
use Rattle.model_asked.specs.declared.bad.Bad.{Bad}
use Rattle.model_asked.specs.declared.command.Command.{Command}
use Rattle.model_asked.specs.declared.command.Command.TheVariants as command
use Rattle.model_asked.specs.declared.kind.WorldKind.{WorldKind}
use Rattle.text_lines.specs.Meaning.{meaning}

-- up to `quit`, which ends the list
abbrev pub until_quit : List (Result Command Bad) → List (Result Command Bad)
until_quit [] = []
until_quit (Err bad ∷ ms) = Err bad ∷ until_quit ms
until_quit (Ok (command.Event e) ∷ ms) = Ok (command.Event e) ∷ until_quit ms
until_quit (Ok (command.Owner n) ∷ ms) = Ok (command.Owner n) ∷ until_quit ms
until_quit (Ok command.Quit ∷ ms) = Ok command.Quit ∷ []

-- the meanings of lines, in order, up to `quit`
abbrev pub asked_by : WorldKind → List (List ℕ) → List (Result Command Bad)
asked_by kind ls = until_quit (map (meaning kind) ls)

-- whether `quit` is among them
abbrev pub asks_quit : List (Result Command Bad) → Bool
asks_quit [] = false
asks_quit (Err bad ∷ ms) = asks_quit ms
asks_quit (Ok (command.Event e) ∷ ms) = asks_quit ms
asks_quit (Ok (command.Owner n) ∷ ms) = asks_quit ms
asks_quit (Ok command.Quit ∷ ms) = true
