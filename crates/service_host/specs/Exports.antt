-- a history as the lines of commands that ask for it
use Rattle.std.specs.Prelude.{ℕ, List, [], ◌∷◌, ◌++◌}
use Rattle.std.specs.List.{flat_map}
use Rattle.model_asked.specs.declared.exchange.Exchange.{Exchange}
use Rattle.text_lines.specs.Events.{event_words}

-- the line that asks for an event
abbrev pub command_line : Exchange → List ℕ
command_line x = event_words x.event ++ 10 ∷ []

-- the lines that ask for all events of a history, in order
abbrev pub command_lines : List Exchange → List ℕ
command_lines history = flat_map command_line history
