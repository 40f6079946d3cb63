-- what a service is asked for
use Rattle.std.specs.Prelude.{ℕ}
use Rattle.model_asked.specs.declared.event.Event.{Event}
use Rattle.model_asked.specs.declared.command.Command.{Command}
use Rattle.model_asked.specs.declared.command.Command.TheVariants as command

-- to take an event, or to tell who has a name
pub data Request : Type 0 where
  Take : Event → Request
  OwnerOf : ℕ → Request

-- the command that asks for it
abbrev pub as_command : Request → Command
as_command (Take e) = command.Event e
as_command (OwnerOf n) = command.Owner n
