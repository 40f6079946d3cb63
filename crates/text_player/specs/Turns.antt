-- turns: the requests of lines, with the answers to them
use Rattle.std.specs.Prelude.{ℕ, List, [], ◌∷◌, map, Result, Ok, Err}
use Rattle.model_asked.specs.declared.bad.Bad.{Bad}
use Rattle.model_asked.specs.declared.command.Command.{Command}
use Rattle.model_asked.specs.declared.command.Command.TheVariants as command
use Rattle.model_asked.specs.declared.exchange.Exchange.{Exchange}
use Rattle.model_asked.specs.Replies.{ShownReply}
use Rattle.model_asked.specs.declared.reply.Reply.TheVariants as reply

-- what a line asked, with the answer to it: the reply to an event, the owner of a name, the end by `quit`, or that the
-- line was bad
pub data Turn : Type 0 where
  Answered : Exchange → Turn
  Reported : ℕ → ShownReply → Turn
  Ended : Turn
  Misread : Bad → Turn

-- what the line of a turn asked
abbrev pub asked : Turn → Result Command Bad
asked (Answered x) = Ok (command.Event x.event)
asked (Reported n r) = Ok (command.Owner n)
asked Ended = Ok command.Quit
asked (Misread bad) = Err bad

-- the answer of a turn
abbrev pub answer_of : Turn → Result ShownReply Bad
answer_of (Answered x) = Ok x.reply
answer_of (Reported n r) = Ok r
answer_of Ended = Ok reply.Ok
answer_of (Misread bad) = Err bad

abbrev pub answers_of : List Turn → List (Result ShownReply Bad)
answers_of turns = map answer_of turns

-- the exchanges among them
abbrev pub exchanges : List Turn → List Exchange
exchanges [] = []
exchanges (Answered x ∷ ts) = x ∷ exchanges ts
exchanges (Reported n r ∷ ts) = exchanges ts
exchanges (Ended ∷ ts) = exchanges ts
exchanges (Misread bad ∷ ts) = exchanges ts
