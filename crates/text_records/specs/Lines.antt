-- what lines a record has of exchanges
use Rattle.std.specs.Prelude.{◌≡◌, ℕ, Bool, true, false, List, [], ◌∷◌, ◌++◌, Option, Some, None}
use Rattle.model_steps.specs.Refusal.{refusal_number}
use Rattle.model_asked.specs.declared.event.Event.{Event}
use Rattle.model_asked.specs.declared.exchange.Exchange.{Exchange}
use Rattle.model_asked.specs.Replies.{ShownReply}
use Rattle.model_asked.specs.declared.reply.Reply.TheVariants as reply
use Rattle.text_player.specs.Records.{exchange_line}
use Rattle.text_records.specs.declared.line.Line.{Line}
use Rattle.text_records.specs.declared.reported.Reported.{Reported}
use Rattle.text_records.specs.declared.reported.Reported.TheVariants as reported

-- the view by which a name was given, where it is shown
abbrev pub shown_where : Bool → List (ℕ × ℕ) → Option (List (ℕ × ℕ))
shown_where true view = Some view
shown_where false view = None

-- how a reply is reported: the view by which a name was given is shown or left out
abbrev pub reported_of : Bool → ShownReply → Reported
reported_of shows reply.Ok = reported.Ok
reported_of shows reply.Quiet = reported.Quiet
reported_of shows reply.Stop = reported.Stop
reported_of shows reply.Right = reported.Right
reported_of shows reply.Down = reported.Down
reported_of shows (reply.Place place) = reported.Place place
reported_of shows (reply.Proposed number) = reported.Proposed number
reported_of shows (reply.Saw view) = reported.Saw view
reported_of shows (reply.Named name view) = reported.Named name (shown_where shows view)
reported_of shows reply.Spent = reported.Spent
reported_of shows reply.Missed = reported.Missed
reported_of shows (reply.Got number) = reported.Got number
reported_of shows (reply.Left number) = reported.Left number
reported_of shows (reply.Value value) = reported.Value value
reported_of shows (reply.Owner owner) = reported.Owner owner
reported_of shows (reply.Refused why) = reported.Refused (refusal_number why)

abbrev pub line : Event → Reported → Line
line e t = record { event = e; reported = t }

-- the line of an exchange, with the view by which a name was given or without it
abbrev pub line_of : Bool → Exchange → Line
line_of shows x = line x.event (reported_of shows x.reply)

-- a line is that of an exchange, told in full or without the view by which a name was given
pub record IsLineOf (x : Exchange) (l : Line) : Type 0 where
  pub shows : Bool
  pub spelled : line_of shows x ≡ l

-- line by line
abbrev pub AreLinesOf : List Exchange → List Line → Type 0
AreLinesOf [] [] = Unit {0}
AreLinesOf [] (l ∷ lines) = ⊥
AreLinesOf (x ∷ exchanges) [] = ⊥
AreLinesOf (x ∷ exchanges) (l ∷ lines) = IsLineOf x l × AreLinesOf exchanges lines

-- the bytes are the line, without its LF, of each exchange that has this line
abbrev pub IsCanonical : List ℕ → Line → Type 0
IsCanonical bytes l = (x : Exchange) → IsLineOf x l → exchange_line x ≡ bytes ++ 10 ∷ []

-- of a name, this is the view by which it was given
abbrev pub IsShown : ShownReply → List (ℕ × ℕ) → Type 0
IsShown (reply.Named name view) shown = shown ≡ view
IsShown r shown = Unit {0}
