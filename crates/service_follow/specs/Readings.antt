-- lines that ask for reads alone, and what a hall says to them
use Rattle.std.specs.Prelude.{◌≡◌, ◌&&◌, ℕ, Bool, true, false, List, [], ◌∷◌, ◌++◌, map, Result, Ok, Err}
use Rattle.std.specs.List.{list_all}
use Rattle.model_asked.specs.declared.bad.Bad.{Bad}
use Rattle.model_asked.specs.declared.command.Command.{Command}
use Rattle.model_asked.specs.declared.command.Command.TheVariants as command
use Rattle.model_asked.specs.declared.event.Event.{Event}
use Rattle.model_asked.specs.declared.event.Event.TheVariants.{Get}
use Rattle.model_asked.specs.declared.kind.WorldKind.{WorldKind}
use Rattle.model_asked.specs.Replies.{ShownReply}
use Rattle.model_asked.specs.Requests.{Request}
use Rattle.model_asked.specs.Requests.Request.{Take, OwnerOf}
use Rattle.text_worlds.specs.desk.Desk.{desk_reply, owner_reply}
use Rattle.text_player.specs.Progress.{after_bytes, at_start}
use Rattle.service_hall.specs.Halls.{desk_of}
use Rattle.service_hall.specs.HallState.{HallState}
use Rattle.service_follow.specs.AskingState.{AskingState}
use Rattle.service_follow.specs.declared.reading.Read.{Read}
use Rattle.service_follow.specs.declared.reading.Read.TheVariants as read

-- the requests among what lines ask for: `quit` and bad lines ask for nothing
abbrev pub requests_of : List (Result Command Bad) → List Request
requests_of [] = []
requests_of (Ok (command.Event e) ∷ ms) = Take e ∷ requests_of ms
requests_of (Ok (command.Owner n) ∷ ms) = OwnerOf n ∷ requests_of ms
requests_of (Ok command.Quit ∷ ms) = requests_of ms
requests_of (Err bad ∷ ms) = requests_of ms

-- the requests of lines, in order, up to `quit`
abbrev pub requests_in : WorldKind → List ℕ → List Request
requests_in kind lines = requests_of (after_bytes kind at_start lines).asked

-- a read: it changes nothing of a desk
abbrev pub is_read : Event → Bool
is_read (Get id) = true
is_read e = false

-- a request changes nothing of a desk: a `get`, or a question for the owner of a name
abbrev pub is_reading : Request → Bool
is_reading (Take e) = is_read e
is_reading (OwnerOf n) = true

-- lines ask for reads alone
abbrev pub are_reads : WorldKind → List ℕ → Bool
are_reads kind lines = list_all is_reading (requests_in kind lines)

-- the request of a read
abbrev pub requested : Read → Request
requested (read.Get id) = Take (Get id)
requested (read.Owner n) = OwnerOf n

-- what the desk of a hall says to a read
abbrev pub read_reply : HallState → Request → ShownReply
read_reply h (Take e) = desk_reply (desk_of h) e
read_reply h (OwnerOf n) = owner_reply (desk_of h) n

-- each request, with what the desk of a hall says to it as a read
abbrev pub read_by : HallState → List Request → List (Request × ShownReply)
read_by h qs = map (λ q. (q, read_reply h q)) qs

-- a read is noted, and it is noted where something else is asked for; no memory was refused
pub record IsAsked (w : AskingState) (q : Request) (u : AskingState) : Type 0 where
  pub was_well : w.lost ≡ false
  pub only : u.only ≡ w.only && is_reading q
  pub asked : u.only ≡ true → u.asked ≡ w.asked ++ q ∷ []

-- but where memory was refused
abbrev pub AskingSays : AskingState → Request → ShownReply → AskingState → Type 0
AskingSays w q r u = u.lost ≡ false → IsAsked w q u
