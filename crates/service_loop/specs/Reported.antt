-- which lines of a connection go to a persister before a turn takes them
use Rattle.std.specs.Prelude.{◌≡◌, ℕ, ◌<◌, ◌||◌, nat_lt, ◌≤◌, if◌then◌else◌, Bool, true, false, List, [], ◌∷◌, ◌++◌, length, get_or, take, Option, Result, Ok, Err}
use Rattle.std.specs.Option.{option_map_or}
use Rattle.model_asked.specs.declared.bad.Bad.{Bad}
use Rattle.model_asked.specs.declared.command.Command.{Command}
use Rattle.model_asked.specs.declared.command.Command.TheVariants as command
use Rattle.model_asked.specs.declared.kind.WorldKind.{WorldKind}
use Rattle.text_lines.specs.Lines.{rest_of, whole_lines, with_ends}
use Rattle.text_lines.specs.Meaning.{meaning}
use Rattle.text_player.specs.Shared.{numbered, unnumbered}
use Rattle.service_loop.specs.Asking.{none_own}
use Rattle.service_loop.specs.BuffersState.{BuffersState}
use Rattle.service_loop.specs.declared.peek.Peek.{Peek}

-- a line that means this asks the service for something
abbrev pub is_request : Result Command Bad → Bool
is_request (Err bad) = false
is_request (Ok (command.Event e)) = true
is_request (Ok (command.Owner n)) = true
is_request (Ok command.Quit) = false

-- the lines that do
abbrev pub requests : WorldKind → List (List ℕ) → List (List ℕ)
requests kind [] = []
requests kind (l ∷ ls) = if is_request (meaning kind l) then l ∷ requests kind ls else requests kind ls

-- where a line that is longer than any request was begun before, the first of these is its end, and asks for nothing
abbrev pub behind : Bool → List (List ℕ) → List (List ℕ)
behind false ls = ls
behind true [] = []
behind true (l ∷ ls) = ls

-- the requests among the lines of these bytes: what no LF ends is none
abbrev pub requests_in : WorldKind → Bool → List ℕ → List (List ℕ)
requests_in kind long bytes = requests kind (behind long (whole_lines bytes))

-- So many of the bytes were looked at, up to where a line ends: the requests among their lines stand behind what stood in the batch, and are
-- noted; none of the lines is one that the server answers by itself; and whether the next line is the end of a longer one
pub record HasPeeked (kind : WorldKind) (long asks : Bool) (batch bytes : List ℕ) (at : ℕ) (long' asks' : Bool) (batch' : List ℕ) : Type 0 where
  pub inside : at ≤ length bytes
  pub whole : rest_of (take at bytes) ≡ []
  pub added : batch' ≡ batch ++ with_ends (requests_in kind long (take at bytes))
  pub own : none_own (behind long (whole_lines (take at bytes))) ≡ true
  pub asked : asks' ≡ false → (asks ≡ false) × (requests_in kind long (take at bytes) ≡ [])
  pub next : (line : List ℕ) → behind long (whole_lines (take at bytes) ++ line ∷ []) ≡ behind long (whole_lines (take at bytes)) ++ behind long' (line ∷ [])

-- what was looked at of a connection, if anything was: so many bytes of what waits, and whether the end of what comes is behind them
abbrev pub bytes_of : Option Peek → ℕ
bytes_of peek = option_map_or (λ (p : Peek). p.bytes) peek 0

abbrev pub ends_of : Option Peek → Bool
ends_of peek = option_map_or (λ (p : Peek). p.ends) peek false

-- whether a line that is longer than any request was begun before; and whether lines of it are reported
abbrev pub long_of : Option Peek → Bool
long_of peek = option_map_or (λ (p : Peek). p.long) peek false

abbrev pub asks_of : Option Peek → Bool
asks_of peek = option_map_or (λ (p : Peek). p.asks) peek false

-- whether a line of it asks who holds numbers
abbrev pub holds_of : Option Peek → Bool
holds_of peek = option_map_or (λ (p : Peek). p.holds) peek false

-- whether more than it takes could be taken
abbrev pub more_of : Option Peek → Bool
more_of peek = option_map_or (λ (p : Peek). p.more) peek false

-- it takes something, or more than it takes could be taken
abbrev pub takes_any : Peek → Bool
takes_any peek = peek.more || peek.ends || nat_lt 0 peek.bytes

-- whether the end of what comes was read, behind all that waits
abbrev pub at_end_of : Option Peek → Bool
at_end_of peek = option_map_or (λ (p : Peek). p.at_end) peek false

-- no more and no less was looked at, and an end that was read stays
abbrev pub IsSameGrant : Option Peek → Option Peek → Type 0
IsSameGrant a b = (bytes_of b ≡ bytes_of a) × (ends_of b ≡ ends_of a) × (long_of b ≡ long_of a) × (asks_of b ≡ asks_of a) × (at_end_of a ≡ true → at_end_of b ≡ true)

-- the requests among what was looked at; there is none once `quit` was answered
abbrev pub requests_seen : WorldKind → BuffersState → Option Peek → List (List ℕ)
requests_seen kind s peek = if s.responder.over then [] else requests_in kind (long_of peek) (take (bytes_of peek) s.inbox)

-- the lines that were looked at; there is none once `quit` was answered
abbrev pub lines_seen : BuffersState → Option Peek → List (List ℕ)
lines_seen s peek = if s.responder.over then [] else behind (long_of peek) (whole_lines (take (bytes_of peek) s.inbox))

-- lines, each with the seat whose it is: those of one seat, and all
abbrev pub SeatLines : Type 0
SeatLines = List (ℕ × List ℕ)

abbrev pub lines_of : ℕ → SeatLines → List (List ℕ)
lines_of i reported = numbered i reported

abbrev pub all_lines : SeatLines → List (List ℕ)
all_lines reported = unnumbered reported

-- a list ends with these
abbrev pub EndsWith : List (List ℕ) → List (List ℕ) → Type 0
EndsWith all ls = (front : List (List ℕ)) × (all ≡ front ++ ls)

-- a key is among these
abbrev pub IsAmong : ℕ → List ℕ → Type 0
IsAmong key keys = (j : ℕ) × (j < length keys) × (get_or keys j 0 ≡ key)
