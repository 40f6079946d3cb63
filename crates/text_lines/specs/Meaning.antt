-- the meaning of a line: a command, or why it is none
use Rattle.std.specs.Prelude.{ℕ, ◌+◌, ◌*◌, ◌-◌, ◌^◌, ◌==◌, nat_lt, nat_le, if◌then◌else◌, Bool, true, false, ◌&&◌, not, List, [], ◌∷◌, length, Option, Some, None, Result, Ok, Err, codes}
use Rattle.std.specs.List.{list_all}
use Rattle.model_asked.specs.Config.{gives_names, is_wide}
use Rattle.model_asked.specs.declared.bad.Bad.{Bad}
use Rattle.model_asked.specs.declared.bad.Bad.TheVariants.{TooLong, NotPrintable, UnknownWord, WrongCount, BadNumber}
use Rattle.model_asked.specs.declared.event.Event.{Event}
use Rattle.model_asked.specs.declared.event.Event.TheVariants.{Begin, Step, Enter, Probe, Seek, Leave, Put, Get, Widen}
use Rattle.model_asked.specs.declared.command.Command.{Command}
use Rattle.model_asked.specs.declared.command.Command.TheVariants as command
use Rattle.model_asked.specs.declared.kind.WorldKind.{WorldKind}
use Rattle.text_lines.specs.Lines.{pieces_from}

-- the words of a line: it is cut at each single space, and nothing else is trimmed
abbrev pub words : List ℕ → List (List ℕ)
words line = pieces_from 32 [] line

-- the bytes 0x20 to 0x7E
abbrev pub is_printable : ℕ → Bool
is_printable b = nat_le 32 b && nat_le b 126

abbrev pub is_digit : ℕ → Bool
is_digit b = nat_le 48 b && nat_le b 57

-- the number that digits write, after what was written before them
abbrev pub decimal_from : ℕ → List ℕ → ℕ
decimal_from n [] = n
decimal_from n (b ∷ bs) = decimal_from (n * 10 + (b - 48)) bs

abbrev pub if_below : ℕ → ℕ → Option ℕ
if_below bound n = if nat_lt n bound then Some n else None

-- the number that a word writes: `0`, or digits without a leading zero, below this bound
abbrev pub number_below : ℕ → List ℕ → Option ℕ
number_below bound [] = None
number_below bound (b ∷ bs) =
    if list_all is_digit (b ∷ bs) then (if b == 48 then (if length bs == 0 then Some 0 else None) else if_below bound (decimal_from 0 (b ∷ bs)))
    else None

-- the same, below 2^64
abbrev pub number_in : List ℕ → Option ℕ
number_in word = number_below (2 ^ 64) word

-- the same bytes
abbrev pub same_bytes : List ℕ → List ℕ → Bool
same_bytes [] [] = true
same_bytes [] (c ∷ cs) = false
same_bytes (b ∷ bs) [] = false
same_bytes (b ∷ bs) (c ∷ cs) = (b == c) && same_bytes bs cs

abbrev pub command_if : (ℕ → Command) → Option ℕ → Result Command Bad
command_if command None = Err BadNumber
command_if command (Some n) = Ok (command n)

-- a command of one number
abbrev pub command_of_one : (ℕ → Command) → List (List ℕ) → Result Command Bad
command_of_one command [] = Err WrongCount
command_of_one command (word ∷ []) = command_if command (number_in word)
command_of_one command (word ∷ other ∷ more) = Err WrongCount

abbrev pub event_of_one : (ℕ → Event) → List (List ℕ) → Result Command Bad
event_of_one event others = command_of_one (λ n. command.Event (event n)) others

abbrev pub event_if_both : (ℕ → ℕ → Event) → Option ℕ → Option ℕ → Result Command Bad
event_if_both event None value = Err BadNumber
event_if_both event (Some id) None = Err BadNumber
event_if_both event (Some id) (Some value) = Ok (command.Event (event id value))

-- an event of two numbers
abbrev pub event_of_two : (ℕ → ℕ → Event) → List (List ℕ) → Result Command Bad
event_of_two event [] = Err WrongCount
event_of_two event (word ∷ []) = Err WrongCount
event_of_two event (word ∷ other ∷ []) = event_if_both event (number_in word) (number_in other)
event_of_two event (word ∷ other ∷ third ∷ more) = Err WrongCount

abbrev pub quit_of : List (List ℕ) → Result Command Bad
quit_of [] = Ok command.Quit
quit_of (word ∷ more) = Err WrongCount

-- `seek`, which only the wide world knows
abbrev pub seek_of : Bool → List (List ℕ) → Result Command Bad
seek_of true others = event_of_one Seek others
seek_of false others = Err UnknownWord

-- the words of slots, and those that ask for more numbers or for an owner; and `seek`
abbrev pub slot_command_of : WorldKind → List ℕ → List (List ℕ) → Result Command Bad
slot_command_of world word others =
    if same_bytes word (codes "put") then event_of_two Put others
    else if same_bytes word (codes "get") then event_of_one Get others
    else if same_bytes word (codes "widen") then event_of_one Widen others
    else if same_bytes word (codes "owner") then command_of_one command.Owner others
    else if same_bytes word (codes "seek") then seek_of (is_wide world) others
    else Err UnknownWord

-- the words that only a desk knows
abbrev pub desk_command_of : WorldKind → List ℕ → List (List ℕ) → Result Command Bad
desk_command_of world word others =
    if same_bytes word (codes "enter") then event_of_one Enter others
    else if same_bytes word (codes "probe") then event_of_one Probe others
    else if same_bytes word (codes "leave") then event_of_one Leave others
    else slot_command_of world word others

-- by the first word, and the others
abbrev pub command_of : WorldKind → List ℕ → List (List ℕ) → Result Command Bad
command_of world word others =
    if same_bytes word (codes "begin") then event_of_one Begin others
    else if same_bytes word (codes "step") then event_of_one Step others
    else if same_bytes word (codes "quit") then quit_of others
    else if gives_names world then desk_command_of world word others
    else Err UnknownWord

abbrev pub command_in : WorldKind → List (List ℕ) → Result Command Bad
command_in world [] = Err UnknownWord
command_in world (word ∷ others) = command_of world word others

-- what a line means: the first of the reasons that fits, or its command
abbrev pub meaning : WorldKind → List ℕ → Result Command Bad
meaning world line =
    if nat_lt 100 (length line) then Err TooLong
    else if not (list_all is_printable line) then Err NotPrintable
    else command_in world (words line)
