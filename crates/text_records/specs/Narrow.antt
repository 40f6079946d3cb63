-- the numbers that a record can write, and those that are read of one
use Rattle.std.specs.Prelude.{◌≡◌, true, ◌≢◌, ℕ, ◌^◌, ◌<◌, ◌≤◌, List, [], ◌∷◌, length, Result, Ok}
use Rattle.model_steps.specs.View.{IsAbove, IsRising}
use Rattle.model_asked.specs.declared.event.Event.{Event}
use Rattle.model_asked.specs.declared.event.Event.TheVariants.{Begin, Step, Enter, Probe, Seek, Leave, Put, Get, Widen}
use Rattle.model_asked.specs.Config.{is_wide}
use Rattle.model_asked.specs.declared.kind.WorldKind.{WorldKind}
use Rattle.model_asked.specs.Replies.{ShownReply}
use Rattle.model_asked.specs.declared.reply.Reply.TheVariants as reply
use Rattle.model_asked.specs.declared.bad.Bad.{Bad}
use Rattle.model_asked.specs.declared.command.Command.{Command}
use Rattle.model_asked.specs.declared.command.Command.TheVariants as command
use Rattle.model_asked.specs.declared.exchange.Exchange.{Exchange}
use Rattle.text_records.specs.declared.reported.Reported.{Reported}
use Rattle.text_records.specs.declared.reported.Reported.TheVariants as reported

-- the world knows the event, and its numbers are below 2^64
abbrev pub IsNarrowEvent : WorldKind → Event → Type 0
IsNarrowEvent kind (Begin p) = p < 2 ^ 64
IsNarrowEvent kind (Step p) = p < 2 ^ 64
IsNarrowEvent kind (Enter p) = p < 2 ^ 64
IsNarrowEvent kind (Probe p) = p < 2 ^ 64
IsNarrowEvent kind (Seek p) = (is_wide kind ≡ true) × (p < 2 ^ 64)
IsNarrowEvent kind (Leave p) = p < 2 ^ 64
IsNarrowEvent kind (Put p value) = (p < 2 ^ 64) × (value < 2 ^ 64)
IsNarrowEvent kind (Get p) = p < 2 ^ 64
IsNarrowEvent kind (Widen more) = more < 2 ^ 64

-- and those of pairs
abbrev pub AreNarrow : List (ℕ × ℕ) → Type 0
AreNarrow [] = Unit {0}
AreNarrow (pair ∷ more) = (pair.0 < 2 ^ 64) × (pair.1 < 2 ^ 64) × AreNarrow more

-- a view that a line can show: some pairs, at most 64, by rising identity from 1 on
pub record IsShort (view : List (ℕ × ℕ)) : Type 0 where
  pub some : view ≢ []
  pub few : length view ≤ 64
  pub above : IsAbove 0 view
  pub rising : IsRising view
  pub narrow : AreNarrow view

-- a reply that an event may get, with numbers that a record can write
abbrev pub IsNarrowReply : ShownReply → Type 0
IsNarrowReply (reply.Place place) = place < 2 ^ 128
IsNarrowReply (reply.Proposed number) = number < 2 ^ 64
IsNarrowReply (reply.Saw view) = IsShort view
IsNarrowReply (reply.Named name view) = (name < 2 ^ 64) × IsShort view
IsNarrowReply (reply.Got number) = number < 2 ^ 64
IsNarrowReply (reply.Left number) = number < 2 ^ 64
IsNarrowReply (reply.Value value) = value < 2 ^ 64
IsNarrowReply (reply.Owner owner) = ⊥
IsNarrowReply r = Unit {0}

-- exchanges of a world, with numbers that a record can write
abbrev pub AreNarrowExchanges : WorldKind → List Exchange → Type 0
AreNarrowExchanges kind [] = Unit {0}
AreNarrowExchanges kind (x ∷ xs) = IsNarrowEvent kind x.event × IsNarrowReply x.reply × AreNarrowExchanges kind xs

-- an event that is asked is one of the world, with numbers below 2^64
abbrev pub IsNarrow : WorldKind → Result Command Bad → Type 0
IsNarrow kind (Ok (command.Event e)) = IsNarrowEvent kind e
IsNarrow kind r = Unit {0}

-- a place has at most 128 bits
abbrev pub FitsReported : Reported → Type 0
FitsReported (reported.Place place) = place < 2 ^ 128
FitsReported t = Unit {0}
