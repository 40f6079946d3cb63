-- a turn of the loop over a write-ahead hall and its journal
use Rattle.std.specs.Prelude.{◌≡◌, ◌≤◌, ℕ, List, ◌++◌, length, get_or, false, Option, Some, None}
use Rattle.std.specs.Io.KnownBytes.{Appends, Consumes}
use Rattle.service_journal.specs.DiskState.{DiskState}
use Rattle.text_player.specs.Progress.{Progress, after_bytes}
use Rattle.text_player.specs.Runs.{Runs}
use Rattle.text_player.specs.Says.{Spoke}
use Rattle.text_player.specs.Shared.{TurnLog, all_turns, turns_of}
use Rattle.text_player.specs.Texts.{replies_of}
use Rattle.text_player.specs.Turns.{Turn, exchanges}
use Rattle.service_hall.specs.Halls.{SatisfiesSpec}
use Rattle.service_hall.specs.HallState.{HallState}
use Rattle.service_hall.specs.Reading.{Serves, stored}
use Rattle.service_hall.specs.Serving.{accepted}
use Rattle.service_journal.specs.declared.journal.Journal.{Journal}
use Rattle.service_journal.specs.WriteAheadState.{WriteAheadState}
use Rattle.service_journal.specs.WriteAheads.{write_ahead_of}
use Rattle.service_journal.specs.Compactings.{KeepsWhenCompacted}
use Rattle.service_journal.specs.Journals.{KeepsAtAnyMoment, KeepsHandedOn, Stands}
use Rattle.service_loop.specs.Seats.{Seating}
use Rattle.service_host.specs.Kept.{MayCompactHall}
use Rattle.service_host.specs.declared.reading.Reading.{Reading}

-- these turns are those to the lines of one connection that an LF ended: behind what waited of its bytes others came, and a prefix of all
-- was taken by them. What was sent to it, and what waits to be, is what waited and the replies to them, where it is at no fault
pub record IsReported {C : Type 0} (on : Seating C) (turns : List Turn) (a d : C) : Type 0 where
  pub came : List ℕ
  pub taken : List ℕ
  pub rest : List ℕ
  pub sent : List ℕ
  pub gave : Consumes (on.left a) (on.left d) came
  pub parts : (on.buffers a).inbox ++ came ≡ taken ++ rest
  pub goes_on : (before : List Turn) (p : Progress) → Spoke before (on.buffers a).responder p → Spoke (before ++ turns) (on.buffers d).responder (after_bytes (on.buffers a).responder.kind p taken)
  pub gained : Appends (on.gone a) (on.gone d) sent
  pub text : (on.buffers d).broken ≡ false → sent ++ (on.buffers d).outbox ≡ (on.buffers a).outbox ++ replies_of turns

-- A write-ahead hall that was served for a while, turn after turn: its hall is lawful and of the same config, by the same rules, and header
-- and journal are the record of what was committed of it, and synced
pub record WasHosted {D : Type 0} (state : D → Option DiskState) (c : Reading WriteAheadState) (j' : Journal D) (u : Reading WriteAheadState) : Type 0 where
  pub lawful : SatisfiesSpec u.service.hall
  pub config : u.service.hall.config ≡ c.service.hall.config
  pub rules : u.rules ≡ c.rules
  pub few : u.service.reported ≤ length u.service.hall.history
  pub stands : Stands state j' u.service

-- All turns, in the one order of this log, lead the hall to `full`: each is answered there as is due, a plain read among them by the desk at its place.
-- The history gains the accepted events of all turns but plain reads and what the rules bar, and nothing else. Header and journal are its record and are synced, at
-- `committed`, and a crash before that leaves all that was committed before. Then the hall may be compacted, with header and journal its
-- record, before replies are sent; a crash meanwhile leaves the one record or the other, and one after it the whole history. Each
-- connection that stays gets the replies to its own turns
pub record IsHosted {C D : Type 0} (on : Seating C) (state : D → Option DiskState) (log : TurnLog) (j : Journal D) (c : Reading WriteAheadState) (seats : List (Option C)) (j' : Journal D) (u : Reading WriteAheadState) (seats' : List (Option C)) : Type 0 where
  pub full : HallState
  pub committed : Journal D
  pub config : full.config ≡ c.service.hall.config
  pub run : Runs (Serves c.rules) c.service.hall (all_turns log) full
  pub history : full.history ≡ c.service.hall.history ++ accepted (exchanges (stored c.rules (all_turns log)))
  pub before : KeepsAtAnyMoment state j committed (write_ahead_of full c.service.reported)
  pub between : KeepsWhenCompacted state committed j' (write_ahead_of full (length full.history))
  pub compacted : MayCompactHall full u.service.hall
  pub reported : u.service.reported ≡ length u.service.hall.history
  pub rules : u.rules ≡ c.rules
  pub stands : Stands state j' u.service
  pub after : (s : DiskState) → state j'.disk ≡ Some s → KeepsHandedOn u.service s s
  pub each : (i : ℕ) (a d : C) → get_or seats i None ≡ Some a → get_or seats' i None ≡ Some d → IsReported on (turns_of i log) a d
