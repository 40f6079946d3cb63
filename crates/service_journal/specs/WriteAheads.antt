-- the lines of a write-ahead hall, and what it may answer
use Rattle.std.specs.Prelude.{◌≡◌, ℕ, List, take, drop, flat_map}
use Rattle.model_asked.specs.Replies.{ShownReply}
use Rattle.model_asked.specs.Requests.{Request}
use Rattle.text_player.specs.Records.{exchange_line}
use Rattle.text_checker.specs.Migrated.{record_text}
use Rattle.service_hall.specs.Halls.{hall_of}
use Rattle.service_hall.specs.HallState.{HallState}
use Rattle.service_hall.specs.Serving.{HallServes}
use Rattle.service_journal.specs.WriteAheadState.{WriteAheadState}

-- the record of a hall's history: a header, and a line for each event with its reply
abbrev pub record_of_hall : HallState → List ℕ
record_of_hall h = record_text h.config h.history

-- the hall as it was after its first events, so many
abbrev pub hall_after_first : ℕ → HallState → HallState
hall_after_first n h = hall_of h.config (take n h.history)

-- the lines that wait: those of the events that were not committed
abbrev pub waiting_of : WriteAheadState → List ℕ
waiting_of c = flat_map exchange_line (drop c.reported c.hall.history)

-- what was committed: the record of the hall as it was then
abbrev pub reported_record : WriteAheadState → List ℕ
reported_record c = record_of_hall (hall_after_first c.reported c.hall)

-- the write-ahead hall of this hall of whose events so many were committed
abbrev pub write_ahead_of : HallState → ℕ → WriteAheadState
write_ahead_of h reported = record { hall = h; reported = reported }

-- it answers as its hall does, and hands nothing on
abbrev pub WriteAheadServes : WriteAheadState → Request → ShownReply → WriteAheadState → Type 0
WriteAheadServes c q r u = HallServes c.hall q r u.hall × (u.reported ≡ c.reported)
