-- services that admit what their rules do, and whose reads are logged or plain
use Rattle.std.specs.Prelude.{◌≡◌}
use Rattle.model_asked.specs.Replies.{ShownReply}
use Rattle.model_asked.specs.Requests.{Request}
use Rattle.service_hall.specs.HallState.{HallState}
use Rattle.service_hall.specs.Reading.{Serves}
use Rattle.service_journal.specs.WriteAheadState.{WriteAheadState}
use Rattle.service_host.specs.declared.reading.Reading.{Reading}

-- a hall that answers by rules
abbrev pub HallReads : Reading HallState → Request → ShownReply → Reading HallState → Type 0
HallReads w q r u = Serves w.rules w.service q r u.service × (u.rules ≡ w.rules)

-- a write-ahead hall answers as its hall does by rules, and hands nothing on
abbrev pub ReadingServes : Reading WriteAheadState → Request → ShownReply → Reading WriteAheadState → Type 0
ReadingServes w q r u = Serves w.rules w.service.hall q r u.service.hall × (u.service.reported ≡ w.service.reported) × (u.rules ≡ w.rules)
