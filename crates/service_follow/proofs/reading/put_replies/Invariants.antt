use Rattle.std.proofs.Common.{◌≡◌, map, take}
use Rattle.service_follow.specs.Readings.{read_by, requested}
use Rattle.service_follow.specs.Said.{said_by}
use Rattle.service_follow.proofs.reading.put_replies.Given as goal

abbrev pub invariant-loop-read : goal.invariant-loop-read
invariant-loop-read l = map said_by l.notes.items ≡ read_by l.hall (map requested (take l.read-index l.reads))
