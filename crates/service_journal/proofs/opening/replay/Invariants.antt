use Rattle.std.proofs.Common.{◌≡◌, ◌++◌, flat_map, length}
use Rattle.text_player.specs.Records.{exchange_line}
use Rattle.service_journal.proofs.opening.replay.Given as goal

abbrev pub invariant-loop-left : goal.invariant-loop-left
invariant-loop-left l = (l.hall.config ≡ l.fn.hall.config) × (l.fn.lines ≡ flat_map exchange_line l.hall.history ++ l.left)

abbrev pub decreases-loop-left : goal.decreases-loop-left
decreases-loop-left l = length l.left
