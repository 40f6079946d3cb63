use Rattle.std.proofs.Common.{◌≡◌, ◌≤◌, ◌-◌, [], length, take}
use Rattle.text_lines.specs.Lines.{rest_of, whole_lines}
use Rattle.service_loop.specs.Attending.{Hears}
use Rattle.service_loop.specs.Losing.{lost_acts}
use Rattle.service_loop.proofs.losing.note_lost.Given as goal

-- so many bytes are whole lines, and what they say is noted
abbrev pub invariant-loop-from : goal.invariant-loop-from
invariant-loop-from g l = record {
  inside : l.from ≤ length l.lines;
  none : rest_of (take l.from l.lines) ≡ [];
  heard : Hears (lost_acts l.kind l.fn.service.stays (whole_lines (take l.from l.lines))) l.fn.service l.service;
  same : l.service.service ≡ l.fn.service.service;
}

abbrev pub decreases-loop-from : goal.decreases-loop-from
decreases-loop-from g l = length l.lines - l.from
