use Rattle.std.proofs.Common.{◌≡◌, [], take}
use Rattle.std.specs.Io.KnownBytes.{Appends}
use Rattle.service_host.specs.Exports.{command_lines}
use Rattle.service_host.proofs.export.write_events.Given as goal

abbrev pub invariant-loop-place : goal.invariant-loop-place
invariant-loop-place g l = record {
  empty : l.line ≡ [];
  written : Appends (g.W.Write.contents l.fn.output) (g.W.Write.contents l.output) (command_lines (take l.place l.hall.history));
}
