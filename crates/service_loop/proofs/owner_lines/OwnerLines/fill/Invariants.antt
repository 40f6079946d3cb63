use Rattle.std.proofs.Common.{◌≡◌}
use Rattle.service_loop.specs.OwnerReads.{Fills}
use Rattle.service_loop.proofs.owner_lines.OwnerLines.fill.Given as goal

-- what was read so far is on its way
abbrev pub invariant-loop : goal.invariant-loop
invariant-loop g l = record {
  lines : Fills (g.S.Stream.left l.fn.stream) (g.S.Stream.left l.stream) l.fn.self l.self;
  same : g.S.Stream.gone l.stream ≡ g.S.Stream.gone l.fn.stream;
}
