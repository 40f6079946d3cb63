use Rattle.std.proofs.Common.{◌≡◌, ◌-◌, length}
use Rattle.service_loop.specs.Reported.{HasPeeked}
use Rattle.service_loop.proofs.peek.Peek.peek_lines.Given as goal

abbrev pub invariant-loop-rest : goal.invariant-loop-rest
invariant-loop-rest g l = record {
  peeked : HasPeeked l.fn.limits.kind l.fn.self.long l.fn.self.asks l.fn.batch.items l.bytes l.self.bytes l.self.goes_on l.self.asks l.batch.items;
  rest : l.self ≡ record l.fn.self { bytes = l.self.bytes; asks = l.self.asks; goes_on = l.self.goes_on; holds = l.self.holds };
  limits : l.limits ≡ record l.fn.limits { said = l.limits.said };
}

abbrev pub decreases-loop-rest : goal.decreases-loop-rest
decreases-loop-rest g l = length l.bytes - l.self.bytes
