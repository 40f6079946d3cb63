use Rattle.std.proofs.Common.{◌≤◌, length}
use Rattle.service_log.proofs.etcd.exchange.receive.Given as goal

-- what was not read yet begins inside
abbrev pub invariant-loop : goal.invariant-loop
invariant-loop g l = record {
  inside : l.from ≤ length l.input.items;
}
