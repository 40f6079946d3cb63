use Rattle.std.proofs.Common.{◌≡◌, ◌≤◌}
use Rattle.service_loop.proofs.hosting.Hosting.accept_all.Given as goal

abbrev pub invariant-loop : goal.invariant-loop
invariant-loop l = record {
  options : l.self.options ≡ l.fn.self.options;
  few : l.fn.self.connections.«open» ≤ l.fn.self.options.clients → l.self.connections.«open» ≤ l.fn.self.options.clients;
}
