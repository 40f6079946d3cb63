-- The line was prefetched, answered and kept.
use Rattle.std.proofs.Common.{Ok, ap}
use Rattle.service_host.proofs.widening.ask_to_widen.Goals as goal

pub returns-in_ok-persist-in-Known : goal.returns-in_ok-persist-in-Known
returns-in_ok-persist-in-Known g c = record {
  mid = _;
  known = _;
  told = _;
  view = _;
  prefetched = c.in_ok-prefetch.ensures.known (ap Ok c.in-Known.is);
  answered = c.apply-reply.ensures;
  kept = c.in_ok-persist-in-Known.ensures;
}
