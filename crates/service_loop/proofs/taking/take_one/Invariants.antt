use Rattle.std.proofs.Common.{◌-◌, ◌≤◌}
use Rattle.model_asked.specs.Replies.{with_view}
use Rattle.service_loop.proofs.TakingLemmas.{Searching}
use Rattle.service_loop.proofs.taking.take_one.Given as goal

abbrev pub invariant-loop-searches : goal.invariant-loop-searches
invariant-loop-searches g l = record {
  so : Searching g.D.Service.may l.wide l.identity l.fn.service l.service (with_view l.answer l.view) l.searches;
  few : l.searches ≤ l.most;
}

abbrev pub decreases-loop-searches : goal.decreases-loop-searches
decreases-loop-searches g l = l.most - l.searches
