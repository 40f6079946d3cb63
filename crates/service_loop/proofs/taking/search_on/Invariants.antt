use Rattle.std.proofs.Common.{◌-◌, ◌≤◌}
use Rattle.service_loop.proofs.TakingLemmas.{SearchedOn}
use Rattle.service_loop.proofs.taking.search_on.Given as goal

abbrev pub invariant-loop-said : goal.invariant-loop-said
invariant-loop-said g l = record {
  so : SearchedOn g.D.Service.may l.wide l.identity l.fn.service l.service l.said;
  few : l.said ≤ l.count;
}

abbrev pub decreases-loop-said : goal.decreases-loop-said
decreases-loop-said g l = l.count - l.said
