use Rattle.std.proofs.Common.{arith}
use Rattle.service_loop.proofs.TakingLemmas.{searched_on}
use Rattle.service_loop.proofs.taking.search_on.Goals as goal

pub loop-said-preserved : goal.loop-said-preserved
loop-said-preserved g c = record {
  so = searched_on g.D.Service.may c.args.wide c.args.identity _ _ _ _ c.loop-said.said c.searching.result c.searching.ensures c.loop-said.invariant.so c.apply.ensures;
  few = omega (arith, c.loop-said-test.true);
}
