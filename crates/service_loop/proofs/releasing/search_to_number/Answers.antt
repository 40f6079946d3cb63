use Rattle.std.proofs.Common.{[], ◌∙◌, arith, sym}
use Rattle.service_loop.proofs.AttendedLemmas.{hears_then}
use Rattle.service_loop.proofs.cited.ReleaseLemmas.{hears_search, searched_last, searched_more}
use Rattle.service_loop.proofs.releasing.search_to_number.Goals as goal

pub loop-tries-preserved : goal.loop-tries-preserved
loop-tries-preserved g c = record {
  run = searched_more c.args.wide g.D.Service.may c.args.identity c.loop-tries._tries c.searching.result c.apply-reply.result c.apply-reply.new.view _ _ _ c.searching.ensures c.loop-tries.invariant.run c.apply-reply.ensures.0 (sym c.is_missed.ensures ∙ c.if-not-is_missed.false);
  heard = hears_then [] [] _ _ _ c.loop-tries.invariant.heard (hears_search c.args.wide _ c.args.identity c.searching.result _ _ _ c.searching.ensures c.apply-reply.ensures.1);
}

pub returns-then-not-is_missed : goal.returns-then-not-is_missed
returns-then-not-is_missed g c =
    let below = c.loop-tries-test.true in
    let most = c.most_said-tries-end.ensures.exact in
    let said = searched_last c.args.wide g.D.Service.may c.args.identity c.loop-tries._tries c.searching.result c.apply-reply.result c.apply-reply.new.view _ _ _ c.searching.ensures (omega (arith, below, most)) c.loop-tries.invariant.run c.apply-reply.ensures.0
    (sym c.is_missed.ensures ∙ c.if-not-is_missed.true) in
    (said.0, said.1, said.2, hears_then [] [] _ _ _ c.loop-tries.invariant.heard (hears_search c.args.wide _ c.args.identity c.searching.result _ _ _ c.searching.ensures c.apply-reply.ensures.1))
