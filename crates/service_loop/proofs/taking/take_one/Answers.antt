use Rattle.std.proofs.Common.{◌∙◌, inl, inr, sym, arith}
use Rattle.model_asked.specs.Replies.{with_view}
use Rattle.service_loop.proofs.TakingLemmas.{searching_more, took_one, wants_shown}
use Rattle.service_loop.proofs.taking.take_one.Goals as goal

pub loop-searches-preserved : goal.loop-searches-preserved
loop-searches-preserved g c = record {
  so = searching_more g.D.Service.may c.args.wide c.args.identity _ _ _ (with_view c.loop-searches.answer c.loop-searches.view) _ c.loop-searches.searches c.searching.result c.searching.ensures c.loop-searches.invariant.so
      (wants_shown c.loop-searches.answer c.loop-searches.view ∙ sym c.wants_search.ensures ∙ c.if-wants_search.true) c.apply-answer-in-loop-searches.ensures;
  few = omega (arith, c.loop-searches-test.true);
}

pub returns-else-wants_search : goal.returns-else-wants_search
returns-else-wants_search g c =
    let few = c.loop-searches.invariant.few in
    let most = c.most_said-most.ensures.exact in
    took_one g.D.Service.may c.args.wide c.args.identity _ _ (with_view c.loop-searches.answer c.loop-searches.view) c.loop-searches.searches c.loop-searches.invariant.so
    (inl (wants_shown c.loop-searches.answer c.loop-searches.view ∙ sym c.wants_search.ensures ∙ c.if-wants_search.false)) (omega (arith, few, most))

pub returns-after-loop-searches : goal.returns-after-loop-searches
returns-after-loop-searches g c =
    let few = c.loop-searches.invariant.few in
    let most = c.most_said-most.ensures.exact in
    took_one g.D.Service.may c.args.wide c.args.identity _ _ (with_view c.loop-searches.answer c.loop-searches.view) c.loop-searches.searches c.loop-searches.invariant.so
    (inr (omega (arith, few, most, c.loop-searches-test.false))) (omega (arith, few, most))
