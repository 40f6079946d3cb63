use Rattle.model_asked.specs.Replies.{with_view}
use Rattle.service_loop.proofs.TakingLemmas.{says_ahead}
use Rattle.service_loop.proofs.taking.say_taking.Goals as goal

pub returns-then-ahead : goal.returns-then-ahead
returns-then-ahead g c =
    let took = c.take_one-took in
    says_ahead g.D.Service.may c.args.wide c.args.identity c.args.ahead _ _ _ (with_view took.result.answer took.new.view) took.result.searches c.most_said.result c.if-ahead.true c.most_said.ensures.exact
    took.ensures c.search_on.ensures
