use Rattle.std.proofs.Common.{[], ◌∷◌, refl}
use Rattle.model_asked.specs.Replies.{with_view}
use Rattle.service_loop.specs.Tokens.{raised}
use Rattle.service_loop.proofs.TakingLemmas.{asks_none, asks_other, asks_some}
use Rattle.service_loop.proofs.taking.ask_token.Goals as goal

pub returns-then-not-asks : goal.returns-then-not-asks
returns-then-not-asks g c = ([], [], refl, asks_none c.args.asks c.args.got c.args.identity c.if-not-asks.true)

pub returns-then-got : goal.returns-then-got
returns-then-got g c =
    let r = with_view c.apply-reply.result c.apply-reply.new.view in
    (raised c.args.identity r ∷ [], c.apply-reply.new.view, (c.apply-reply.new.self, c.apply-reply.ensures, refl), asks_some c.args.asks c.args.got c.args.identity r c.if-not-asks.false c.if-got.true)

pub returns-else-got : goal.returns-else-got
returns-else-got g c =
    let r = with_view c.apply-reply.result c.apply-reply.new.view in
    (raised c.args.identity r ∷ [], c.apply-reply.new.view, (c.apply-reply.new.self, c.apply-reply.ensures, refl), asks_other c.args.asks c.args.got c.args.identity r c.if-not-asks.false c.if-got.false)
