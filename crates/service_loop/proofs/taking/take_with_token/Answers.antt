use Rattle.std.proofs.Common.{◌∙◌, sym}
use Rattle.model_asked.specs.Replies.{with_view}
use Rattle.service_loop.proofs.TakingLemmas.{asks_behind, got_shown}
use Rattle.service_loop.proofs.taking.take_with_token.Goals as goal

pub returns : goal.returns
returns g c =
    let asked = c.ask_token-token.ensures in
    let answer = c.say_taking-answer in
    let got = c.is_got-got.ensures ∙ sym (got_shown answer.result answer.new.view) in
    let t = asks_behind g.D.Service.may c.args.manner c.args.ahead c.args.identity _ _ _ (with_view answer.result answer.new.view) _ c.asks_token-asks.result c.is_got-got.result asked.0 got
    c.asks_token-asks.ensures answer.ensures asked.2 asked.3 in
    (t.0, asked.1, t.1, t.2)
