use Rattle.std.proofs.Common.{◌≡◌, ◌++◌, Some, List, ℕ, sym, ap, ◌∙◌, slice_get}
use Rattle.service_journal.proofs.Common.{ShownReply, with_view, exchange, exchange_line, record_of_hall, hall_after_first}
use Rattle.service_journal.proofs.Compacts.{one_line}
use Rattle.service_journal.proofs.record.put_event.Goals as goal

pub returns : goal.returns
returns c = λ before.
    let event = c.in-Some.exchange.event in
    let shown = with_view c.shorten-reply.result c.shorten-reply.new.view in
    let first = record_of_hall (hall_after_first c.args.place c.args.hall.now) in
    let at : slice_get c.args.hall.now.history c.args.place ≡ Some c.in-Some.exchange = sym c.in-Some.ensures in
    let line : exchange_line (exchange event shown) ≡ exchange_line c.in-Some.exchange = ap (λ (r : ShownReply). exchange_line (exchange event r)) c.shorten-reply.ensures in
    c.put_line.ensures ∙ ap (λ (l : List ℕ). l ++ exchange_line (exchange event shown)) (c.reserve.ensures.items ∙ before) ∙ ap (λ (l : List ℕ). first ++ l) line
    ∙ one_line c.args.hall.now c.args.place c.in-Some.exchange at
