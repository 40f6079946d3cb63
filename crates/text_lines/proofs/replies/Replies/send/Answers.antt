use Rattle.std.proofs.Common.{rules, ◌≡◌, Err}
use Rattle.text_lines.proofs.UnderWayLemmas.{sent_all, sent_part}
use Rattle.text_lines.proofs.replies.Replies.send.Goals as goal

pub returns-in_err-put_all-clause-within : goal.returns-in_err-put_all-clause-within
returns-in_err-put_all-clause-within g c =
    let fault : c.from_residual.result ≡ Err c.in_err-put_all.field-0.0 = search rules in
    rw fault (λ text rest before way.
    sent_part text before (g.W.Write.contents c.args.writer.now) (g.W.Write.contents c.put_all.new.writer) c.args.self.now rest way (rw c.as_slice.ensures at c.in_err-put_all.ensures.err))

pub returns-clause-on : goal.returns-clause-on
returns-clause-on g c = λ text rest before way.
    sent_all text before (g.W.Write.contents c.args.writer.now) (g.W.Write.contents c.put_all.new.writer) c.args.self.now rest c.clear.new.self way (rw c.as_slice.ensures at c.in_ok-put_all.ensures.ok) c.clear.ensures
