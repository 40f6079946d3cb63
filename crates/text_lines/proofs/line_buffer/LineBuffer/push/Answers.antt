use Rattle.std.proofs.Common.{◌∙◌, arith}
use Rattle.text_lines.proofs.HeldLineLemmas.{held-room, held-full}
use Rattle.text_lines.proofs.line_buffer.LineBuffer.push.Goals as goal

pub returns-then-len-lt-LINE_MAX : goal.returns-then-len-lt-LINE_MAX
returns-then-len-lt-LINE_MAX g c = λ line is.
    let kept = held-room line c.args.byte _ (c.self.view_is ∙ is) (omega (arith, c.len.ensures)) in
    rw c.push_reserved.ensures.items kept

pub returns-else-len-lt-LINE_MAX : goal.returns-else-len-lt-LINE_MAX
returns-else-len-lt-LINE_MAX g c = λ line is. held-full line c.args.byte _ (c.self.view_is ∙ is) (omega (arith, c.len.ensures))
