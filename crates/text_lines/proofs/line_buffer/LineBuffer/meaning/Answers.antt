use Rattle.std.proofs.Common.{replicate, refl}
use Rattle.text_lines.proofs.line_buffer.LineBuffer.meaning.Goals as goal

pub returns-then-self-clause-some : goal.returns-then-self-clause-some
returns-then-self-clause-some g c = (replicate 101 0, refl)
