use Rattle.std.proofs.Common.{◌≡◌, ℕ, List, ◌++◌, take}
use Rattle.text_lines.specs.HeldLine.{held}
use Rattle.text_lines.proofs.line_buffer.LineBuffer.extend.Given as goal

abbrev pub invariant-loop-byte : goal.invariant-loop-byte
invariant-loop-byte g l = (line : List ℕ) → l.fn.self ≡ held line → l.self ≡ held (line ++ take l.byte-index l.bytes)
