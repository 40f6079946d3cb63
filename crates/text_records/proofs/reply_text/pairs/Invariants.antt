use Rattle.std.proofs.Common.{◌≡◌}
use Rattle.text_records.proofs.Common.{option_copied, words}
use Rattle.text_lines.specs.Lines.{pieces_left, left_length}
use Rattle.text_records.specs.ReplyText.{pairs_after, after_pairs}
use Rattle.text_records.proofs.reply_text.pairs.Given as goal

-- what was read so far, with what is left to read, is all
abbrev pub invariant-loop-left : goal.invariant-loop-left
invariant-loop-left l = after_pairs l.view (pairs_after l.above (pieces_left 32 (option_copied l.left))) ≡ pairs_after 0 (words l.fn.text)

abbrev pub decreases-loop-left : goal.decreases-loop-left
decreases-loop-left l = left_length (option_copied l.left)
