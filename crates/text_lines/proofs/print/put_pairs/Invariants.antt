use Rattle.std.proofs.Common.{◌≡◌, ◌≤◌, ◌+◌, ◌*◌, ◌++◌, length, take}
use Rattle.text_lines.specs.Replies.{pair_words}
use Rattle.text_lines.proofs.print.put_pairs.Given as goal

abbrev pub invariant-loop-pair : goal.invariant-loop-pair
invariant-loop-pair g l = record {
  text : l.out ≡ l.fn.out ++ pair_words (take l.pair-index l.pairs);
  short : length l.out ≤ length l.fn.out + 42 * l.pair-index;
}
