use Rattle.std.proofs.Common.{◌∙◌, ap, append_assoc, length, length-append, codes, arith}
use Rattle.text_lines.specs.lemmas.ReplyProofs.{pair_words-more}
use Rattle.text_lines.proofs.print.put_pairs.Goals as goal

pub loop-pair-preserved : goal.loop-pair-preserved
loop-pair-preserved g c =
    let more = pair_words-more c.args.pairs.now c.loop-pair.pair-index c.loop-pair-test.true in
    record {
      text = c.put_pair.ensures.text ∙ rw (c.put.ensures, more, c.loop-pair.invariant.text) (simp append_assoc);
      short = (let len = c.put_pair.ensures.len in let spaced = ap length c.put.ensures ∙ length-append c.loop-pair.out (codes " ") in let before = c.loop-pair.invariant.short in omega arith);
    }
