use Rattle.std.proofs.Common.{◌∙◌, append_assoc}
use Rattle.text_lines.specs.lemmas.ReplyProofs.{pair_words-more}
use Rattle.text_records.proofs.compact.put_pairs.Goals as goal

pub loop-pair-preserved : goal.loop-pair-preserved
loop-pair-preserved c =
    let more = pair_words-more c.args.pairs.now c.loop-pair.pair-index c.loop-pair-test.true in
    c.in_ok-put_pair.ensures ∙ rw (c.in_ok-put.ensures, more, c.loop-pair.invariant) (simp append_assoc)
