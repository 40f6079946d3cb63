use Rattle.std.proofs.Common.{arith, ◌∙◌}
use Rattle.words_pool.specs.PoolRule.{word_of}
use Rattle.words_pool.proofs.Closing.{read_more}
use Rattle.words_pool.proofs.line_pool.read_out.Goals as goal

pub loop-i-preserved : goal.loop-i-preserved
loop-i-preserved g c =
    let i = c.loop-i.invariant in (
      omega (arith, c.push_reserved.ensures.len, i.0),
      omega (arith, c.loop-i-test.true),
      c.push_reserved.ensures.capacity ∙ i.2,
      λ k lt. rw c.push_reserved.ensures.items (read_more _ _ word_of _ _ (omega (arith, c.loop-i.words.ok.0, i.0)) i.3 c.word.ensures k lt),
    )
