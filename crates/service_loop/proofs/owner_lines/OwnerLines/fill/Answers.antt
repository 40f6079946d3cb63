use Rattle.std.proofs.Common.{◌∙◌}
use Rattle.service_loop.proofs.OwnerLemmas.{fills_then}
use Rattle.service_loop.proofs.owner_lines.OwnerLines.fill.Goals as goal

pub loop-preserved : goal.loop-preserved
loop-preserved g c = record {
  lines = fills_then _ _ _ _ _ _ _ c.loop.invariant.lines c.in-Ok.ensures.bytes.0 c.in_ok-add.ensures;
  same = c.read_some-came.ensures.same ∙ c.loop.invariant.same;
}

pub returns-then-count-lt-CHUNK-clause-lines : goal.returns-then-count-lt-CHUNK-clause-lines
returns-then-count-lt-CHUNK-clause-lines g c = fills_then _ _ _ _ _ _ _ c.loop.invariant.lines c.in-Ok.ensures.bytes.0 c.in_ok-add.ensures
