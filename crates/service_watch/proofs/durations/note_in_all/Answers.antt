use Rattle.std.proofs.Common.{arith}
use Rattle.std.proofs.lemmas.List.Edits.{map_over_more}
use Rattle.std.proofs.lemmas.List.{get_or_default}
use Rattle.service_watch.specs.durations.Histogram.{with_call}
use Rattle.service_watch.proofs.durations.note_in_all.Goals as goal

pub loop-bucket-preserved : goal.loop-bucket-preserved
loop-bucket-preserved c = rw c.note.ensures (map_over_more (with_call c.args.micros) c.args.buckets.now c.loop-bucket.buckets c.loop-bucket.bucket-index _ (omega arith) c.loop-bucket.invariant (get_or_default c.loop-bucket.buckets c.loop-bucket.bucket-index _ _ (omega arith)))
