use Rattle.std.proofs.Common.{◌≡◌, ◌++◌, take, drop, map}
use Rattle.service_watch.specs.durations.Histogram.{with_call}
use Rattle.service_watch.proofs.durations.note_in_all.Given as goal

-- the call is counted in the buckets so far
abbrev pub invariant-loop-bucket : goal.invariant-loop-bucket
invariant-loop-bucket l = l.buckets ≡ map (with_call l.micros) (take l.bucket-index l.initial.buckets) ++ drop l.bucket-index l.initial.buckets
