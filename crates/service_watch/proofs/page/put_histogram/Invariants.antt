use Rattle.std.proofs.Common.{◌≡◌, ◌++◌, take, flat_map}
use Rattle.service_watch.specs.Page.{bucket_text}
use Rattle.service_watch.proofs.page.put_histogram.Given as goal

-- the buckets so far
abbrev pub invariant-loop-bucket : goal.invariant-loop-bucket
invariant-loop-bucket l = l.page.items ≡ l.initial.page.items ++ flat_map (bucket_text l.name) (take l.bucket-index l.initial.bucket-items)
