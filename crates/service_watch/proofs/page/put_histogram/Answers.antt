use Rattle.std.proofs.Common.{◌≡◌, ◌∙◌, ◌++◌, flat_map, ap, rules}
use Rattle.std.proofs.lemmas.List.{take_all}
use Rattle.service_watch.specs.Page.{bucket_text, histogram_text}
use Rattle.service_watch.proofs.PageLemmas.{appended, then_appended}
use Rattle.service_watch.proofs.page.put_histogram.Goals as goal

pub returns : goal.returns
unfolding histogram_text
returns c =
    let p = c.args.page.now.items in
    let text = bucket_text c.args.name.now in
    let buckets : c.loop-bucket.page.items ≡ p ++ flat_map text c.args.histogram.now.buckets =
    c.loop-bucket.invariant ∙ ap (λ l. p ++ flat_map text l) (take_all c.loop-bucket.bucket-index c.args.histogram.now.buckets (search rules)) in
    let last = appended p c.loop-bucket.page.items c.put_last_bucket.new.page.items _ _ buckets c.in_ok-put_last_bucket.ensures in
    let sum = appended p c.put.new.page.items c.put-2.new.page.items _ _ (appended p c.put_last_bucket.new.page.items c.put.new.page.items _ _ last c.in_ok-put.ensures) c.in_ok-put-2.ensures in
    let total = appended p c.put_seconds.new.page.items c.put-3.new.page.items _ _ (appended p c.put-2.new.page.items c.put_seconds.new.page.items _ _ sum c.in_ok-put_seconds.ensures) c.in_ok-put-3.ensures in
    then_appended _ p c.put-4.new.page.items _ _ _ (appended p c.put-3.new.page.items c.put-4.new.page.items _ _ total c.in_ok-put-4.ensures) c.put_value.ensures
