use Rattle.service_watch.specs.Page.{syncs_page}
use Rattle.service_watch.proofs.PageLemmas.{appended, then_appended}
use Rattle.service_watch.proofs.page.put_syncs.Goals as goal

pub returns : goal.returns
unfolding syncs_page
returns c = then_appended _ c.args.page.now.items c.put_head-2.new.page.items _ _ _ (appended c.args.page.now.items c.put-3.new.page.items c.put_head-2.new.page.items _ _
    (appended c.args.page.now.items c.put_seconds.new.page.items c.put-3.new.page.items _ _
    (appended c.args.page.now.items c.put-2.new.page.items c.put_seconds.new.page.items _ _
    (appended c.args.page.now.items c.put.new.page.items c.put-2.new.page.items _ _
    (appended c.args.page.now.items c.put_head.new.page.items c.put.new.page.items _ _
    c.in_ok-put_head.ensures c.in_ok-put.ensures) c.in_ok-put-2.ensures) c.in_ok-put_seconds.ensures) c.in_ok-put-3.ensures) c.in_ok-put_head-2.ensures) c.put_histogram.ensures
