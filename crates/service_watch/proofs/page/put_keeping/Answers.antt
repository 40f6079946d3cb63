use Rattle.service_watch.specs.Page.{keeping_page}
use Rattle.service_watch.proofs.PageLemmas.{appended, then_appended}
use Rattle.service_watch.proofs.page.put_keeping.Goals as goal

pub returns : goal.returns
unfolding keeping_page
returns c = then_appended _ c.args.page.now.items c.put_known-3.new.page.items _ _ _ (appended c.args.page.now.items c.put_known-2.new.page.items c.put_known-3.new.page.items _ _
    (appended c.args.page.now.items c.put_known_syncs.new.page.items c.put_known-2.new.page.items _ _
    (appended c.args.page.now.items c.put_known.new.page.items c.put_known_syncs.new.page.items _ _
    c.in_ok-put_known.ensures c.in_ok-put_known_syncs.ensures) c.in_ok-put_known-2.ensures) c.in_ok-put_known-3.ensures) c.put_known-4.ensures
