use Rattle.service_watch.specs.Page.{page_of}
use Rattle.service_watch.proofs.PageLemmas.{appended, then_appended}
use Rattle.service_watch.proofs.page.put_page.Goals as goal

pub returns : goal.returns
unfolding page_of
returns c = then_appended _ c.args.page.now.items c.put_hall.new.page.items _ _ _ (appended c.args.page.now.items c.put_audit.new.page.items c.put_hall.new.page.items _ _
    (appended c.args.page.now.items c.put_clients.new.page.items c.put_audit.new.page.items _ _
    c.in_ok-put_clients.ensures c.in_ok-put_audit.ensures) c.in_ok-put_hall.ensures) c.put_keeping.ensures
