use Rattle.service_watch.specs.Page.{clients_page}
use Rattle.service_watch.proofs.PageLemmas.{appended, then_appended}
use Rattle.service_watch.proofs.page.put_clients.Goals as goal

pub returns : goal.returns
unfolding clients_page
returns c = then_appended _ c.args.page.now.items c.put_number-5.new.page.items _ _ _ (appended c.args.page.now.items c.put_number-4.new.page.items c.put_number-5.new.page.items _ _
    (appended c.args.page.now.items c.put_number-3.new.page.items c.put_number-4.new.page.items _ _
    (appended c.args.page.now.items c.put_number-2.new.page.items c.put_number-3.new.page.items _ _
    (appended c.args.page.now.items c.put_number.new.page.items c.put_number-2.new.page.items _ _
    c.in_ok-put_number.ensures c.in_ok-put_number-2.ensures) c.in_ok-put_number-3.ensures) c.in_ok-put_number-4.ensures) c.in_ok-put_number-5.ensures) c.put_flag.ensures
