use Rattle.service_watch.specs.Page.{audit_page}
use Rattle.service_watch.proofs.PageLemmas.{appended, then_appended}
use Rattle.service_watch.proofs.page.put_audit.Goals as goal

pub returns : goal.returns
unfolding audit_page
returns c = then_appended _ c.args.page.now.items c.put_refusals.new.page.items _ _ _ (appended c.args.page.now.items c.put_releases.new.page.items c.put_refusals.new.page.items _ _
    c.in_ok-put_releases.ensures c.in_ok-put_refusals.ensures) c.put_known.ensures
