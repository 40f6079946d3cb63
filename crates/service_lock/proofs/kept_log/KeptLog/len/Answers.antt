use Rattle.std.proofs.Common.{length, sym, ap, ◌∙◌}
use Rattle.service_lock.specs.KeptState.{KeptState}
use Rattle.service_lock.proofs.Keeping.{kept_many}
use Rattle.service_lock.proofs.kept_log.KeptLog.len.Goals as goal

pub returns : goal.returns
returns c =
    let i = c.self.inside in
    c.len.ensures ∙ i.places.ok.0 ∙ sym (kept_many i.places.items i.log.items c.self.invariant.0) ∙ ap (λ (k : KeptState). length k.items) c.self.view_is
