use Rattle.std.proofs.Common.{ℕ, List, subst}
use Rattle.service_host.specs.Holders.{IsOfHall}
use Rattle.service_host.proofs.HolderLemmas.{reported_of}
use Rattle.service_host.proofs.holders.write_holders.Goals as goal

pub returns : goal.returns
returns g c = reported_of c.in_ok-hall.hall c.in_ok-bytes.bytes.items _ _ _ c.write_held.result c.in_ok-bytes.ensures
    (subst (λ (xs : List ℕ). IsOfHall c.in_ok-hall.hall xs) c.deref.ensures.value c.in_ok-hall.ensures) c.write_held.ensures
