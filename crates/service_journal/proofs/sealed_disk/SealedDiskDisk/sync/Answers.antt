use Rattle.std.proofs.Common.{◌≡◌, Option, Result, Ok, Err, ap, subst, ◌∙◌}
use Rattle.service_journal.specs.DiskState.{DiskState}
use Rattle.service_journal.specs.Disks.{Changes, IsSynced}
use Rattle.service_journal.specs.SealedDisks.{opened_state, seen}
use Rattle.service_journal.proofs.SealedLemmas.{changes_seen, seen_synced}
use Rattle.service_journal.proofs.sealed_disk.SealedDiskDisk.sync.Goals as goal

synced : {E : Type 0} (r : Result (Unit {0}) E) (s t : DiskState) → IsSynced r s t → IsSynced r (opened_state s) (opened_state t)
synced (Ok done) s t is = ap opened_state is ∙ seen_synced s
synced (Err why) s t is = ap opened_state is

pub returns : goal.returns
returns g c =
    let state = g.D.Disk.state in
    subst (λ (o : Option DiskState). Changes (IsSynced c.sync.result) o (seen (state c.sync.new.self))) c.self.view_is
    (changes_seen (state c.self.inside.disk) (state c.sync.new.self) c.sync.ensures (λ s t known step. synced c.sync.result s t step))
