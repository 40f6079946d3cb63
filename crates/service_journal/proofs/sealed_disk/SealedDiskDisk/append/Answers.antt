use Rattle.std.proofs.Common.{◌≡◌, List, ℕ, Option, subst, ◌∙◌}
use mathlib.Core.List.{IsPrefix}
use Rattle.service_journal.specs.DiskState.{DiskState}
use Rattle.service_journal.specs.Disks.{Changes, longer_by}
use Rattle.service_journal.specs.SealedDisks.{seen}
use Rattle.service_journal.proofs.SealedLemmas.{changes_seen, seen_part}
use Rattle.service_journal.proofs.sealed_disk.SealedDiskDisk.append.Goals as goal

pub returns : goal.returns
returns g c =
    let state = g.D.Disk.state in
    let bytes = c.args.bytes.now in
    let law = c.law_of_seals.ensures in
    let is = c.as_slice.ensures ∙ c.in_ok-text.ensures.0 in
    subst (λ (o : Option DiskState). Changes (λ s t. (front : List ℕ) × IsPrefix front bytes × (t ≡ longer_by s front)) o (seen (state c.append.new.self))) c.self.view_is
    (changes_seen (state c.self.inside.disk) (state c.append.new.self) c.in-Err.ensures (λ s t known step.
    seen_part law.text law.behind law.part s t bytes step.0 (c.self.invariant c.if-self.false s known) c.in_ok-text.ensures.1 (subst (IsPrefix step.0) is step.1) step.2))
