use Rattle.std.proofs.Common.{◌≡◌, ◌∙◌, ℕ, ◌+◌, Some, min, subst, sym, ap, length, take}
use Rattle.service_journal.specs.DiskState.{DiskState}
use Rattle.service_journal.specs.Disks.{state_of, IsShortened}
use Rattle.service_journal.specs.Memories.{memory_state}
use Rattle.service_journal.proofs.MemoryLemmas.{shortened}
use Rattle.service_journal.proofs.memory_disk.MemoryDiskDisk.cut.Goals as goal

pub returns : goal.returns
returns c =
    let items : c.truncate.new.self.items ≡ take c.args.len c.goes_on.new.self.bytes.items = c.truncate.ensures.items in
    let same : memory_state c.goes_on.new.self ≡ memory_state c.args.self.now = c.if-not-goes_on.ensures in
    let least : c.min-self.result ≡ min c.goes_on.new.self.synced (length c.truncate.new.self.items) = c.min-self.ensures ∙ ap (λ (n : ℕ). min c.goes_on.new.self.synced n) (c.len.ensures ∙ c.truncate.new.self.ok.0) in (
      λ s known. subst (λ (n : ℕ). (t : DiskState) × (Some (state_of c.truncate.new.self.items n (c.goes_on.new.self.cuts + 1)) ≡ Some t) × (IsShortened c.args.len s t × (t.contents ≡ take c.args.len s.contents)))
          (sym least) (shortened c.args.len c.goes_on.new.self.bytes.items c.truncate.new.self.items c.goes_on.new.self.synced c.goes_on.new.self.cuts items s (ap Some same ∙ known)),
      λ none. absurd (cc),
    )
