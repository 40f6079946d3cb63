use Rattle.std.proofs.Common.{◌≡◌, ◌∙◌, ◌/◌, ◌++◌, List, ℕ, ap, take, length}
use Rattle.service_journal.specs.DiskState.{DiskState}
use Rattle.service_journal.specs.Disks.{state_of, longer_by}
use Rattle.service_journal.specs.Memories.{memory_state}
use Rattle.service_journal.proofs.MemoryLemmas.{part_appended}
use Rattle.service_journal.proofs.memory_disk.MemoryDiskDisk.append.Goals as goal

pub returns-then-not-goes_on : goal.returns-then-not-goes_on
returns-then-not-goes_on c =
    let half = take (length c.args.bytes.now / 2) c.args.bytes.now in
    let items : c.extend_from_slice.new.self.items ≡ c.goes_on.new.self.bytes.items ++ half = c.in_ok-extend_from_slice.ensures.items in
    let same : memory_state c.goes_on.new.self ≡ memory_state c.args.self.now = c.goes_on.ensures in (
      part_appended c.args.bytes.now (length c.args.bytes.now / 2) (memory_state c.args.self.now) (state_of c.extend_from_slice.new.self.items c.goes_on.new.self.synced c.goes_on.new.self.cuts)
          (ap (λ (l : List ℕ). state_of l c.goes_on.new.self.synced c.goes_on.new.self.cuts) items ∙ ap (λ (s : DiskState). longer_by s half) same),
      λ none. absurd (cc),
    )
