use Rattle.std.proofs.Common.{◌≡◌, ◌∙◌, ◌≤◌, ap, max, take, arith}
use Rattle.service_journal.specs.DiskState.{DiskState}
use Rattle.service_journal.specs.Memories.{memory_state}
use Rattle.service_journal.proofs.MemoryLemmas.{crash_leaves}
use Rattle.service_journal.proofs.memory_disk.MemoryDisk.crashed.Goals as goal

pub returns-clause-left : goal.returns-clause-left
returns-clause-left c =
    let items : c.truncate.new.self.items ≡ take c.max-kept.result c.args.self.bytes.items = c.truncate.ensures.items in
    let most : c.max-kept.result ≡ max c.args.keep c.args.self.synced = c.max-kept.ensures in
    let enough : c.args.self.synced ≤ c.max-kept.result = omega (arith, most) in
    crash_leaves (memory_state c.args.self) c.max-kept.result c.new.result.bytes.items (ap (λ (s : DiskState). s.contents) c.new.ensures ∙ items) enough
