use Rattle.service_journal.proofs.SealedLemmas.{opened_kept, whole_after}
use Rattle.service_journal.proofs.sealed_disk.SealedDisk.open.Goals as goal

pub invariant_of-result : goal.invariant_of-result
invariant_of-result g c = λ whole s known. whole_after c.law_of_lines.ensures.cut c.law_of_lines.ensures.once _ _ c.in-Ok.ensures.whole s known

pub returns-in-Ok-clause-opened : goal.returns-in-Ok-clause-opened
returns-in-Ok-clause-opened g c = opened_kept c.law_of_lines.ensures.cut c.law_of_lines.ensures.once _ _ c.in-Ok.ensures.whole
