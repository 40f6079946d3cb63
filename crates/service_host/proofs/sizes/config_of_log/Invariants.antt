use Rattle.service_host.proofs.SizeLemmas.{IsOfNoneIn}
use Rattle.service_host.proofs.sizes.config_of_log.Given as goal

-- none of the worlds before this one
abbrev pub invariant-loop-world : goal.invariant-loop-world
invariant-loop-world l = IsOfNoneIn l.config l.entry l.size l.world-items l.world-index
