use Rattle.service_host.proofs.ServedLemmas.{was_hosted}
use Rattle.service_host.proofs.laws.law_of_hosted_journals.Goals as goal

pub returns : goal.returns
returns g c = was_hosted g.D.Disk.state c.law_of_events.ensures.goes_on c.law_of_reads.ensures.without c.law_of_reads.ensures.history
