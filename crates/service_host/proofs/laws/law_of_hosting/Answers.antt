use Rattle.text_player.specs.Shared.{all_turns}
use Rattle.service_host.proofs.HostingLemmas.{hosted, idle}
use Rattle.service_host.proofs.laws.law_of_hosting.Goals as goal

pub returns-clause-hosted : goal.returns-clause-hosted
returns-clause-hosted g c = λ on. hosted on g.D.Disk.state c.law_of_reads.ensures.history c.law_of_crashes.ensures.between

pub returns-clause-idle : goal.returns-clause-idle
returns-clause-idle g c = λ on k l w u seats after t none. idle c.law_of_reads.ensures.without w t.reported (all_turns t.log) t.taken.run none
