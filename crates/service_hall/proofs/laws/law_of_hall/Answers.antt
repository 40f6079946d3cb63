use Rattle.service_hall.proofs.cited.Histories.{history_run}
use Rattle.service_hall.proofs.laws.law_of_hall.Goals as goal

pub returns : goal.returns
returns c = record { run = history_run c.args.hall.now c.len.ensures.lawful }
