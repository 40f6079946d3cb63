use Rattle.service_hall.proofs.cited.Serves.{transcript, history}
use Rattle.service_hall.proofs.laws.law_of_serving.Goals as goal

pub returns : goal.returns
returns c = record { transcript = transcript; history = history }
