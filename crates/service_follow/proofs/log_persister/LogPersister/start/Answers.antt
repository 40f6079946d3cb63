-- The log begins with the line still once all that stands is applied.
use Rattle.std.proofs.lemmas.Result.{on_ok_weaker}
use Rattle.service_follow.proofs.log_persister.LogPersister.start.Goals as goal

pub returns-clause-begins : goal.returns-clause-begins
returns-clause-begins g c = on_ok_weaker c.apply_known.result (λ keeps. (c.in_ok-begin.ensures.begins.0, keeps 0 _ (c.in_ok-apply_hinted.ensures.keeps 0 _ c.in_ok-begin.ensures.begins.1))) c.apply_known.ensures.keeps
