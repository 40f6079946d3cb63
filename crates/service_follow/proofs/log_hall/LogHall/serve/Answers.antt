use Rattle.std.proofs.lemmas.Result.{on_ok_weaker}
use Rattle.service_follow.proofs.log_hall.LogHall.serve.Goals as goal

pub invariant_of-self : goal.invariant_of-self
invariant_of-self g c = c.serve.ensures.follows _ _ c.self.invariant

pub returns-clause-due : goal.returns-clause-due
returns-clause-due g c = on_ok_weaker c.serve.result (λ answered. c.law_of_following.ensures.due _ _ _ _ _ _ _ _ c.serve.ensures.once.adds.keeps c.self.invariant answered) c.serve.ensures.answered
