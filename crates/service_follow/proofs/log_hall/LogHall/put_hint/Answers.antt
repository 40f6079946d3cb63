use Rattle.service_follow.proofs.log_hall.LogHall.put_hint.Goals as goal

pub invariant_of-self : goal.invariant_of-self
invariant_of-self g c = c.law_of_following.ensures.still _ _ _ _ _ c.put_hint.ensures.same.keeps c.self.invariant
