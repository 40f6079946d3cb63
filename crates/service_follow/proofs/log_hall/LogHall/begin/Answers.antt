use Rattle.service_follow.proofs.log_hall.LogHall.begin.Goals as goal

pub invariant_of-self : goal.invariant_of-self
invariant_of-self g c = c.law_of_following.ensures.still _ _ _ _ _ c.begins_with.ensures.keeps c.self.invariant
