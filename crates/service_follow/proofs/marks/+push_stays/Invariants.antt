use Rattle.service_follow.proofs.marks.+push_stays.Given as goal

abbrev pub decreases-push_stays : goal.decreases-push_stays
decreases-push_stays l = l.count
