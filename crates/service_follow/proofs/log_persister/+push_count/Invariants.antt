use Rattle.service_follow.proofs.log_persister.+push_count.Given as goal

abbrev pub decreases-push_count : goal.decreases-push_count
decreases-push_count l = l.digits
