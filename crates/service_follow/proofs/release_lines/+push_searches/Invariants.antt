use Rattle.service_follow.proofs.release_lines.+push_searches.Given as goal

abbrev pub decreases-push_searches : goal.decreases-push_searches
decreases-push_searches l = l.count
