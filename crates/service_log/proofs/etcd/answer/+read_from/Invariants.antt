use Rattle.service_log.proofs.etcd.answer.+read_from.Given as goal

abbrev pub decreases-read_from : goal.decreases-read_from
decreases-read_from l = l.most
