use Rattle.std.proofs.Common.{length}
use Rattle.service_log.proofs.etcd.request.+put_first.Given as goal

abbrev pub decreases-put_first : goal.decreases-put_first
decreases-put_first l = length l.keys.now
