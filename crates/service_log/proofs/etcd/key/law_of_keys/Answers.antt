use Rattle.service_log.proofs.etcd_lemmas.KeyDigits.{keys_differ}
use Rattle.service_log.proofs.etcd.key.law_of_keys.Goals as goal

pub returns : goal.returns
returns c = keys_differ
