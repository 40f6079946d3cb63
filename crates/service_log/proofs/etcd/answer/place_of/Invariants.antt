use Rattle.std.proofs.Common.{◌≡◌, ◌<◌, take}
use Rattle.service_log.specs.etcd.Keys.{number_from}
use Rattle.service_log.proofs.etcd_lemmas.KeyDigits.{tens}
use Rattle.service_log.proofs.etcd.answer.place_of.Given as goal

-- the number that the digits say that were read
abbrev pub invariant-loop-digit : goal.invariant-loop-digit
invariant-loop-digit l = (l.place ≡ number_from 0 (take l.digit-index l.digits)) × (l.place < tens l.digit-index)
