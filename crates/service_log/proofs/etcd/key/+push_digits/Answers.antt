-- The last digit stands behind the others.
use Rattle.std.proofs.Common.{rules, ◌≤◌, append_assoc}
use Rattle.service_log.proofs.etcd_lemmas.KeyDigits.{digits_more}
use Rattle.service_log.proofs.etcd.key.+push_digits.Goals as goal

pub returns-in-Ok : goal.returns-in-Ok
returns-in-Ok t c =
    let some : 1 ≤ c.args.count = search rules in
    rw (digits_more c.args.count c.args.number some)
    (search (rules, append_assoc))
