use Rattle.service_loop.proofs.OwnLemmas.{starts_last}
use Rattle.service_loop.proofs.asking.last_line.Goals as goal

pub returns-in-Some-clause-starts : goal.returns-in-Some-clause-starts
returns-in-Some-clause-starts c = λ lt. starts_last c.args.begins c.args.bytes.now c.in-Some.end c.in-Some.ensures
