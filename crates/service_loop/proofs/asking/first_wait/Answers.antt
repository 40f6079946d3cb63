use Rattle.std.proofs.Common.{None, ap, refl}
use Rattle.service_loop.specs.TakeLines.{take_line}
use Rattle.service_loop.specs.Waiting.{seconds_waited}
use Rattle.service_loop.proofs.WaitingLemmas.{first_none, first_other, first_some}
use Rattle.service_loop.proofs.asking.first_wait.Goals as goal

pub returns-in_default : goal.returns-in_default
returns-in_default c = ap seconds_waited (first_none take_line c.args.bytes.now None refl c.in_default.ensures)

pub returns-in-Some-take_line : goal.returns-in-Some-take_line
returns-in-Some-take_line c = ap seconds_waited (first_some take_line c.args.bytes.now c.in-Some.end c.in-Some-take_line.said c.in-Some.ensures c.in-Some-take_line.ensures)

pub returns-in-None : goal.returns-in-None
returns-in-None c = ap seconds_waited (first_other take_line c.args.bytes.now None refl c.in-Some.end c.in-Some.ensures c.in-None.ensures)
