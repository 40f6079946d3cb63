use Rattle.std.proofs.Common.{not, refl}
use Rattle.service_loop.proofs.OwnLemmas.{none_lacking}
use Rattle.service_loop.proofs.asking.first_look.Goals as goal

pub returns-then-lacks_letters-clause-own : goal.returns-then-lacks_letters-clause-own
returns-then-lacks_letters-clause-own c = none_lacking (not c.args.begins) c.last_line.result c.args.bytes.now (c.if-lacks_letters.ensures refl)
