use Rattle.std.proofs.Common.{arith}
use Rattle.tool_work.proofs.Common.{found_of, rows_of}
use Rattle.tool_work.proofs.HostLemmas.{no_grace}
use Rattle.tool_work.proofs.words.grace_given.Goals as goal

pub returns-in-Some-2 : goal.returns-in-Some-2
returns-in-Some-2 c = no_grace (rows_of (found_of c.args.matches.now)) c.in-Some.grace (omega arith) c.in-Some.ensures (omega arith)
