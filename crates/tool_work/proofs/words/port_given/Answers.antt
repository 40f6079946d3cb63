use Rattle.std.proofs.Common.{arith}
use Rattle.clap.specs.Words.{found_of, rows_of}
use Rattle.tool_work.proofs.ConfigLemmas.{unless_some}
use Rattle.tool_work.proofs.HostLemmas.{port_reported}
use Rattle.tool_work.proofs.words.port_given.Goals as goal

pub returns-in_err-number_given : goal.returns-in_err-number_given
returns-in_err-number_given c = unless_some c.from_residual.result _ _ c.from_residual.ensures (λ n small h. c.in_err-number_given.ensures n (omega (arith, small)) h)

pub returns : goal.returns
returns c = port_reported (rows_of (found_of c.args.matches.now)) c.args.name.now c.in_ok-number_given.field-0 c.as_port.result c.in_ok-number_given.ensures c.as_port.ensures
