use Rattle.std.proofs.Common.{arith}
use Rattle.tool_work.proofs.Common.{found_of, rows_of}
use Rattle.tool_work.proofs.ConfigLemmas.{unless_some}
use Rattle.tool_work.proofs.HostLemmas.{no_forever, no_connection}
use Rattle.tool_work.proofs.words.holding_given.Goals as goal

pub returns-in_err-grace_given-in-connection : goal.returns-in_err-grace_given-in-connection
returns-in_err-grace_given-in-connection c =
    unless_some c.from_residual-in_err-grace_given-in-connection.result _ _ c.from_residual-in_err-grace_given-in-connection.ensures
    (no_connection (rows_of (found_of c.args.matches.now)) c.in_ok-text_given.field-0.now c.in_ok-text_given.ensures c.in-connection.is c.in_err-grace_given-in-connection.ensures)

pub returns-in-Some : goal.returns-in-Some
returns-in-Some c = no_forever (rows_of (found_of c.args.matches.now)) c.in_ok-text_given.field-0.now c.in_ok-text_given.ensures c.in-forever.is c.in-Some._grace (omega arith) c.in-Some.ensures
