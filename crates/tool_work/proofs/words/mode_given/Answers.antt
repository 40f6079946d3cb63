use Rattle.tool_work.proofs.Common.{found_of, rows_of}
use Rattle.tool_work.proofs.ConfigLemmas.{unless_some}
use Rattle.tool_work.proofs.HostLemmas.{no_mode, mode_reported}
use Rattle.tool_work.proofs.words.mode_given.Goals as goal

pub returns-in_err-text_given : goal.returns-in_err-text_given
returns-in_err-text_given c =
    unless_some c.from_residual.result _ _ c.from_residual.ensures (no_mode (rows_of (found_of c.args.matches.now)) (rw c.in_err-text_given.was at c.text_given.ensures))

pub returns : goal.returns
returns c =
    let matched = rw c.in_ok-text_given.was at c.text_given.ensures in
    rw c.ok.ensures.value (mode_reported (rows_of (found_of c.args.matches.now)) _ c.from_str_radix.result matched c.from_str_radix.ensures.value)
