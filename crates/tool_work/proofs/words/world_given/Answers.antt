use Rattle.tool_work.proofs.Common.{found_of, rows_of}
use Rattle.tool_work.proofs.ConfigLemmas.{unless_some, no_world, world_reported}
use Rattle.tool_work.proofs.words.world_given.Goals as goal

pub returns-in_err-text_given : goal.returns-in_err-text_given
returns-in_err-text_given c =
    unless_some c.from_residual.result _ _ c.from_residual.ensures (no_world (rows_of (found_of c.args.matches.now)) (rw c.in_err-text_given.was at c.text_given.ensures))

pub returns : goal.returns
returns c =
    world_reported (rows_of (found_of c.args.matches.now)) _ c.typed_world.result (rw c.in_ok-text_given.was at c.text_given.ensures) c.typed_world.ensures.some c.typed_world.ensures.none
