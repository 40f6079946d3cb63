use Rattle.clap.specs.Words.{found_of, rows_of}
use Rattle.tool_work.proofs.HostLemmas.{hall_world_named}
use Rattle.tool_work.proofs.words.hall_world_given.Goals as goal

pub returns-in-Some : goal.returns-in-Some
returns-in-Some c = hall_world_named (rows_of (found_of c.args.matches.now)) c.in-Some.name.now c.typed_world.result c.in-Some.ensures c.typed_world.ensures.some c.typed_world.ensures.none
