use Rattle.std.proofs.Common.{◌++◌, map, subst}
use Rattle.service_loop.specs.Attending.{Hears, act_of_ending, acts_of_lost}
use Rattle.service_loop.proofs.AttendedLemmas.{hears_then}
use Rattle.service_loop.proofs.connections.ConnectionTable.note_ended.Goals as goal

pub returns-clause-hears : goal.returns-clause-hears
returns-clause-hears g c =
    subst (λ l. Hears (map (act_of_ending c.args.tick) l ++ acts_of_lost c.args.tick c.args.lost) c.args.service.now c.end_lost.new.self) c.deref.ensures.value
    (hears_then _ _ c.args.service.now c.end_all.new.self c.end_lost.new.self c.end_all.ensures.hears c.end_lost.ensures.hears)
