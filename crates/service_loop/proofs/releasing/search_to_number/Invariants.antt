use Rattle.std.proofs.Common.{[], replicate}
use Rattle.model_asked.specs.declared.reply.Reply.TheVariants as reply
use Rattle.service_loop.proofs.Common.{Runs}
use Rattle.service_loop.specs.Attending.{Hears}
use Rattle.service_loop.specs.Searching.{searched}
use Rattle.service_loop.proofs.releasing.search_to_number.Given as goal

-- so often it was said, and missed
abbrev pub invariant-loop-tries : goal.invariant-loop-tries
invariant-loop-tries g l = record {
  run : Runs g.D.Service.may l.fn.service.service (replicate l._tries (searched l.wide l.identity reply.Missed)) l.service.service;
  heard : Hears [] l.fn.service l.service;
}
