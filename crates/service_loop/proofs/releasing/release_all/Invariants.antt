use Rattle.std.proofs.Common.{take}
use Rattle.service_loop.specs.Releasing.{Released}
use Rattle.service_loop.proofs.releasing.release_all.Given as goal

-- so many were released
abbrev pub invariant-loop-identity : goal.invariant-loop-identity
invariant-loop-identity g l = Released l.wide g.D.Service.may (take l.identity-index l.due) l.fn.service l.service
