use Rattle.std.proofs.Common.{take}
use Rattle.service_loop.specs.Releasing.{Forgot}
use Rattle.service_loop.proofs.releasing.forget_ended.Given as goal

-- of so many the stay is forgotten where it has ended
abbrev pub invariant-loop-identity : goal.invariant-loop-identity
invariant-loop-identity g l = Forgot (g.K.Persist.holds l.persister l.fn.service.service) (take l.identity-index l.due) l.fn.service l.service
