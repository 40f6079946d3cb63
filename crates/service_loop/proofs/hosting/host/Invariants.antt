use Rattle.service_loop.specs.Manners.{manner_of}
use Rattle.service_loop.specs.Sendings.{hosted}
use Rattle.service_loop.specs.SharedBuffers.{AreShared}
use Rattle.service_loop.specs.Attendance.{WasAttended}
use Rattle.service_loop.proofs.hosting.host.Given as goal

-- nothing else was done so far to the service, its persister and the table of stays
abbrev pub invariant-loop : goal.invariant-loop
invariant-loop g l = record {
  room : AreShared l.shared;
  attended : WasAttended hosted (manner_of l.fn.options) g.D.Service.may g.K.Persist.prefetches g.K.Persist.persists g.K.Persist.waits g.K.Persist.shares g.K.Persist.holds l.fn.options.grace
      l.fn.persister l.fn.service l.persister l.service;
}
