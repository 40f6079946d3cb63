use Rattle.std.proofs.Common.{◌≡◌, map, take}
use Rattle.service_loop.specs.Attending.{Hears, act_of_ending}
use Rattle.service_loop.proofs.attended.Attended.end_all.Given as goal

-- so many have ended
abbrev pub invariant-loop-ending : goal.invariant-loop-ending
invariant-loop-ending g l = record {
  hears : Hears (map (act_of_ending l.tick) (take l.ending-index l.endings)) l.fn.self l.self;
  same : l.self.service ≡ l.fn.self.service;
}
