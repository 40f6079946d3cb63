use Rattle.std.proofs.Common.{◌≡◌, ◌≤◌, ◌-◌, length, take}
use Rattle.service_follow.proofs.Common.{TakesBytes}
use Rattle.service_follow.proofs.machine.play.Given as goal

-- so many bytes were taken
abbrev pub invariant-loop-at : goal.invariant-loop-at
invariant-loop-at g l = record {
  inside : l.at ≤ length l.lines;
  counted : l.responder.summary.lines ≤ l.at;
  kind : l.responder.kind ≡ l.fn.responder.kind;
  takes : TakesBytes g.D.Service.may l.fn.service l.fn.responder (take l.at l.lines) l.service l.responder;
}

abbrev pub decreases-loop-at : goal.decreases-loop-at
decreases-loop-at g l = length l.lines - l.at
