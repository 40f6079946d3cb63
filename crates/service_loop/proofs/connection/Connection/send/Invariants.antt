use Rattle.std.proofs.Common.{◌≡◌, ◌≤◌, ◌-◌, true, false, length, take}
use Rattle.std.specs.Io.KnownBytes.{Appends}
use Rattle.service_loop.specs.declared.connection.ConnectionStage.TheVariants as stage
use Rattle.service_loop.proofs.connection.Connection.send.Given as goal

abbrev pub invariant-loop-self : goal.invariant-loop-self
invariant-loop-self g l = record {
  inside : l.at ≤ length l.fn.self.buffers.outbox;
  gained : Appends (g.S.Stream.gone l.fn.self.stream) (g.S.Stream.gone l.self.stream) (take l.at l.fn.self.buffers.outbox);
  unread : g.S.Stream.left l.self.stream ≡ g.S.Stream.left l.fn.self.stream;
  buffers : l.self.buffers ≡ record l.fn.self.buffers { broken = l.self.buffers.broken };
  whole : l.self.buffers.broken ≡ false → l.fn.self.buffers.broken ≡ false;
  stage : l.self.stage ≡ stage.Idle;
  quiet : l.fn.self.buffers.broken ≡ true → l.at ≡ 0;
}

abbrev pub decreases-loop-self : goal.decreases-loop-self
decreases-loop-self g l = length l.fn.self.buffers.outbox - l.at
