use Rattle.std.proofs.Common.{◌≡◌, ◌+◌, ◌-◌, ◌≤◌, take, length}
use Rattle.text_player.proofs.Common.{after_bytes, Says}
use Rattle.text_player.proofs.responder.Responder.take_some.Given as goal

abbrev pub invariant-loop-at : goal.invariant-loop-at
invariant-loop-at g l = record {
  inside : l.at ≤ length l.bytes;
  says : Says g.D.Service.may g.F.Form.text l.fn.service l.fn.self l.fn.out l.service l.self l.out (λ p. after_bytes l.fn.self.kind p (take l.at l.bytes));
  kind : l.self.kind ≡ l.fn.self.kind;
  within : length l.fn.out ≤ l.most → length l.out ≤ l.most;
  counted : l.self.summary.lines ≤ l.fn.self.summary.lines + l.at;
}

abbrev pub decreases-loop-at : goal.decreases-loop-at
decreases-loop-at g l = length l.bytes - l.at
