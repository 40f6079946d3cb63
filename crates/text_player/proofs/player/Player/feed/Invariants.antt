use Rattle.std.proofs.Common.{◌≡◌, ◌+◌, ◌-◌, ◌*◌, ◌≤◌, ℕ, List, Option, take, length}
use Rattle.text_player.proofs.Common.{Progress, after_bytes, Stands, TURN_ROOM}
use Rattle.text_player.proofs.player.Player.feed.Given as goal

abbrev pub invariant-loop-at : goal.invariant-loop-at
invariant-loop-at g l = record {
  inside : l.at ≤ length l.chunk;
  stands : (start : g.row.D.Denot) (p : Progress) (before : Option (List ℕ)) →
      Stands g.D.Service.may g.F.Form.text start l.fn.world l.fn.self p before (g.W.Write.contents l.fn.writer) →
      Stands g.D.Service.may g.F.Form.text start l.world l.self (after_bytes l.fn.self.kind p (take l.at l.chunk)) before (g.W.Write.contents l.writer);
  kind : l.self.kind ≡ l.fn.self.kind;
  counted : l.self.summary.lines ≤ l.fn.self.summary.lines + l.at;
  calls : g.W.Sink.calls l.writer + length l.self.replies ≤ g.W.Sink.calls l.fn.writer + length l.fn.self.replies + TURN_ROOM * l.at;
  unfailed : g.W.Sink.failed l.writer ≡ g.W.Sink.failed l.fn.writer;
}

abbrev pub decreases-loop-at : goal.decreases-loop-at
decreases-loop-at g l = length l.chunk - l.at
