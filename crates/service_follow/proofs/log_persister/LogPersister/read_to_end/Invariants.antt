use Rattle.std.proofs.Common.{◌≡◌, []}
use Rattle.service_log.specs.Places.{Same}
use Rattle.service_follow.specs.Hosted.{HasMovedOn}
use Rattle.service_follow.specs.Pauses.{HasWaited}
use Rattle.service_follow.specs.Said.{reply_queue_of}
use Rattle.service_follow.proofs.log_persister.LogPersister.read_to_end.Given as goal

-- nothing is answered so far, and it was waited as often as the store was asked
abbrev pub invariant-loop-asked : goal.invariant-loop-asked
invariant-loop-asked g l = record {
  head : (l.self.count ≡ l.fn.self.count) × (l.self.token ≡ l.fn.self.token);
  silent : l.reply_queue ≡ reply_queue_of [];
  moved : HasMovedOn g.S.Store.stands l.fn.self.log l.self.log;
  unwritten : Same (g.S.Store.stands l.fn.self.log.store) (g.S.Store.stands l.self.log.store);
  waited : HasWaited g.T.Pause.waited l._asked l.self.pause;
}
