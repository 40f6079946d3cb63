use Rattle.std.proofs.Common.{◌≡◌, []}
use Rattle.service_follow.specs.Hosted.{HasMovedOn}
use Rattle.service_follow.specs.Pauses.{HasWaited}
use Rattle.service_follow.specs.Said.{reply_queue_of}
use Rattle.service_follow.proofs.log_persister.LogPersister.serve_batch.Given as goal

-- nothing is answered so far, and it was waited as often as the store was asked
abbrev pub invariant-loop-tries : goal.invariant-loop-tries
invariant-loop-tries g l = record {
  batch : l.self.batch ≡ l.fn.self.batch;
  head : (l.self.count ≡ l.fn.self.count) × (l.self.token ≡ l.fn.self.token);
  sessions : l.self.sessions ≡ l.fn.self.sessions;
  silent : l.reply_queue ≡ reply_queue_of [];
  moved : HasMovedOn g.S.Store.stands l.fn.self.log l.self.log;
  waited : HasWaited g.T.Pause.waited l._tries l.self.pause;
}
