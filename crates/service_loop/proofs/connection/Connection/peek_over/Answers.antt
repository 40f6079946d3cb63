use Rattle.std.proofs.Common.{None, refl, sym}
use Rattle.service_loop.proofs.Common.{append-nil}
use Rattle.service_loop.proofs.GatherLemmas.{none_seen}
use Rattle.service_loop.proofs.connection.Connection.peek_over.Goals as goal

pub returns-in_default : goal.returns-in_default
returns-in_default g c =
    rw (c.in_default.is, none_seen c.args.kind c.args.self.now.buffers None refl) (record {
      reported = sym (append-nil c.args.batch.now.items);
      asks = λ _. (refl, refl);
      own = refl;
      rest = λ peek whole is no. absurd (let e = is in cc);
      end = refl;
      buffers = refl;
      whole = λ h. h;
      stream = refl;
      stage = refl;
    })
