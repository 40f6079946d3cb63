use Rattle.std.proofs.Common.{◌∙◌, ◌++◌, [], ap, append_assoc, append-nil, arith, get_or, refl, rules, sym}
use Rattle.service_loop.proofs.TakeQueueLemmas.{all_wait_on, asking_more}
use Rattle.service_loop.proofs.take_queue.TakeQueue.note.Goals as goal

pub loop-key-init : goal.loop-key-init
loop-key-init g c = record { joins = ([], refl, sym (append-nil _)); asks = search rules }

pub loop-key-preserved : goal.loop-key-preserved
loop-key-preserved g c =
    let was = c.loop-key.invariant in
    let now = c.in_ok-note_at.ensures in
    record {
      joins = (
        was.joins.0 ++ now.joins.0,
        all_wait_on c.args.seats.now c.args.numbers.now was.joins.0 now.joins.0 was.joins.1 now.joins.1,
        now.joins.2 ∙ ap (λ l. l ++ now.joins.0) was.joins.2 ∙ append_assoc _ was.joins.0 now.joins.0,
      );
      asks = asking_more c.args.seats.now (g.K.Persist.holds c.args.persister.now c.args.service.now) c.args.ready.now c.loop-key.key-index (get_or c.args.ready.now c.loop-key.key-index 0) _ _ (omega (arith, c.loop-key-test.true)) refl was.asks now.asks;
    }
