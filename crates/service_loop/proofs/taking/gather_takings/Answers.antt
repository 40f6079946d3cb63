use Rattle.std.proofs.Common.{◌∙◌, ◌++◌, None, ap, arith, get_or, refl, sym}
use Rattle.text_lines.specs.Events.{event_lines}
use Rattle.service_loop.specs.Seats.{seats_of}
use Rattle.service_loop.specs.Taking.{events_for, seat_taken_for}
use Rattle.service_loop.proofs.TakingLemmas.{events_more}
use Rattle.service_loop.proofs.taking.gather_takings.Goals as goal

pub loop-seen-preserved : goal.loop-seen-preserved
loop-seen-preserved g c =
    let on = seats_of g.S.Stream.left g.S.Stream.gone in
    let key = get_or c.args.called.now c.loop-seen.seen 0 in
    record {
      few = omega arith;
      empty = c.if-add_taking_at.ensures.empty;
      lines = c.if-add_taking_at.ensures.lines ∙ ap (λ l. l ++ event_lines (events_for c.args.manner (seat_taken_for on (get_or c.args.seats.now key None)))) c.loop-seen.invariant.lines
          ∙ sym (events_more on c.args.manner c.args.seats.now c.args.called.now c.loop-seen.seen key c.loop-seen-test.true refl);
    }
