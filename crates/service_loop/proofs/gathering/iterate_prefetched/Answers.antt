use Rattle.std.proofs.lemmas.List.{length-take-le}
use Rattle.std.proofs.Common.{◌≡◌, ◌∙◌, ℕ, true, [], None, Ok, ap, get_or, subst, sym, take}
use Rattle.service_loop.specs.declared.connection.ConnectionStage.TheVariants as stage
use Rattle.service_loop.specs.Gathering.{NotPrefetched, any_asks_holders}
use Rattle.service_loop.specs.Seats.{NoneSent, seats_of}
use Rattle.service_loop.proofs.RoundLemmas.{always_wrong, gave_none, owes_none}
use Rattle.service_loop.proofs.SeatLemmas.{seat_rests}
use Rattle.service_loop.proofs.GatherLemmas.{none_sent_peeked, unheld, was_prefetched}
use Rattle.service_loop.proofs.ReportedLemmas.{reported_broken, taken_reported}
use Rattle.service_loop.proofs.AttendedLemmas.{hears_about}
use Rattle.service_loop.proofs.LosingLemmas.{lost_whole}
use Rattle.service_loop.proofs.gathering.iterate_prefetched.Goals as goal

pub returns-in_ok-persist-in-Known-clause-served : goal.returns-in_ok-persist-in-Known-clause-served
returns-in_ok-persist-in-Known-clause-served g c =
    let on = seats_of g.S.Stream.left g.S.Stream.gone in
    let t = c.gather-peeked.ensures.reported in
    let k = c.take_peeked.ensures.taken in
    let holds : c.any_asks_holders-batch.result ≡ any_asks_holders (λ x. x.peek) (take c.gather-peeked.result c.args.ready.now) c.gather-peeked.new.seats = c.any_asks_holders-batch.ensures in
    let known = c.in_ok-prefetch.ensures.known (ap Ok c.in-Known.is) in
    λ called same.
    let n : c.gather-peeked.result ≡ called = cc in (
      record {
        gathered_seats = c.gather-peeked.new.seats;
        prefetched_by = c.prefetch.new.persister;
        ready = c.prefetch.new.service;
        gathered = c.gather-peeked.ensures.gathered;
        prefetched = unheld known;
        asked = λ asks. was_prefetched (holds ∙ subst (λ (k : ℕ). any_asks_holders (λ x. x.peek) (take k c.args.ready.now) c.gather-peeked.new.seats ≡ true) (sym n) asks) known;
        turn = record { log = k.0; reported = c.take_peeked.new.service.service; between = c.take_peeked.new.seats; taken = k.1; kept = c.in_ok-persist-in-Known.ensures; sent = c.send_replies.ensures.sent };
        reported = t.0;
        reported_is = t.1;
        each = taken_reported on (λ x. x.peek) (λ x. x.stage ≡ stage.Queued) c.args.batch.now.kind (take c.gather-peeked.result c.args.ready.now) t.0 k.0 c.gather-peeked.new.seats c.take_peeked.new.seats t.2 k.2;
      },
      hears_about c.args.service.now c.prefetch.new.service c.take_peeked.new.service _ k.3,
    )

pub returns-in-Lost-clause-unserved : goal.returns-in-Lost-clause-unserved
returns-in-Lost-clause-unserved g c =
    let on = seats_of g.S.Stream.left g.S.Stream.gone in
    let t = c.gather-peeked.ensures.reported in
    λ called same.
    let n : c.gather-peeked.result ≡ called = cc in
    subst (λ (k : ℕ). NotPrefetched on (λ x. x.peek) (λ x. x.stage ≡ stage.Queued) c.args.batch.now.kind (take k c.args.ready.now) c.args.seats.now c.gather-peeked.new.batch.lines.items c.give_up.new.seats) n (record {
      looked = c.gather-peeked.new.seats;
      gathered = c.gather-peeked.ensures.gathered;
      given_up = c.give_up.ensures.gathered;
      reported = t.0;
      reported_is = t.1;
      reports = t.2;
      broken = reported_broken on (λ x. x.peek) (λ x. x.stage ≡ stage.Queued) c.args.batch.now.kind (take c.gather-peeked.result c.args.ready.now) t.0 c.gather-peeked.new.seats c.give_up.new.seats t.2 c.give_up.ensures.reported;
    })

pub slice_bounds-called-end : goal.slice_bounds-called-end
slice_bounds-called-end g c = sym (length-take-le c.gather-peeked.result c.args.ready.now c.gather-peeked.ensures.peeked.0)

pub returns-in_ok-persist-in-Known-clause-rest : goal.returns-in_ok-persist-in-Known-clause-rest
returns-in_ok-persist-in-Known-clause-rest g c = c.send_replies.ensures.rest c.take_peeked.ensures.done

pub returns-in-Lost-clause-lost : goal.returns-in-Lost-clause-lost
returns-in-Lost-clause-lost g c = λ called same. (
  subst (λ d. g.K.Persist.waits c.args.persister.now c.args.service.now.service c.prefetch.new.persister d) (sym c.note_lost.ensures.same) (c.in_ok-prefetch.ensures.lost (ap Ok c.in-Lost.is)),
  lost_whole c.args.service.now c.note_lost.new.service c.prefetch.new.service _ _ _ _ c.gather-peeked.ensures.kind c.deref.ensures.value c.note_lost.ensures.hears,
)

pub returns-in_ok-persist-in-Known-clause-unserved : goal.returns-in_ok-persist-in-Known-clause-unserved
returns-in_ok-persist-in-Known-clause-unserved g c = λ called same. absurd (cc)

pub returns-in_ok-persist-in-Known-clause-lost : goal.returns-in_ok-persist-in-Known-clause-lost
returns-in_ok-persist-in-Known-clause-lost g c = λ called same. absurd (cc)

pub returns-in_ok-persist-in-Known-clause-unsent : goal.returns-in_ok-persist-in-Known-clause-unsent
returns-in_ok-persist-in-Known-clause-unsent g c = tt

pub returns-in_ok-persist-in-Known-clause-called : goal.returns-in_ok-persist-in-Known-clause-called
returns-in_ok-persist-in-Known-clause-called g c = c.gather-peeked.ensures.peeked

pub returns-in_ok-persist-in-Known-clause-room : goal.returns-in_ok-persist-in-Known-clause-room
returns-in_ok-persist-in-Known-clause-room g c = c.take_peeked.ensures.room

pub returns-in-Lost-clause-served : goal.returns-in-Lost-clause-served
returns-in-Lost-clause-served g c = λ called same. absurd (cc)

pub returns-in-Lost-clause-unsent : goal.returns-in-Lost-clause-unsent
returns-in-Lost-clause-unsent g c = tt

pub returns-in-Lost-clause-called : goal.returns-in-Lost-clause-called
returns-in-Lost-clause-called g c = c.gather-peeked.ensures.peeked

pub returns-in-Lost-clause-rest : goal.returns-in-Lost-clause-rest
returns-in-Lost-clause-rest g c = c.give_up.ensures.rest

pub returns-in-Lost-clause-room : goal.returns-in-Lost-clause-room
returns-in-Lost-clause-room g c = c.gather-peeked.ensures.room

pub gather-peeked-requires : goal.gather-peeked-requires
gather-peeked-requires g c = c.requires.room

pub take_peeked-requires : goal.take_peeked-requires
take_peeked-requires g c = record { knows = c.requires.knows; room = c.gather-peeked.ensures.room }

pub returns-in_err-persist-in-Known : goal.returns-in_err-persist-in-Known
returns-in_err-persist-in-Known g c =
    let on = seats_of g.S.Stream.left g.S.Stream.gone in
    let k = c.take_peeked.ensures.taken in
    let result = c.from_residual-in_err-persist-in-Known.result in
    let wrong = c.from_residual-in_err-persist-in-Known.ensures.0 in
    record {
      served = λ called same. absurd (gave_none result _ wrong same);
      unserved = λ called same. absurd (gave_none result _ wrong same);
      lost = λ called same. absurd (gave_none result _ wrong same);
      unsent = always_wrong result (NoneSent on c.args.seats.now c.take_peeked.new.seats)
          (none_sent_peeked on k.0 c.args.seats.now c.gather-peeked.new.seats c.take_peeked.new.seats c.gather-peeked.ensures.gathered k.1.each);
      called = owes_none result _ wrong;
      rest = owes_none result _ wrong;
      room = c.take_peeked.ensures.room;
    }

pub returns-in_err-prefetch : goal.returns-in_err-prefetch
returns-in_err-prefetch g c =
    let on = seats_of g.S.Stream.left g.S.Stream.gone in
    let result = c.from_residual.result in
    let wrong = c.from_residual.ensures.0 in
    record {
      served = λ called same. absurd (gave_none result _ wrong same);
      unserved = λ called same. absurd (gave_none result _ wrong same);
      lost = λ called same. absurd (gave_none result _ wrong same);
      unsent = always_wrong result (NoneSent on c.args.seats.now c.gather-peeked.new.seats)
          (none_sent_peeked on [] c.args.seats.now c.gather-peeked.new.seats c.gather-peeked.new.seats c.gather-peeked.ensures.gathered (λ i. seat_rests on (get_or c.gather-peeked.new.seats i None)));
      called = owes_none result _ wrong;
      rest = owes_none result _ wrong;
      room = c.gather-peeked.ensures.room;
    }
