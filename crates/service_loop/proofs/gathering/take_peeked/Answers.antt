use Rattle.std.proofs.Common.{◌≡◌, ◌+◌, inl, inr, ◌++◌, [], ℕ, length, get_or, refl, subst, arith}
use Rattle.service_loop.proofs.Common.{TurnLog, tagged, seats_of}
use Rattle.service_loop.specs.declared.connection.ConnectionStage.TheVariants as stage
use Rattle.service_loop.proofs.SeatLemmas.{Going, going_none, going_on}
use Rattle.service_loop.proofs.ReportedLemmas.{Taking, taking_idle, taking_on, taking_all}
use Rattle.service_loop.proofs.CallLemmas.{first_none, first_on, first_all}
use Rattle.service_loop.specs.Attending.{Hears, acts_in, acts_of, number_at}
use Rattle.service_loop.proofs.AttendedLemmas.{hears_none, hears_on}
use Rattle.service_loop.proofs.gathering.take_peeked.Goals as goal

pub loop-key-init : goal.loop-key-init
loop-key-init g c = record {
  so = ([], going_none (seats_of g.S.Stream.left g.S.Stream.gone) g.D.Service.may (λ x. x.stage ≡ stage.Queued) c.args.service.now.service c.args.seats.now, (λ i. inl refl), hears_none c.args.service.now);
  done = first_none (λ x. x.stage ≡ stage.Queued → ⊥) c.args.called.now c.args.seats.now;
  room = c.requires.room;
}

pub loop-key-preserved : goal.loop-key-preserved
loop-key-preserved g c =
    let on = seats_of g.S.Stream.left g.S.Stream.gone in
    let i = c.loop-key.invariant in
    let log = i.so.0 in
    let n = c.loop-key.key-index in
    let keys = c.args.called.now in
    let seats = c.args.seats.now in
    let w = c.args.service.now in
    let number = number_at c.args.numbers.now in
    record {
      so = elim c.take_peeked_at.ensures.took as (λ _. (l : TurnLog) × Going on g.D.Service.may (λ x. x.stage ≡ stage.Queued) w.service seats l c.take_peeked_at.new.service.service c.take_peeked_at.new.seats ×
          Taking on (λ x. x.peek) (λ x. x.stage ≡ stage.Queued) keys seats (n + 1) l c.take_peeked_at.new.seats × Hears (acts_in number l) w c.take_peeked_at.new.service) [
            | inl same ↦ (log, rw (same.0, same.1) i.so.1, rw same.1 (taking_idle on (λ x. x.peek) (λ x. x.stage ≡ stage.Queued) keys seats n log c.loop-key.seats i.so.2), rw same.0 i.so.3)
            | inr one ↦ (
              log ++ tagged (get_or keys n 0) one.0.turn.turns,
              going_on on g.D.Service.may (λ x. x.stage ≡ stage.Queued) w.service seats log c.loop-key.service.service c.take_peeked_at.new.service.service c.loop-key.seats c.take_peeked_at.new.seats (get_or keys n 0) i.so.1 one.0.turn,
              taking_on on (λ x. x.peek) (λ x. x.stage ≡ stage.Queued) keys seats g.D.Service.may w.service n log c.loop-key.service.service c.take_peeked_at.new.service.service c.loop-key.seats c.take_peeked_at.new.seats i.so.1 i.so.2 one.0,
              hears_on number log (get_or keys n 0) one.0.turn.turns w c.loop-key.service c.take_peeked_at.new.service i.so.3
                  (subst (λ (m : ℕ). Hears (acts_of m one.0.turn.turns) c.loop-key.service c.take_peeked_at.new.service) c.number_at.ensures one.1),
            )
          ];
      done = first_on (λ x. x.stage ≡ stage.Queued → ⊥) n keys c.loop-key.seats c.take_peeked_at.new.seats i.done c.take_peeked_at.ensures.done c.take_peeked_at.ensures.others;
      room = c.take_peeked_at.ensures.room;
    }

pub returns-clause-taken : goal.returns-clause-taken
returns-clause-taken g c =
    let on = seats_of g.S.Stream.left g.S.Stream.gone in
    let i = c.loop-key.invariant in
    let all : c.loop-key.key-index ≡ length c.args.called.now = omega (arith, c.loop-key-test.false, c.loop-key.auto.key-index-end) in (
      i.so.0,
      i.so.1.taken,
      taking_all on (λ x. x.peek) (λ x. x.stage ≡ stage.Queued) c.args.called.now c.args.seats.now i.so.0 c.loop-key.seats
          (subst (λ (n : ℕ). Taking on (λ x. x.peek) (λ x. x.stage ≡ stage.Queued) c.args.called.now c.args.seats.now n i.so.0 c.loop-key.seats) all i.so.2),
      i.so.3,
    )

pub returns-clause-done : goal.returns-clause-done
returns-clause-done g c = first_all (λ x. x.stage ≡ stage.Queued → ⊥) c.loop-key.key-index c.args.called.now c.loop-key.seats c.loop-key-test.false c.loop-key.invariant.done

pub returns-clause-room : goal.returns-clause-room
returns-clause-room g c = c.loop-key.invariant.room

pub take_peeked_at-requires : goal.take_peeked_at-requires
take_peeked_at-requires g c = record { knows = c.requires.knows; room = c.loop-key.invariant.room }
