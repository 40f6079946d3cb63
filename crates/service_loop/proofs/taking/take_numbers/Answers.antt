use Rattle.std.proofs.Common.{inl, inr, ℕ, ◌++◌, ◌∙◌, [], refl, subst, get_or, ◌≡◌}
use Rattle.service_loop.proofs.Common.{TurnLog, tagged, seats_of}
use Rattle.service_loop.specs.declared.connection.ConnectionStage.TheVariants as stage
use Rattle.service_loop.specs.Attending.{Hears, acts_in, acts_of, number_at}
use Rattle.service_loop.proofs.AttendedLemmas.{hears_none, hears_on}
use Rattle.service_loop.proofs.TakingLemmas.{Taking, taking_none, taking_on}
use Rattle.service_loop.proofs.taking.take_numbers.Goals as goal

pub loop-key-init : goal.loop-key-init
loop-key-init g c = record {
  so = ([], taking_none (seats_of g.S.Stream.left g.S.Stream.gone) c.args.manner c.args.ahead c.args.shared.now.patient g.D.Service.may (λ x. x.stage ≡ stage.Idle) c.args.service.now.service c.args.seats.now, hears_none c.args.service.now);
  room = c.requires.room;
  patient = refl;
}

pub loop-key-preserved : goal.loop-key-preserved
loop-key-preserved g c =
    let on = seats_of g.S.Stream.left g.S.Stream.gone in
    let may = g.D.Service.may in
    let i = c.loop-key.invariant in
    let log = i.so.0 in
    let key = get_or c.args.called.now c.loop-key.key-index 0 in
    let seats = c.args.seats.now in
    let w = c.args.service.now in
    let number = number_at c.args.numbers.now in
    let took = rw i.patient at c.take_number_at.ensures.took in
    record {
      so = elim took as (λ _. (l : TurnLog) × Taking on c.args.manner c.args.ahead c.args.shared.now.patient may (λ x. x.stage ≡ stage.Idle) w.service seats l c.take_number_at.new.service.service c.take_number_at.new.seats ×
          Hears (acts_in number l) w c.take_number_at.new.service) [
            | inl same ↦ (log, rw (same.0, same.1) i.so.1, rw same.0 i.so.2)
            | inr one ↦ (
              log ++ tagged key one.0.turns,
              taking_on on c.args.manner c.args.ahead c.args.shared.now.patient may (λ x. x.stage ≡ stage.Idle) w.service seats log c.loop-key.service.service c.take_number_at.new.service.service c.loop-key.seats c.take_number_at.new.seats key i.so.1 one.0,
              hears_on number log key one.0.turns w c.loop-key.service c.take_number_at.new.service i.so.2
                  (subst (λ (m : ℕ). Hears (acts_of m one.0.turns) c.loop-key.service c.take_number_at.new.service) c.number_at.ensures one.1),
            )
          ];
      room = c.take_number_at.ensures.room;
      patient = c.take_number_at.ensures.patient ∙ i.patient;
    }

pub take_number_at-requires : goal.take_number_at-requires
take_number_at-requires g c = record { knows = c.requires.knows; room = c.loop-key.invariant.room }
