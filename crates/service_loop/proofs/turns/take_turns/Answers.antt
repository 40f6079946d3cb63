use borrow.Author.Rules.{scaled_Fits}
use Rattle.std.proofs.Common.{◌≡◌, ◌∙◌, true, false, sym, inl, inr, ℕ, ◌++◌, [], refl, subst, get_or, take, arith}
use Rattle.service_loop.proofs.Common.{TurnLog, eq-eqb, tagged, seats_of}
use Rattle.service_loop.specs.declared.connection.ConnectionStage.TheVariants as stage
use Rattle.service_loop.proofs.SeatLemmas.{Going, going_none, going_on}
use Rattle.service_loop.proofs.CallLemmas.{calls_all, calls_some, first_none, first_on, first_called, same_on, same_served}
use Rattle.service_loop.specs.ConnectionBuffers.{HasTakenAll}
use Rattle.service_loop.specs.Attending.{Hears, acts_in, acts_of, number_at}
use Rattle.service_loop.proofs.AttendedLemmas.{hears_none, hears_on}
use Rattle.service_loop.proofs.turns.take_turns.Goals.{then-called-eq0, else-called-eq0}
use Rattle.service_loop.proofs.turns.take_turns.Goals as goal

pub loop-called-init : goal.loop-called-init
loop-called-init g c = record {
  so = ([], going_none (seats_of g.S.Stream.left g.S.Stream.gone) g.D.Service.may (λ x. x.stage ≡ stage.Queued) c.args.service.now.service c.args.seats.now, hears_none c.args.service.now);
  done = first_none (λ x. x.stage ≡ stage.Queued → ⊥) c.args.ready.now c.args.seats.now;
  all = λ i. inl refl;
  room = c.requires.room;
  inside = omega arith;
}

pub loop-called-preserved : goal.loop-called-preserved
loop-called-preserved g c =
    let i = c.loop-called.invariant in
    let log = i.so.0 in
    let on = seats_of g.S.Stream.left g.S.Stream.gone in
    let may = g.D.Service.may in
    let number = number_at c.args.numbers.now in
    let w = c.args.service.now in
    let seats = c.args.seats.now in
    let key = get_or c.args.ready.now c.loop-called.called 0 in
    record {
      so = elim c.take_at.ensures.took as (λ _. (l : TurnLog) × Going on may (λ x. x.stage ≡ stage.Queued) w.service seats l c.take_at.new.service.service c.take_at.new.seats ×
          Hears (acts_in number l) w c.take_at.new.service) [
            | inl same ↦ (log, rw (same.0, same.1) i.so.1, rw same.0 i.so.2)
            | inr one ↦ (
              log ++ tagged key one.0.turns,
              going_on on may (λ x. x.stage ≡ stage.Queued) w.service seats log c.loop-called.service.service c.take_at.new.service.service c.loop-called.seats c.take_at.new.seats key i.so.1 one.0,
              hears_on number log key one.0.turns w c.loop-called.service c.take_at.new.service i.so.2 (subst (λ (n : ℕ). Hears (acts_of n one.0.turns) c.loop-called.service c.take_at.new.service) c.number_at.ensures one.1),
            )
          ];
      done = first_on (λ x. x.stage ≡ stage.Queued → ⊥) c.loop-called.called c.args.ready.now c.loop-called.seats c.take_at.new.seats i.done c.take_at.ensures.done c.take_at.ensures.others;
      all = same_on (λ x. HasTakenAll x.buffers) (get_or c.args.ready.now c.loop-called.called 0) c.args.seats.now c.loop-called.seats c.take_at.new.seats i.all c.take_at.ensures.all c.take_at.ensures.others;
      room = c.take_at.ensures.room;
      inside = omega (arith, c.loop-called-test.true);
    }

pub take_at-requires : goal.take_at-requires
take_at-requires g c = record { knows = c.requires.knows; room = c.loop-called.invariant.room }

pub bounds-ready-called : goal.bounds-ready-called
bounds-ready-called g c = c.loop-called-test.true

pub offset_bounds-ready-called : goal.offset_bounds-ready-called
offset_bounds-ready-called g c = scaled_Fits _ _ _ c.loop-called-test.true c.well_formed.1.1.1.1.1.1.0.1

pub overflow_add-called : goal.overflow_add-called
overflow_add-called g c = omega (arith, c.loop-called-test.true, c.well_formed.1.1.1.1.1.1.0.1)

pub loop-called-smaller : goal.loop-called-smaller
loop-called-smaller g c = omega (arith, c.loop-called-test.true)

pub returns-else-not-is_full-clause-served : goal.returns-else-not-is_full-clause-served
returns-else-not-is_full-clause-served g c =
    let i = c.loop-called.invariant in
    same_served (seats_of g.S.Stream.left g.S.Stream.gone) (λ x. x.stage ≡ stage.Queued) (take c.loop-called.called c.args.ready.now) c.args.seats.now c.loop-called.seats
    (first_called (λ x. x.stage ≡ stage.Queued → ⊥) c.loop-called.called c.args.ready.now c.loop-called.seats i.inside i.done) i.all

pub returns-after-loop-called-clause-served : goal.returns-after-loop-called-clause-served
returns-after-loop-called-clause-served g c =
    let i = c.loop-called.invariant in
    same_served (seats_of g.S.Stream.left g.S.Stream.gone) (λ x. x.stage ≡ stage.Queued) (take c.loop-called.called c.args.ready.now) c.args.seats.now c.loop-called.seats
    (first_called (λ x. x.stage ≡ stage.Queued → ⊥) c.loop-called.called c.args.ready.now c.loop-called.seats i.inside i.done) i.all

pub returns-else-not-is_full-clause-done : goal.returns-else-not-is_full-clause-done
returns-else-not-is_full-clause-done g c =
    let i = c.loop-called.invariant in
    first_called (λ x. x.stage ≡ stage.Queued → ⊥) c.loop-called.called c.args.ready.now c.loop-called.seats i.inside i.done

pub returns-after-loop-called-clause-done : goal.returns-after-loop-called-clause-done
returns-after-loop-called-clause-done g c =
    let i = c.loop-called.invariant in
    first_called (λ x. x.stage ≡ stage.Queued → ⊥) c.loop-called.called c.args.ready.now c.loop-called.seats i.inside i.done

pub returns-else-not-is_full-clause-called : goal.returns-else-not-is_full-clause-called
returns-else-not-is_full-clause-called g c =
    calls_some c.args.ready.now c.loop-called.called c.loop-called.invariant.inside (elim c.if-called-eq0.branch as (λ _. c.loop-called.called ≡ 0 → ⊥) [
      | then-called-eq0 w ↦ λ none. (let full : true ≡ false = sym (eq-eqb c.loop-called.called 0 none) ∙ sym w.value-is ∙ c.if-not-is_full.false in absurd cc)
      | else-called-eq0 w ↦ w.if-called-eq0.false
    ])

pub returns-after-loop-called-clause-called : goal.returns-after-loop-called-clause-called
returns-after-loop-called-clause-called g c = calls_all c.args.ready.now c.loop-called.called c.loop-called.invariant.inside c.loop-called-test.false
