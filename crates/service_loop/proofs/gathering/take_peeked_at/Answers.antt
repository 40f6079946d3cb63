use borrow.Author.Rules.{scaled_Fits}
use Rattle.std.proofs.lemmas.List.{set-get_or, get_or_past}
use Rattle.std.proofs.Common.{◌≡◌, ◌∙◌, inr, Some, None, sym, inl, refl, subst, set}
use Rattle.service_loop.proofs.Common.{get_or_default, get_or-set_same, SeatIs, seats_of}
use Rattle.service_loop.specs.declared.connection.ConnectionStage.TheVariants as stage
use Rattle.service_loop.proofs.ReportedLemmas.{seat_turn_peeked}
use Rattle.service_loop.proofs.SeatLemmas.{seat_waits}
use Rattle.service_loop.proofs.AttendedLemmas.{runs_listened}
use Rattle.service_loop.proofs.gathering.take_peeked_at.Goals as goal

pub returns-in-Queued-clause-took : goal.returns-in-Queued-clause-took
returns-in-Queued-clause-took g c =
    let below = c.if-key-seats.true in
    let took = c.take_peeked.ensures.takes in
    let r = runs_listened g.D.Service.may c.args.number took.0 c.args.service.now c.listen_to.new.self c.take_peeked.new.service c.listen_to.ensures took.1 in
    inr (
      seat_turn_peeked (seats_of g.S.Stream.left g.S.Stream.gone) (λ x. x.peek) (λ x. x.stage ≡ stage.Queued) g.D.Service.may
          c.args.key c.args.service.now.service c.args.seats.now c.take_peeked.new.service.service c.in-Some.connection c.take_peeked.new.self below
          (get_or_default c.args.seats.now c.args.key None c.index-seats-key.result below ∙ c.in-Some.is) c.in-Queued.is
          (λ again. (let e : stage.Taken ≡ stage.Queued = sym c.take_peeked.ensures.stage ∙ again in absurd cc)) (took.0, r.0, took.2) c.take_peeked.ensures.unsent,
      r.1,
    )

pub returns-in-Queued-clause-done : goal.returns-in-Queued-clause-done
returns-in-Queued-clause-done g c =
    subst (λ x. SeatIs (λ q. q.stage ≡ stage.Queued → ⊥) x) (sym (get_or-set_same c.args.seats.now c.args.key (Some c.take_peeked.new.self) None c.if-key-seats.true))
    (λ again. (let e : stage.Taken ≡ stage.Queued = sym c.take_peeked.ensures.stage ∙ again in absurd cc))

pub offset_bounds-seats-key : goal.offset_bounds-seats-key
offset_bounds-seats-key g c = scaled_Fits _ _ _ c.if-key-seats.true c.well_formed.1.1.1.0.1

pub returns-else-key-seats : goal.returns-else-key-seats
returns-else-key-seats g c =
    let seats = c.args.seats.now in
    let rest = seat_waits seats c.args.key (λ q. q.stage ≡ stage.Queued → ⊥) seats None refl (get_or_past seats c.args.key None c.if-key-seats.false) tt in
    record { took = inl (refl, refl); done = rest.0; others = rest.1; room = c.requires.room }

pub returns-in_default : goal.returns-in_default
returns-in_default g c =
    let seats = c.args.seats.now in
    let back = set-get_or seats c.args.key c.index-seats-key.result in
    let there = get_or_default seats c.args.key None c.index-seats-key.result c.if-key-seats.true ∙ c.in_default.is in
    let rest = seat_waits seats c.args.key (λ q. q.stage ≡ stage.Queued → ⊥) _ None back there tt in
    record { took = inl (refl, back); done = rest.0; others = rest.1; room = c.requires.room }

pub returns-in_default-stage : goal.returns-in_default-stage
returns-in_default-stage g c =
    let seats = c.args.seats.now in
    let back = subst (λ x. set seats c.args.key x ≡ seats) c.in-Some.is (set-get_or seats c.args.key c.index-seats-key.result) in
    let there = get_or_default seats c.args.key None c.index-seats-key.result c.if-key-seats.true ∙ c.in-Some.is in
    let rest = seat_waits seats c.args.key (λ q. q.stage ≡ stage.Queued → ⊥) _ (Some c.in-Some.connection) back there c.in_default-stage.not-Queued in
    record { took = inl (refl, back); done = rest.0; others = rest.1; room = c.requires.room }
