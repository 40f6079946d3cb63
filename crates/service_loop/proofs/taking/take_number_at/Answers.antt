use borrow.Author.Rules.{scaled_Fits}
use Rattle.std.proofs.lemmas.List.{set-get_or}
use Rattle.std.proofs.Common.{◌≡◌, ◌∙◌, inl, inr, None, refl, sym, set, ap, subst}
use Rattle.service_loop.proofs.Common.{get_or_default, seats_of}
use Rattle.service_loop.specs.declared.connection.ConnectionStage.TheVariants as stage
use Rattle.service_loop.proofs.AttendedLemmas.{runs_listened}
use Rattle.service_loop.proofs.TakingLemmas.{seat_took_number}
use Rattle.service_loop.proofs.taking.take_number_at.Goals as goal

pub returns-in-Idle-clause-took : goal.returns-in-Idle-clause-took
returns-in-Idle-clause-took g c =
    let below = c.if-key-seats.true in
    let took = c.take_number.ensures.takes in
    let r = runs_listened g.D.Service.may c.args.number took.0 c.args.service.now c.listen_to.new.self c.take_number.new.service c.listen_to.ensures took.1 in
    inr (
      seat_took_number (seats_of g.S.Stream.left g.S.Stream.gone) c.args.manner c.args.ahead c.args.shared.now.patient g.D.Service.may (λ x. x.stage ≡ stage.Idle)
          c.args.key c.args.service.now.service c.args.seats.now c.take_number.new.service.service c.in-Some.connection c.take_number.new.self below (get_or_default c.args.seats.now c.args.key None c.index-seats-key.result below ∙ c.in-Some.is) c.in-Idle.is
          (λ again. (let e : stage.Taken ≡ stage.Idle = sym c.take_number.ensures.stage ∙ again in absurd cc)) took.0 r.0 took.2
          (ap (λ s. g.S.Stream.left s) c.take_number.ensures.stream) (ap (λ s. g.S.Stream.gone s) c.take_number.ensures.stream),
      r.1,
    )

pub returns-in-Idle-clause-room : goal.returns-in-Idle-clause-room
returns-in-Idle-clause-room g c = c.take_number.ensures.room

pub take_number-requires : goal.take_number-requires
take_number-requires g c = record { knows = c.requires.knows; room = c.requires.room }

pub offset_bounds-seats-key : goal.offset_bounds-seats-key
offset_bounds-seats-key g c = scaled_Fits _ _ _ c.if-key-seats.true c.well_formed.1.1.1.0.1

pub bounds-seats-key : goal.bounds-seats-key
bounds-seats-key g c = c.if-key-seats.true

pub returns-else-key-seats : goal.returns-else-key-seats
returns-else-key-seats g c = record { took = inl (refl, refl); room = c.requires.room; patient = refl }

pub returns-in_default : goal.returns-in_default
returns-in_default g c = record { took = inl (refl, set-get_or c.args.seats.now c.args.key c.index-seats-key.result); room = c.requires.room; patient = refl }

pub returns-in_default-stage : goal.returns-in_default-stage
returns-in_default-stage g c =
    record { took = inl (refl, subst (λ x. set c.args.seats.now c.args.key x ≡ c.args.seats.now) c.in-Some.is (set-get_or c.args.seats.now c.args.key c.index-seats-key.result)); room = c.requires.room; patient = refl }
