use borrow.Author.Rules.{scaled_Fits}
use Rattle.std.proofs.lemmas.List.{set-get_or, get_or_past}
use Rattle.std.proofs.Common.{◌≡◌, ◌∙◌, inr, Some, None, sym, inl, refl, subst, set, ap, get_or}
use Rattle.service_loop.proofs.Common.{get_or_default, get_or-set_same, get_or-set_other, SeatIs, seats_of}
use Rattle.service_loop.specs.declared.connection.ConnectionStage.TheVariants as stage
use Rattle.service_loop.proofs.SeatLemmas.{seat_sent}
use Rattle.service_loop.proofs.CallLemmas.{rests_else}
use Rattle.service_loop.proofs.turns.send_at.Goals as goal

pub returns-in-Taken : goal.returns-in-Taken
returns-in-Taken g c =
    let below = c.if-key-seats.true in
    record {
      sent = inr (seat_sent (seats_of g.S.Stream.left g.S.Stream.gone) (λ x. x.stage ≡ stage.Taken)
          c.args.key c.args.seats.now c.in-Some.connection c.send.new.self below (get_or_default c.args.seats.now c.args.key None c.index-seats-key.result below ∙ c.in-Some.is) c.in-Taken.is
          (λ again. (let e : stage.Idle ≡ stage.Taken = sym c.send.ensures.stage ∙ again in absurd cc)) c.send.ensures.sends c.send.ensures.unread);
      rests = λ before. subst (λ x. SeatIs (λ q. q.stage ≡ stage.Idle) x) (sym (get_or-set_same c.args.seats.now c.args.key (Some c.send.new.self) None below)) c.send.ensures.stage;
      others = λ i other. get_or-set_other c.args.seats.now c.args.key i (Some c.send.new.self) None other;
    }

pub offset_bounds-seats-key : goal.offset_bounds-seats-key
offset_bounds-seats-key g c = scaled_Fits _ _ _ c.if-key-seats.true c.well_formed.0.1

pub bounds-seats-key : goal.bounds-seats-key
bounds-seats-key g c = c.if-key-seats.true

pub returns-else-key-seats : goal.returns-else-key-seats
returns-else-key-seats g c = record {
  sent = inl refl;
  rests = λ before. subst (λ x. SeatIs (λ q. q.stage ≡ stage.Idle) x) (sym (get_or_past c.args.seats.now c.args.key None c.if-key-seats.false)) tt;
  others = λ i other. refl;
}

pub returns-in_default : goal.returns-in_default
returns-in_default g c =
    let back = set-get_or c.args.seats.now c.args.key c.index-seats-key.result in
    let there = get_or_default c.args.seats.now c.args.key None c.index-seats-key.result c.if-key-seats.true ∙ c.in_default.is in
    record {
      sent = inl back;
      rests = λ before. subst (λ x. SeatIs (λ q. q.stage ≡ stage.Idle) x) (sym (ap (λ x. get_or x c.args.key None) back ∙ there)) tt;
      others = λ i other. ap (λ x. get_or x i None) back;
    }

pub returns-in_default-stage : goal.returns-in_default-stage
returns-in_default-stage g c =
    let back = subst (λ x. set c.args.seats.now c.args.key x ≡ c.args.seats.now) c.in-Some.is (set-get_or c.args.seats.now c.args.key c.index-seats-key.result) in
    let was = c.in-Some.connection in
    let there = get_or_default c.args.seats.now c.args.key None c.index-seats-key.result c.if-key-seats.true ∙ c.in-Some.is in
    record {
      sent = inl back;
      rests = λ before. subst (λ x. SeatIs (λ q. q.stage ≡ stage.Idle) x) (sym (ap (λ x. get_or x c.args.key None) back ∙ there))
          (rests_else was.stage (subst (λ x. SeatIs (λ q. q.stage ≡ stage.Queued → ⊥) x) there before) c.in_default-stage.not-Taken);
      others = λ i other. ap (λ x. get_or x i None) back;
    }
