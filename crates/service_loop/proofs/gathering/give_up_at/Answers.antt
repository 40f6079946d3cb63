use borrow.Author.Rules.{scaled_Fits}
use Rattle.std.proofs.lemmas.List.{set-get_or, get_or_past}
use Rattle.std.proofs.Common.{◌≡◌, ◌∙◌, Some, None, ap, subst, sym, get_or, refl}
use Rattle.service_loop.proofs.Common.{get_or_default, get_or-set_same, get_or-set_other, SeatAsks, SeatBroken, SeatIs, seats_of, Gathered}
use Rattle.service_loop.specs.declared.connection.ConnectionStage.TheVariants as stage
use Rattle.service_loop.proofs.GatherLemmas.{gathered_none, kept_at}
use Rattle.service_loop.proofs.gathering.give_up_at.Goals as goal

pub returns-in-Some : goal.returns-in-Some
returns-in-Some g c =
    let on = seats_of g.S.Stream.left g.S.Stream.gone in
    let below = c.if-key-seats.true in
    let was = c.in-Some.connection in
    let is = c.give_up.new.self in
    let there = get_or_default c.args.seats.now c.args.key None c.index-seats-key.result below ∙ c.in-Some.is in
    record {
      gathered = kept_at on c.args.key c.args.seats.now was is below there (ap (λ s. g.S.Stream.left s) c.give_up.ensures.stream) (ap (λ s. g.S.Stream.gone s) c.give_up.ensures.stream)
          c.give_up.ensures.buffers c.give_up.ensures.whole;
      reported = λ asks. subst (λ x. SeatBroken on x) (sym (get_or-set_same c.args.seats.now c.args.key (Some is) None below)) (c.give_up.ensures.reported (subst (λ x. SeatAsks (λ q. q.peek) x) there asks));
      rests = subst (λ x. SeatIs (λ q. q.stage ≡ stage.Idle) x) (sym (get_or-set_same c.args.seats.now c.args.key (Some is) None below)) c.give_up.ensures.stage;
      others = λ i other. get_or-set_other c.args.seats.now c.args.key i (Some is) None other;
    }

pub offset_bounds-seats-key : goal.offset_bounds-seats-key
offset_bounds-seats-key g c = scaled_Fits _ _ _ c.if-key-seats.true c.well_formed.0.1

pub bounds-seats-key : goal.bounds-seats-key
bounds-seats-key g c = c.if-key-seats.true

pub returns-else-key-seats : goal.returns-else-key-seats
returns-else-key-seats g c = record {
  gathered = gathered_none (seats_of g.S.Stream.left g.S.Stream.gone) c.args.seats.now;
  reported = λ asks. absurd (subst (λ x. SeatAsks (λ q. q.peek) x) (get_or_past c.args.seats.now c.args.key None c.if-key-seats.false) asks);
  rests = subst (λ x. SeatIs (λ q. q.stage ≡ stage.Idle) x) (sym (get_or_past c.args.seats.now c.args.key None c.if-key-seats.false)) tt;
  others = λ i other. refl;
}

pub returns-in_default : goal.returns-in_default
returns-in_default g c =
    let on = seats_of g.S.Stream.left g.S.Stream.gone in
    let back = set-get_or c.args.seats.now c.args.key c.index-seats-key.result in
    let there = get_or_default c.args.seats.now c.args.key None c.index-seats-key.result c.if-key-seats.true ∙ c.in_default.is in
    record {
      gathered = subst (λ x. Gathered on c.args.seats.now x) (sym back) (gathered_none on c.args.seats.now);
      reported = λ asks. absurd (subst (λ x. SeatAsks (λ q. q.peek) x) there asks);
      rests = subst (λ x. SeatIs (λ q. q.stage ≡ stage.Idle) x) (sym (ap (λ x. get_or x c.args.key None) back ∙ there)) tt;
      others = λ i other. ap (λ x. get_or x i None) back;
    }
