use borrow.Author.Rules.{scaled_Fits}
use Rattle.std.proofs.lemmas.List.{set-get_or, get_or_past}
use Rattle.std.proofs.Common.{◌∙◌, None, Some, ap, get_or, refl, subst, sym}
use Rattle.service_loop.proofs.Common.{get_or_default, get_or-set_same, get_or-set_other, seats_of, BuffersState, Gathered}
use Rattle.service_loop.proofs.GatherLemmas.{gathered_none, kept_at}
use Rattle.service_loop.proofs.WaitingLemmas.{given_whole}
use Rattle.service_loop.specs.Taking.{SeatGivenUp}
use Rattle.service_loop.proofs.taking.give_up_taking_at.Goals as goal

pub returns-in-Some : goal.returns-in-Some
returns-in-Some g c =
    let on = seats_of g.S.Stream.left g.S.Stream.gone in
    let below = c.if-key-seats.true in
    let was = c.in-Some.connection in
    let is = c.give_up_taking.new.self in
    let up = c.give_up_taking.ensures in
    let left = ap (λ s. g.S.Stream.left s.stream) up in
    let gone = ap (λ s. g.S.Stream.gone s.stream) up in
    let buffers = ap (λ s. s.buffers) up in
    let there = get_or_default c.args.seats.now c.args.key None c.index-seats-key.result below ∙ c.in-Some.is in
    record {
      gathered = kept_at on c.args.key c.args.seats.now was is below there left gone
          (buffers ∙ ap (λ b. (let r : BuffersState = record was.buffers { broken = b } in r)) (sym (ap (λ (q : BuffersState). q.broken) buffers)))
          (λ whole. given_whole was.buffers (sym (ap (λ (q : BuffersState). q.broken) buffers) ∙ whole));
      given = rw (there, get_or-set_same c.args.seats.now c.args.key (Some is) None below) (buffers, left, gone);
      others = λ i other. get_or-set_other c.args.seats.now c.args.key i (Some is) None other;
    }

pub offset_bounds-seats-key : goal.offset_bounds-seats-key
offset_bounds-seats-key g c = scaled_Fits _ _ _ c.if-key-seats.true c.well_formed.0.1

pub bounds-seats-key : goal.bounds-seats-key
bounds-seats-key g c = c.if-key-seats.true

pub returns-else-key-seats : goal.returns-else-key-seats
returns-else-key-seats g c =
    let on = seats_of g.S.Stream.left g.S.Stream.gone in
    record {
      gathered = gathered_none on c.args.seats.now;
      given = subst (λ x. SeatGivenUp on x x) (sym (get_or_past c.args.seats.now c.args.key None c.if-key-seats.false)) tt;
      others = λ i other. refl;
    }

pub returns-in_default : goal.returns-in_default
returns-in_default g c =
    let on = seats_of g.S.Stream.left g.S.Stream.gone in
    let back = set-get_or c.args.seats.now c.args.key c.index-seats-key.result in
    let there = get_or_default c.args.seats.now c.args.key None c.index-seats-key.result c.if-key-seats.true ∙ c.in_default.is in
    record {
      gathered = subst (λ x. Gathered on c.args.seats.now x) (sym back) (gathered_none on c.args.seats.now);
      given = subst (λ l. SeatGivenUp on (get_or c.args.seats.now c.args.key None) (get_or l c.args.key None)) (sym back) (subst (λ x. SeatGivenUp on x x) (sym there) tt);
      others = λ i other. ap (λ x. get_or x i None) back;
    }
