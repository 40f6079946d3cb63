use borrow.Author.Rules.{scaled_Fits}
use Rattle.std.proofs.lemmas.List.{set-get_or, get_or_past}
use Rattle.std.proofs.Common.{◌∙◌, Some, None, ap, subst, sym, get_or, length, refl}
use Rattle.service_loop.proofs.Common.{get_or_default, get_or-set_same, get_or-set_other, length-set, seats_of, BuffersState}
use Rattle.service_loop.proofs.SendingLemmas.{unsent_at, unsent_none}
use Rattle.service_loop.specs.Keepers.{SeatFails}
use Rattle.service_loop.specs.Sendings.{Unsent}
use Rattle.service_loop.proofs.failing.fail_at.Goals as goal

pub returns-in-Some : goal.returns-in-Some
returns-in-Some g c =
    let on = seats_of g.S.Stream.left g.S.Stream.gone in
    let below = c.if-key-seats.true in
    let was = c.in-Some.connection in
    let is = c.fail.new.self in
    let there = get_or_default c.args.seats.now c.args.key None c.index-seats-key.result below ∙ c.in-Some.is in
    let here = get_or-set_same c.args.seats.now c.args.key (Some is) None below in
    let broken = ap (λ (b : BuffersState). b.broken) c.fail.ensures.buffers in
    record {
      fails = subst (λ x. SeatFails x) (sym here) broken;
      others = λ i other. get_or-set_other c.args.seats.now c.args.key i (Some is) None other;
      many = length-set c.args.seats.now c.args.key (Some is);
      unsent = unsent_at on c.args.key c.args.seats.now was is below there (ap (λ s. g.S.Stream.gone s) c.fail.ensures.stream) broken;
    }

pub offset_bounds-seats-key : goal.offset_bounds-seats-key
offset_bounds-seats-key g c = scaled_Fits _ _ _ c.if-key-seats.true c.well_formed.0.1

pub bounds-seats-key : goal.bounds-seats-key
bounds-seats-key g c = c.if-key-seats.true

pub returns-else-key-seats : goal.returns-else-key-seats
returns-else-key-seats g c = record {
  fails = subst (λ x. SeatFails x) (sym (get_or_past c.args.seats.now c.args.key None c.if-key-seats.false)) tt;
  others = λ i other. refl;
  many = refl;
  unsent = unsent_none (seats_of g.S.Stream.left g.S.Stream.gone) c.args.seats.now;
}

pub returns-in_default : goal.returns-in_default
returns-in_default g c =
    let on = seats_of g.S.Stream.left g.S.Stream.gone in
    let back = set-get_or c.args.seats.now c.args.key c.index-seats-key.result in
    let there = get_or_default c.args.seats.now c.args.key None c.index-seats-key.result c.if-key-seats.true ∙ c.in_default.is in
    record {
      fails = subst (λ x. SeatFails x) (sym (ap (λ x. get_or x c.args.key None) back ∙ there)) tt;
      others = λ i other. ap (λ x. get_or x i None) back;
      many = ap (λ x. length x) back;
      unsent = subst (λ x. Unsent on c.args.seats.now x) (sym back) (unsent_none on c.args.seats.now);
    }
