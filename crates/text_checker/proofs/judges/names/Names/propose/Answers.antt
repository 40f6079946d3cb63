use Rattle.std.proofs.Common.{◌≡◌, ℕ, ◌+◌, ◌<◌, ◌∙◌, refl, ap, arith, subst, slice_set}
use Rattle.text_checker.proofs.judges_lemmas.Common.{set_at, Standing, Names, HoldsMoments, turn_of, count_of}
use Rattle.text_checker.proofs.judges_lemmas.seats.People.{there}
use Rattle.text_checker.proofs.judges_lemmas.seats.Names.{has_proposed}
use Rattle.text_checker.proofs.judges.names.Names.propose.Goals as goal

pub returns : goal.returns
returns c = λ terms o h none few may.
    let s : Names = c.args.self.now in
    let ps = s.participants in
    let old : Standing = c.in-Some.standing in
    let is = there c.args.id c.find.ensures refl c.in-Some.is in
    let many = h.people.many in
    let fits = h.fits in
    let room = h.room in
    let top = may.small in
    let small : c.args.number < 128 = omega arith in
    let number : c.min-number.result ≡ c.args.number = grind (arith, c.min-number.ensures, small) in
    let held : HoldsMoments c.propose.new.self (o.last + 1) (set_at h.turns.rows (o.last + 1) (slice_set (h.turns.rows o.last) old.turn.seat c.min-number.result)) =
    c.in_ok-propose.ensures o.last h.turns.rows h.turns.held few in
    let last : c.last.result ≡ o.last + 1 = c.last.ensures (o.last + 1) _ held in
    let count : o.count c.args.id ≡ old.turn.count = h.turns.count c.args.id ∙ ap (λ x. count_of (turn_of x)) is in
    let left = may.rounds in
    let limit = h.few in
    let count' : c.saturating_add.result ≡ old.turn.count + 1 = grind (arith, c.saturating_add.ensures, count, left, limit) in
    has_proposed terms s (record { participants = c.put.new.self; moments = c.propose.new.self; most = s.most; limit = s.limit }) o c.args.id old
    (record old { turn = record { seat = old.turn.seat; count = c.saturating_add.result; since = c.last.result; number = c.min-number.result } }) h is c.put.ensures refl refl c.args.number
    may.positive small left (λ i. record old { turn = record { seat = old.turn.seat; count = count' i; since = last i; number = number i } })
    (subst (λ (n : ℕ). HoldsMoments c.propose.new.self (o.last + 1) (set_at h.turns.rows (o.last + 1) (slice_set (h.turns.rows o.last) old.turn.seat n))) number held)
