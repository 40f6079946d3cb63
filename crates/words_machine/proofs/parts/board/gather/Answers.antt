use Rattle.std.proofs.Common.{◌-◌, ℕ, ap, sym, subst, ◌∙◌, arith}
use Rattle.words_machine.proofs.parts_lemmas.Common.{Me, BoardView, IsClaimed, claim}
use Rattle.words_machine.proofs.parts_lemmas.Claims.{may_unite, claimed_first, claimed_second}
use Rattle.words_machine.proofs.parts.board.gather.Goals as goal

pub join_seat-requires : goal.join_seat-requires
join_seat-requires c =
    (c.requires.ours.0, c.claimed_by.ensures.ours.0 ∙ c.requires.grant, c.claimed_by.ensures.ours.1, c.requires.board.0, may_unite c.args.table.now.key 0 _ _ _ _)

pub returns-clause-same : goal.returns-clause-same
returns-clause-same c =
    let none = c.claimed_by.ensures.none.0 in
    let sum = ap (λ (m : Me ℕ BoardView). m.0.accesses) c.join_seat.ensures.2 in
    (omega arith, ap (λ (m : Me ℕ BoardView). m.0.read) c.join_seat.ensures.2)

pub returns-clause-more : goal.returns-clause-more
returns-clause-more c = λ d has.
    subst (λ (m : Me ℕ BoardView). IsClaimed d m.0.claims) (sym c.join_seat.ensures.2) (claimed_first d c.args.seat.now.me.0.claims c.claimed_by.result.me.0.claims has)

pub returns-clause-claim : goal.returns-clause-claim
returns-clause-claim c =
    let has = c.claimed_by.ensures.claim in
    let own = claim (c.args.grant.name - 1) c.args.grant.identity in
    (subst (λ (m : Me ℕ BoardView). IsClaimed own m.0.claims) (sym c.join_seat.ensures.2) (claimed_second own c.args.seat.now.me.0.claims c.claimed_by.result.me.0.claims has.0), has.1)
