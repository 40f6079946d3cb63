use Rattle.std.proofs.Common.{◌≡◌, ◌-◌, ◌<◌, inl, ap, sym, subst, ◌∙◌, arith, ◌∷◌, []}
use Rattle.words_machine.proofs.parts_lemmas.Common.{TableId, BoardView, IsClaimed, claim, lone_claim, GrantId}
use Rattle.words_machine.proofs.parts.board.claimed_by.Goals as goal

of_one : (v w : BoardView) → v ∷ [] ≡ w ∷ [] → v ≡ w
of_one v w e = cc

pub returns-clause-ours : goal.returns-clause-ours
returns-clause-ours c = (c.into_seat.ensures.0 ∙ ap (λ (h : GrantId). h.board) c.grant.view_is, c.into_seat.ensures.3)

pub returns-clause-claim : goal.returns-clause-claim
returns-clause-claim c =
    let mine : c.into_seat.result.me.0 ≡ lone_claim c.grant.inside.word c.grant.inside.identity = of_one _ _ (sym c.into_seat.ensures.2 ∙ c.grant.invariant.0) in
    let name = ap (λ (h : GrantId). h.name) c.grant.view_is in
    let word : c.args.grant.name - 1 ≡ c.grant.inside.word = omega arith in
    let who : c.args.grant.identity ≡ c.grant.inside.identity = sym (ap (λ (h : GrantId). h.identity) c.grant.view_is) in
    let same : claim (c.args.grant.name - 1) c.args.grant.identity ≡ claim c.grant.inside.word c.grant.inside.identity = (λ i. claim (word i) (who i)) in
    let table : c.grant.inside.badge.table_id ≡ c.args.grant.board = ap (λ (h : GrantId). h.board) c.grant.view_is in
    let within : c.grant.inside.word < c.args.grant.board.words = subst (λ (t : TableId). c.grant.inside.word < t.words) table c.grant.invariant.3 in (
      subst (λ (v : BoardView). IsClaimed (claim (c.args.grant.name - 1) c.args.grant.identity) v.claims) (sym mine) (inl same),
      omega arith,
    )

pub returns-clause-none : goal.returns-clause-none
returns-clause-none c =
    let mine : c.into_seat.result.me.0 ≡ lone_claim c.grant.inside.word c.grant.inside.identity = of_one _ _ (sym c.into_seat.ensures.2 ∙ c.grant.invariant.0) in
    (ap (λ (v : BoardView). v.accesses) mine, ap (λ (v : BoardView). v.read) mine)
