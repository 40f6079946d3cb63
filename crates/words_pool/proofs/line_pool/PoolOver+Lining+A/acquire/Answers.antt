use Rattle.std.proofs.Common.{◌≡◌, ap, sym, ◌∙◌, arith, ◌∷◌, []}
use Rattle.words_pool.proofs.Common.{step, PoolView, resting, past_in}
use mathlib.Core.Option.{none}
use Rattle.words_pool.specs.Pools.{PoolId, TicketId}
use Rattle.words_pool.proofs.Lining.{may_come_in_line, may_come_by_swap_in_line}
use Rattle.words_pool.proofs.line_pool.PoolOver+Lining+A.acquire.Goals as goal

of_one : (v w : PoolView) → v ∷ [] ≡ w ∷ [] → v ≡ w
of_one v w e = cc

pub swap-found-requires : goal.swap-found-requires
swap-found-requires g c =
    let words = c.self.invariant.0.0 in
    let key = c.self.invariant.0.1 in
    let some = c.self.invariant.0.2 in
    let ours = ap (λ (t : TicketId). t.pool) c.ticket.view_is ∙ c.requires.ours ∙ sym (ap (λ (p : PoolId). p.table) c.self.view_is) in
    let same : c.into_seat-seat.result.me.0 ≡ resting (past_in c.ticket.inside.badge.views) = of_one _ _ (sym c.into_seat-seat.ensures.2 ∙ c.ticket.invariant) in
    let me : c.into_seat-seat.result.me ≡ (resting (past_in c.ticket.inside.badge.views), []) = (λ i. (same i, c.into_seat-seat.ensures.3 i)) in (
      c.into_seat-seat.ensures.0 ∙ ours,
      omega arith,
      rw me (may_come_by_swap_in_line c.self.inside.table.shared.key _ _ (past_in c.ticket.inside.badge.views) (step 0 0 0 0 none) (omega arith)),
    )

pub load-found-requires : goal.load-found-requires
load-found-requires g c =
    let words = c.self.invariant.0.0 in
    let key = c.self.invariant.0.1 in
    let some = c.self.invariant.0.2 in
    let ours = ap (λ (t : TicketId). t.pool) c.ticket.view_is ∙ c.requires.ours ∙ sym (ap (λ (p : PoolId). p.table) c.self.view_is) in
    let same : c.into_seat-seat.result.me.0 ≡ resting (past_in c.ticket.inside.badge.views) = of_one _ _ (sym c.into_seat-seat.ensures.2 ∙ c.ticket.invariant) in
    let me : c.into_seat-seat.result.me ≡ (resting (past_in c.ticket.inside.badge.views), []) = (λ i. (same i, c.into_seat-seat.ensures.3 i)) in (
      c.into_seat-seat.ensures.0 ∙ ours,
      omega arith,
      rw me (may_come_in_line c.self.inside.table.shared.key _ _ (past_in c.ticket.inside.badge.views) (step 0 0 0 0 none) (omega arith)),
    )
