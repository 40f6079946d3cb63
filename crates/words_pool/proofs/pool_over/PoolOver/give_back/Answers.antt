use Rattle.std.proofs.Common.{◌≡◌, ◌<◌, ◌*◌, ap, sym, subst, ◌∙◌, arith, ◌∷◌, []}
use Rattle.words_pool.proofs.Common.{step, TableId, lone, call_in, past_in, PoolId, CallId}
use mathlib.Core.Option.{none}
use Rattle.words_pool.proofs.pool_over.PoolOver.give_back.Goals as goal

pub store-requires : goal.store-requires
store-requires g c =
    let ours : c.held.inside.badge.table_id ≡ c.self.inside.table.shared.table_id = ap (λ (h : CallId). h.pool) c.held.view_is ∙ c.requires.ours ∙ sym (ap (λ (p : PoolId). p.table) c.self.view_is) in
    let within : c.held.inside.place * 8 < c.self.inside.table.shared.table_id.words = subst (λ (t : TableId). c.held.inside.place * 8 < t.words) ours c.held.invariant.2 in
    let words = c.self.invariant.0.0 in
    let key = c.self.invariant.0.1 in
    let held = c.held.invariant.0 in
    let views : c.into_seat-seat.result.me.0 ∷ [] ≡ lone (call_in c.held.inside.badge.views) (past_in c.held.inside.badge.views) ∷ [] = sym c.into_seat-seat.ensures.2 ∙ held.views_are in
    let same : c.into_seat-seat.result.me.0 ≡ lone (call_in c.held.inside.badge.views) (past_in c.held.inside.badge.views) = cc in
    let me : c.into_seat-seat.result.me ≡ (lone (call_in c.held.inside.badge.views) (past_in c.held.inside.badge.views), []) = (λ i. (same i, c.into_seat-seat.ensures.3 i)) in (
      c.into_seat-seat.ensures.0 ∙ ours,
      within,
      rw me (c.self.invariant.1.frees c.self.inside.table.shared.key _ _ c.held.inside.place _ _ (step 0 0 0 0 none) (omega arith) held.stage_is held.place_is),
    )
