use Rattle.std.proofs.Common.{◌≡◌, ◌<◌, ◌-◌, ◌*◌, ℕ, ap, sym, subst, ◌∙◌, arith, ◌∷◌, []}
use Rattle.words_pool.proofs.Common.{Me, TableId, PoolView, own, holding, lone, call_in, past_in, united, PoolId, CallId}
use Rattle.words_pool.proofs.Keeping.{united_own, holds_it}
use Rattle.words_pool.proofs.pool_over.PoolOver.gather.Goals as goal

of_one : (v w : PoolView) → v ∷ [] ≡ w ∷ [] → v ≡ w
of_one v w e = cc

pub join_seat-requires : goal.join_seat-requires
join_seat-requires g c =
    let table = ap (λ (p : PoolId). p.table) c.self.view_is in
    let ours : c.held.inside.badge.table_id ≡ c.self.inside.table.shared.table_id = ap (λ (h : CallId). h.pool) c.held.view_is ∙ c.requires.held ∙ sym table in
    let words = c.self.invariant.0.0 in
    let some = c.self.invariant.0.2 in
    (c.requires.ours.0 ∙ sym table, c.into_seat.ensures.0 ∙ ours, c.into_seat.ensures.3, omega arith, c.self.invariant.1.unites c.self.inside.table.shared.key _ _ _ _)

pub returns-clause-more : goal.returns-clause-more
returns-clause-more g c =
    λ f. let a = united_own c.args.seat.now.me.0 c.into_seat.result.me.0 f in
    let b : own f c.join_seat.new.seat.me.0 ≡ own f (united c.args.seat.now.me.0 c.into_seat.result.me.0) = ap (λ (m : Me ℕ PoolView). own f m.0) c.join_seat.ensures.2 in
    omega arith

pub returns-clause-held : goal.returns-clause-held
returns-clause-held g c =
    let table = ap (λ (p : PoolId). p.table) c.self.view_is in
    let ours : c.held.inside.badge.table_id ≡ c.args.self.now.table = ap (λ (h : CallId). h.pool) c.held.view_is ∙ c.requires.held in
    let held = c.held.invariant.0 in
    let views : c.into_seat.result.me.0 ∷ [] ≡ lone (call_in c.held.inside.badge.views) (past_in c.held.inside.badge.views) ∷ [] = sym c.into_seat.ensures.2 ∙ held.views_are in
    let same = of_one _ _ views in
    let number = ap (λ (h : CallId). h.number) c.held.view_is in
    let place : c.args.held.number - 1 ≡ c.held.inside.place = omega arith in
    let a = united_own c.args.seat.now.me.0 c.into_seat.result.me.0 (holding c.held.inside.place) in
    let b : own (holding c.held.inside.place) c.join_seat.new.seat.me.0 ≡ own (holding c.held.inside.place) (united c.args.seat.now.me.0 c.into_seat.result.me.0) = ap (λ (m : Me ℕ PoolView). own (holding c.held.inside.place) m.0) c.join_seat.ensures.2 in
    let d : own (holding c.held.inside.place) c.into_seat.result.me.0 ≡ own (holding c.held.inside.place) (lone (call_in c.held.inside.badge.views) (past_in c.held.inside.badge.views)) = ap (own (holding c.held.inside.place)) same in
    let e = holds_it c.held.inside.place (call_in c.held.inside.badge.views) held.stage_is held.place_is in
    rw place (omega arith, subst (λ (t : TableId). c.held.inside.place * 8 < t.words) ours c.held.invariant.2)
