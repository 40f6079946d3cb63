use Rattle.std.proofs.Common.{◌≡◌, ◌-◌, ℕ, List, [], ◌∷◌, drop, take, suc, ap, sym, subst, ◌∙◌, arith}
use Rattle.words_pool.proofs.Common.{Me, PoolView, undealt, view_of, resting, past_in, PoolId}
use Rattle.words_pool.proofs.Lining.{may_deal}
use Rattle.words_pool.proofs.line_pool.PoolOver+Lining+A.deal.Goals as goal
use Rattle.words_pool.proofs.line_pool.PoolOver+Lining+A.deal.Goals.{After-split_seat-dealt}

-- one of the tickets is dealt out
one_more : (g : _) (c : After-split_seat-dealt g) → c.tickets.inside.seat.me ≡ (view_of (undealt (suc (c.tickets.inside.left - 1))) [], [])
one_more g c =
    let left = c.if-tickets-eq0.false in
    let is : c.tickets.inside.left ≡ suc (c.tickets.inside.left - 1) = omega arith in
    subst (λ (n : ℕ). c.tickets.inside.seat.me ≡ (view_of (undealt n) [], [])) is c.tickets.invariant

pub split_seat-dealt-requires : goal.split_seat-dealt-requires
split_seat-dealt-requires g c =
    let words = c.self.invariant.0.0 in
    let some = c.self.invariant.0.2 in
    let left = c.if-tickets-eq0.false in
    let n : ℕ = c.tickets.inside.left - 1 in
    let is : c.tickets.inside.left ≡ suc n = omega arith in (
      ap (λ (t : PoolId). t.table) c.tickets.view_is ∙ c.requires.ours ∙ sym (ap (λ (p : PoolId). p.table) c.self.view_is),
      omega arith,
      rw (c.tickets.invariant, is) (may_deal c.self.inside.table.shared.key _ n),
    )

pub invariant_of-tickets : goal.invariant_of-tickets
invariant_of-tickets g c = c.split_seat-dealt.ensures.2 ∙ ap (λ (m : Me ℕ PoolView). (view_of (drop 1 m.0.calls) m.0.past, m.1)) (one_more g (goal.at.invariant_of-tickets g c).After-split_seat-dealt)

pub invariant_of-result : goal.invariant_of-result
invariant_of-result g c =
    let me = c.split_seat-dealt.ensures.4 ∙ ap (λ (m : Me ℕ PoolView). (view_of (take 1 m.0.calls) [], [])) (one_more g (goal.at.invariant_of-result g c).After-split_seat-dealt) in
    let views : c.into_badge.result.views ≡ resting [] ∷ [] = c.into_badge.ensures.2 ∙ ap (λ (m : Me ℕ PoolView). m.0 ∷ []) me in
    views ∙ sym (ap (λ (vs : List PoolView). resting (past_in vs) ∷ []) views)
