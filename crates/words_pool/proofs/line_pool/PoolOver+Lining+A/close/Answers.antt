use Rattle.std.proofs.Common.{◌∙◌, ◌≡◌, ◌+◌, ◌≤◌, [], slice_index, ◌<◌, ◌-◌, ◌*◌, ℕ, ap, sym, subst, arith}
use Rattle.words_pool.proofs.Common.{slots_items, PoolId, KeepsPoolRule, view_of, own, sum_below, rests, undealt, Final, Seen, Me, PoolView}
use Rattle.words_pool.proofs.Closing.{bits_at_end, held_at_end}
use Rattle.words_pool.proofs.Lining.{rests_undealt}
use Rattle.words_pool.proofs.LineClosing.{pool_at_end, few_at_end}
use Rattle.words_pool.proofs.line_pool.PoolOver+Lining+A.close.Goals as goal
use Rattle.words_pool.proofs.line_pool.PoolOver+Lining+A.close.Goals.{After-close_with-closed}

at_end : (g : _) (c : After-close_with-closed g) → Final (Seen (KeepsPoolRule {S = ℕ} c.self.inside.table.shared.key) c.gather_all.new.seat.id c.gather_all.new.seat.me.0) (slots_items c.close_with-closed.result.words) (slots_items c.close_with-closed.result.slots)
at_end g c = pool_at_end ℕ c.self.inside.table.shared.key c.gather_all.new.seat.id c.gather_all.new.seat.me.0 (slots_items c.close_with-closed.result.words) (slots_items c.close_with-closed.result.slots) c.close_with-closed.ensures.values.2

pub returns-in-Ok-clause-bits : goal.returns-in-Ok-clause-bits
returns-in-Ok-clause-bits g c =
    let numbers : c.self.inside.numbers ≡ c.args.self.numbers = ap (λ (t : PoolId). t.numbers) c.self.view_is in
    let key = c.self.invariant.0.1 in
    λ place lt. bits_at_end ℕ c.self.inside.table.shared.key c.gather_all.new.seat.id c.gather_all.new.seat.me.0 (slots_items c.close_with-closed.result.words) (slots_items c.close_with-closed.result.slots) c.in-Ok.words.items (at_end g (goal.at.returns-in-Ok-clause-bits g c).After-close_with-closed) place (omega arith)
    (c.in-Ok.ensures.words place (omega arith))

pub returns-in-Ok-clause-out : goal.returns-in-Ok-clause-out
returns-in-Ok-clause-out g c =
    let numbers : c.self.inside.numbers ≡ c.args.self.numbers = ap (λ (t : PoolId). t.numbers) c.self.view_is in
    let words = c.self.invariant.0.0 in
    let key = c.self.invariant.0.1 in
    λ i h e. let t = c.gather_all.ensures.held i h e in
    let within : (h.number - 1) * 8 < c.self.inside.table.shared.table_id.words = subst (λ (n : ℕ). (h.number - 1) * 8 < n) (sym (ap (λ (p : PoolId). p.table.words) c.self.view_is)) t.1 in
    held_at_end ℕ c.self.inside.table.shared.key c.gather_all.new.seat.id c.gather_all.new.seat.me.0 (slots_items c.close_with-closed.result.words) (slots_items c.close_with-closed.result.slots) c.in-Ok.words.items (at_end g (goal.at.returns-in-Ok-clause-out g c).After-close_with-closed) (h.number - 1) (omega arith)
    (c.in-Ok.ensures.words (h.number - 1) (omega arith)) t.0

pub returns-in-Ok-clause-most : goal.returns-in-Ok-clause-most
returns-in-Ok-clause-most g c =
    let numbers : c.self.inside.numbers ≡ c.args.self.numbers = ap (λ (t : PoolId). t.numbers) c.self.view_is in
    let key = c.self.invariant.0.1 in
    let left : c.tickets.inside.left ≡ c.args.tickets.numbers = ap (λ (t : PoolId). t.numbers) c.tickets.view_is in
    let rest : own rests c.tickets.inside.seat.me.0 ≡ own rests (view_of (undealt c.tickets.inside.left) []) = ap (λ (m : Me ℕ PoolView). own rests m.0) c.tickets.invariant in
    let count = rests_undealt c.tickets.inside.left in
    let kept = c.gather_all.ensures.more rests in
    let is : c.self.inside.table.shared.key ≡ c.args.self.numbers = key ∙ numbers in
    let few = few_at_end ℕ c.self.inside.table.shared.key c.gather_all.new.seat.id c.gather_all.new.seat.me.0 (slots_items c.close_with-closed.result.words) (slots_items c.close_with-closed.result.slots) c.in-Ok.words.items c.close_with-closed.ensures.values.2
    (λ p lt. c.in-Ok.ensures.words p (omega arith)) in
    let few' = subst (λ (n : ℕ). sum_below (slice_index c.in-Ok.words.items) n + own rests c.gather_all.new.seat.me.0 ≤ n) is few in
    omega arith
