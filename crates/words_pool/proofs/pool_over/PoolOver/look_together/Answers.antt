use Rattle.std.proofs.Common.{◌≡◌, ◌∷◌, ◌++◌, ℕ, [], sym, ap, ◌∙◌, arith, subst, refl}
use Rattle.words_pool.proofs.Common.{Me, step, PoolView, lone, view_of, call_of, IsUnderRule, PoolId}
use mathlib.Core.Option.{none}
use Rattle.words_pool.proofs.Keeping.{are_apart, both}
use Rattle.words_pool.proofs.pool_over.PoolOver.look_together.Goals as goal
use Rattle.words_pool.proofs.pool_over.PoolOver.look_together.Goals.{After-join_seat}

of_one : (v w : PoolView) → v ∷ [] ≡ w ∷ [] → v ≡ w
of_one v w e = cc

pub join_seat-requires : goal.join_seat-requires
join_seat-requires g c =
    let table = ap (λ (p : PoolId). p.table) c.self.view_is in
    let words = c.self.invariant.0.0 in
    let some = c.self.invariant.0.2 in
    let left : c.args.left.me.0 ≡ lone (call_of c.args.left.me.0) c.args.left.me.0.past = of_one _ _ c.requires.left.0.views_are in
    let right : c.args.right.me.0 ≡ lone (call_of c.args.right.me.0) c.args.right.me.0.past = of_one _ _ c.requires.right.0.views_are in (
      c.requires.ours.0 ∙ sym table,
      c.requires.ours.1 ∙ sym table,
      c.requires.right.1,
      omega arith,
      c.self.invariant.1.unites c.self.inside.table.shared.key c.args.left.id c.args.right.id c.args.left.me.0 c.args.right.me.0,
    )

is_both : (g : _) (c : After-join_seat g) → c.join_seat.new.seat.me ≡ (both (call_of c.args.left.me.0) (call_of c.args.right.me.0) c.args.left.me.0.past c.args.right.me.0.past, [])
is_both g c =
    let left : c.args.left.me.0 ≡ lone (call_of c.args.left.me.0) c.args.left.me.0.past = of_one _ _ c.requires.left.0.views_are in
    let right : c.args.right.me.0 ≡ lone (call_of c.args.right.me.0) c.args.right.me.0.past = of_one _ _ c.requires.right.0.views_are in
    c.join_seat.ensures.2 ∙ (λ i. (view_of ((left i).calls ++ (right i).calls) ((left i).past ++ (right i).past), c.requires.left.1 i))

pub load-requires : goal.load-requires
load-requires g c =
    let table = ap (λ (p : PoolId). p.table) c.self.view_is in
    let words = c.self.invariant.0.0 in
    let some = c.self.invariant.0.2 in
    (c.join_seat.ensures.0 ∙ c.requires.ours.0 ∙ sym table, omega arith, rw (is_both g (goal.at.load-requires g c).After-join_seat) (c.self.invariant.1.looks_on c.self.inside.table.shared.key _ _ _ (step 0 0 0 0 none) refl))

pub split_seat-right-requires : goal.split_seat-right-requires
split_seat-right-requires g c =
    let table = ap (λ (p : PoolId). p.table) c.self.view_is in
    let words = c.self.invariant.0.0 in
    let some = c.self.invariant.0.2 in
    let me = c.load.ensures.2.0 ∙ is_both g (goal.at.split_seat-right-requires g c).After-join_seat in
    (c.load.ensures.0 ∙ c.join_seat.ensures.0 ∙ c.requires.ours.0 ∙ sym table, omega arith, rw me (c.self.invariant.1.severs c.self.inside.table.shared.key _ (call_of c.args.left.me.0) (call_of c.args.right.me.0) c.args.left.me.0.past c.args.right.me.0.past))

pub returns-clause-met : goal.returns-clause-met
returns-clause-met g c =
    let view = c.load.ensures.2.0 ∙ is_both g (goal.at.returns-clause-met g c).After-join_seat in
    let together = subst (λ (m : Me ℕ PoolView). IsUnderRule m.0) view c.load.ensures.2.1 in
    let left = c.requires.left.0 in
    let right = c.requires.right.0 in
    λ same. are_apart (call_of c.args.left.me.0) (call_of c.args.right.me.0) c.args.left.me.0.past c.args.right.me.0.past left.stage_is right.stage_is together (left.place_is ∙ same ∙ sym right.place_is)
