use Rattle.std.proofs.Common.{◌≡◌, ◌≤◌, inl, refl, sym, arith, rules, subst, ◌∙◌, ℕ}
use Rattle.service_lock.proofs.Common.{Step, with_view, IsTaken}
use Rattle.service_lock.proofs.Standing.{taken_by}
use Rattle.service_lock.specs.Renamed.{turns_among}
use Rattle.service_lock.proofs.Renames.{stepped_not, stepped_more, plain_by}
use Rattle.service_lock.proofs.Ending.{gone_on, fewer, fewer_at_most}
use Rattle.service_lock.proofs.lock.HallLock.rename.Goals as goal

pub loop-turn-init : goal.loop-turn-init
loop-turn-init g c = record { same = search rules; stepped = stepped_not _ _ _; on = inl refl }

pub loop-turn-preserved : goal.loop-turn-preserved
loop-turn-preserved g c =
    let s = c.loop-turn.session in
    let r = with_view c.act_short-reply.result c.act_short-reply.new.view in
    let new = c.act_short-reply.new.session in
    let plain = plain_by c.act_short-reply.result c.act_short-reply.new.view c.in_default.not-Named c.in_default-reply.not-Spent c.in_default-reply-2.not-Refused in
    let accepted = taken_by c.act_short-reply.result c.act_short-reply.new.view c.in_default-reply-2.not-Refused in
    let taken : IsTaken g.L.LockName.config s.clerk (Step c.args.session.now.id) r new.clerk =
    subst (λ (id : ℕ). IsTaken g.L.LockName.config s.clerk (Step id) r new.clerk) c.loop-turn.invariant.same c.act_short-reply.ensures.taken in
    record {
      same = c.act_short-reply.ensures.same ∙ c.loop-turn.invariant.same;
      stepped = stepped_more g.L.LockName.config c.args.session.now.id c.loop-turn.turn c.args.session.now.clerk s.clerk new.clerk r c.loop-turn.invariant.stepped taken plain accepted;
      on = gone_on g.L.LockName.config c.args.session.now.id c.loop-turn.turn s.clerk new.clerk r c.loop-turn.invariant.on taken plain accepted;
    }

pub returns-clause-ended : goal.returns-clause-ended
returns-clause-ended g c =
    let end = c.loop-turn.auto.turn-end in
    let over = c.loop-turn-test.false in
    let all : c.loop-turn.turn ≡ c.args.turns = omega arith in
    λ enough none. fewer_at_most g.L.LockName.config c.args.session.now.id c.loop-turn.turn c.loop-turn.session.clerk c.loop-turn.invariant.on (subst (λ (n : ℕ). turns_among g.L.LockName.config g.L.LockName.config.m ≤ n) (sym all) enough)

pub returns-clause-adaptive : goal.returns-clause-adaptive
returns-clause-adaptive g c =
    let end = c.loop-turn.auto.turn-end in
    let over = c.loop-turn-test.false in
    let all : c.loop-turn.turn ≡ c.args.turns = omega arith in
    λ b few enough none. fewer g.L.LockName.config c.args.session.now.id c.loop-turn.turn c.loop-turn.session.clerk b c.loop-turn.invariant.on few (subst (λ (n : ℕ). turns_among g.L.LockName.config b ≤ n) (sym all) enough)
