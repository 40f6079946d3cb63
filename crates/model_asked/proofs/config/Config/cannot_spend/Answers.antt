use Rattle.std.proofs.Common.{rules, ◌≡◌, ◌<◌, ◌+◌, refl, arith}
use Rattle.model_asked.proofs.cited.rounds.Whole.{more_proposals, one_begins}
use Rattle.model_asked.specs.rounds.Rounds.{most_proposals}
use Rattle.model_asked.proofs.config.Config.cannot_spend.Goals as goal

pub loop-begun-init : goal.loop-begun-init
loop-begun-init c = let fits = c.args.self.now.in_range in record { is = refl; below = omega arith; enough = λ some. absurd (omega arith) }

pub overflow_mul-most : goal.overflow_mul-most
overflow_mul-most c = let fits = c.args.self.now.in_range in let below = c.loop-begun.invariant.below in let few : c.loop-begun.most < 2000000 = omega arith in search rules

pub overflow_add-most : goal.overflow_add-most
overflow_add-most c = let fits = c.args.self.now.in_range in let below = c.loop-begun.invariant.below in let few : c.loop-begun.most < 2000000 = omega arith in search rules

pub returns-then-self-most : goal.returns-then-self-most
returns-then-self-most c =
    let is = c.loop-begun.invariant.is in
    let inside = c.loop-begun-test.true in
    let more = more_proposals (c.loop-begun.begun + 1) c.args.self.now.m (omega arith) in
    let next = one_begins c.loop-begun.begun in
    let high = c.if-self-most.true in
    (λ h. absurd (cc), λ h. absurd (omega arith))

pub loop-begun-preserved : goal.loop-begun-preserved
loop-begun-preserved c =
    let is = c.loop-begun.invariant.is in
    let next = one_begins c.loop-begun.begun in
    let low = c.if-self-most.false in
    record { is = omega arith; below = omega arith; enough = λ some. omega arith }

pub returns : goal.returns
returns c =
    let is = c.loop-begun.invariant.is in
    let below = c.loop-begun.invariant.enough (let fits = c.args.self.now.in_range in omega arith) in
    let end = c.loop-begun.auto.begun-end in
    let over = c.loop-begun-test.false in
    let all : c.loop-begun.begun ≡ c.args.self.now.m = omega arith in
    let same : c.loop-begun.most ≡ most_proposals c.args.self.now.m = rw all at is in
    (λ h. omega arith, λ h. refl)
