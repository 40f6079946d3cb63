-- What did not answer the batch wrote nothing, and what answered it wrote it at most once.
use Rattle.std.proofs.Common.{◌≤◌, arith, rules, sym, ◌∙◌}
use Rattle.service_log.proofs.Chains.{answered_later, follows, goes_on_trans, later_follows, none_goes_on, none_once, not_done, not_long, once_later, same_trans, step_is_well, well_not}
use Rattle.service_log.proofs.Paces.{got_on, paced_step}
use Rattle.service_log.specs.declared.serve_fault.Cause.TheVariants.{Busy, Poisoned}
use Rattle.service_log.proofs.replica.Replica.serve.Goals as goal

pub loop-preserved : goal.loop-preserved
loop-preserved g c =
    let stands = g.S.Store.stands in
    let applies = g.M.Machine.applies in
    let e = c.stride.ensures in
    let same = c.in-Ok-Passed.ensures.unwritten (search rules) in
    let well = step_is_well applies (stands c.stride.new.store) c.loop.self c.args.batch.now c.stride.new.replies c.stride.new.self c.in-Ok-Passed.field-0 c.stride.result c.in-Ok-Passed.is e.answered e.passed e.nothing in
    record {
      well = well;
      goes_on = goes_on_trans applies (stands c.loop.store) (stands c.stride.new.store) same.keeps c.args.self.now c.loop.self c.stride.new.self c.loop.invariant.goes_on (e.goes_on well);
      pace = paced_step stands g.S.Store.lacks applies c.loop.store c.stride.new.store c.args.self.now.place c.loop.counter c.loop.self c.args.batch.now c.stride.new.replies c.stride.new.self c.in-Ok-Passed.field-0 c.stride.result c.in-Ok-Passed.is same
          e.answered e.passed e.nothing e.missed e.stood c.loop.invariant.pace;
      same = same_trans (stands c.args.store.now) (stands c.loop.store) (stands c.stride.new.store) c.loop.invariant.same same;
    }

pub returns-clause-busy : goal.returns-clause-busy
returns-clause-busy g c =
    let all : 1000000 ≤ c.loop.counter = search rules in
    λ busy. got_on g.S.Store.stands g.S.Store.lacks c.loop.store c.args.self.now.place c.loop.counter c.loop.self all c.loop.invariant.pace

pub returns-in-Ok-Answered-clause-answered : goal.returns-in-Ok-Answered-clause-answered
returns-in-Ok-Answered-clause-answered g c =
    let stands = g.S.Store.stands in
    answered_later g.M.Machine.applies (stands c.loop.store) (stands c.stride.new.store) c.stride.ensures.once.adds.keeps c.args.self.now c.loop.self c.stride.new.self c.args.batch.now c.stride.new.replies c.loop.invariant.goes_on (c.stride.ensures.answered (search rules))

pub returns-in-Ok-Answered-clause-goes_on : goal.returns-in-Ok-Answered-clause-goes_on
returns-in-Ok-Answered-clause-goes_on g c =
    let stands = g.S.Store.stands in
    λ well. goes_on_trans g.M.Machine.applies (stands c.loop.store) (stands c.stride.new.store) c.stride.ensures.once.adds.keeps c.args.self.now c.loop.self c.stride.new.self c.loop.invariant.goes_on (c.stride.ensures.goes_on well)

pub returns-in-Err-clause-goes_on : goal.returns-in-Err-clause-goes_on
returns-in-Err-clause-goes_on g c =
    let stands = g.S.Store.stands in
    λ well. goes_on_trans g.M.Machine.applies (stands c.loop.store) (stands c.stride.new.store) c.stride.ensures.once.adds.keeps c.args.self.now c.loop.self c.stride.new.self c.loop.invariant.goes_on (c.stride.ensures.goes_on well)

pub returns-in-Ok-Answered-clause-follows : goal.returns-in-Ok-Answered-clause-follows
returns-in-Ok-Answered-clause-follows g c =
    let stands = g.S.Store.stands in
    later_follows g.M.Machine.applies (stands c.args.store.now) (stands c.loop.store) (stands c.stride.new.store) c.loop.invariant.same c.stride.ensures.once.adds.keeps c.args.self.now c.loop.self c.stride.new.self c.loop.invariant.goes_on c.stride.ensures.goes_on

pub returns-in-Err-clause-follows : goal.returns-in-Err-clause-follows
returns-in-Err-clause-follows g c =
    let stands = g.S.Store.stands in
    later_follows g.M.Machine.applies (stands c.args.store.now) (stands c.loop.store) (stands c.stride.new.store) c.loop.invariant.same c.stride.ensures.once.adds.keeps c.args.self.now c.loop.self c.stride.new.self c.loop.invariant.goes_on c.stride.ensures.goes_on

pub returns-in-Ok-Answered-clause-once : goal.returns-in-Ok-Answered-clause-once
returns-in-Ok-Answered-clause-once g c =
    let stands = g.S.Store.stands in
    once_later (stands c.args.store.now) (stands c.loop.store) (stands c.stride.new.store) c.args.batch.now c.loop.invariant.same c.stride.ensures.once

pub returns-in-Err-clause-once : goal.returns-in-Err-clause-once
returns-in-Err-clause-once g c =
    let stands = g.S.Store.stands in
    once_later (stands c.args.store.now) (stands c.loop.store) (stands c.stride.new.store) c.args.batch.now c.loop.invariant.same c.stride.ensures.once

pub returns-clause-follows : goal.returns-clause-follows
returns-clause-follows g c =
    let stands = g.S.Store.stands in
    follows g.M.Machine.applies (stands c.args.store.now) (stands c.loop.store) c.loop.invariant.same.keeps c.args.self.now c.loop.self (λ well. c.loop.invariant.goes_on)

pub returns-then-batch-gt-MOST_BATCH-clause-poisoned : goal.returns-then-batch-gt-MOST_BATCH-clause-poisoned
returns-then-batch-gt-MOST_BATCH-clause-poisoned g c = λ was short. absurd (omega (arith, c.if-batch-gt-MOST_BATCH.true, short))

pub returns-then-batch-gt-MOST_BATCH-clause-goes_on : goal.returns-then-batch-gt-MOST_BATCH-clause-goes_on
returns-then-batch-gt-MOST_BATCH-clause-goes_on g c = none_goes_on g.M.Machine.applies (g.S.Store.stands c.args.store.now) c.args.self.now

pub returns-then-batch-gt-MOST_BATCH-clause-follows : goal.returns-then-batch-gt-MOST_BATCH-clause-follows
returns-then-batch-gt-MOST_BATCH-clause-follows g c = λ from start was. was

pub returns-then-batch-gt-MOST_BATCH-clause-once : goal.returns-then-batch-gt-MOST_BATCH-clause-once
returns-then-batch-gt-MOST_BATCH-clause-once g c = none_once (g.S.Store.stands c.args.store.now) c.args.batch.now

pub returns-then-self-clause-goes_on : goal.returns-then-self-clause-goes_on
returns-then-self-clause-goes_on g c = none_goes_on g.M.Machine.applies (g.S.Store.stands c.args.store.now) c.args.self.now

pub returns-then-self-clause-follows : goal.returns-then-self-clause-follows
returns-then-self-clause-follows g c = λ from start was. was

pub returns-then-self-clause-once : goal.returns-then-self-clause-once
returns-then-self-clause-once g c = none_once (g.S.Store.stands c.args.store.now) c.args.batch.now

pub returns-clause-goes_on : goal.returns-clause-goes_on
returns-clause-goes_on g c = λ well. c.loop.invariant.goes_on

pub returns-in-Ok-Answered-clause-poisoned : goal.returns-in-Ok-Answered-clause-poisoned
returns-in-Ok-Answered-clause-poisoned g c = λ was. well_not _ c.args.self.now c.self.view_is c.if-self.false was

pub returns-in-Err-clause-poisoned : goal.returns-in-Err-clause-poisoned
returns-in-Err-clause-poisoned g c = λ was. well_not _ c.args.self.now c.self.view_is c.if-self.false was

pub returns-in-Err-clause-unanswered : goal.returns-in-Err-clause-unanswered
returns-in-Err-clause-unanswered g c = c.stride.ensures.unanswered (λ done. not_done c.in-Err.cause (sym c.in-Err.is ∙ done))

pub returns-then-self-clause-too_long : goal.returns-then-self-clause-too_long
returns-then-self-clause-too_long g c = λ long. absurd (omega (arith, c.if-batch-gt-MOST_BATCH.false, long))

pub returns-in-Ok-Answered-clause-too_long : goal.returns-in-Ok-Answered-clause-too_long
returns-in-Ok-Answered-clause-too_long g c = λ long. absurd (omega (arith, c.if-batch-gt-MOST_BATCH.false, long))

pub returns-in-Err-clause-too_long : goal.returns-in-Err-clause-too_long
returns-in-Err-clause-too_long g c = λ long. absurd (omega (arith, c.if-batch-gt-MOST_BATCH.false, long))

pub returns-clause-too_long : goal.returns-clause-too_long
returns-clause-too_long g c = λ long. absurd (omega (arith, c.if-batch-gt-MOST_BATCH.false, long))

pub returns-then-self-clause-refused : goal.returns-then-self-clause-refused
returns-then-self-clause-refused g c = λ e. absurd (not_long Poisoned e)

pub returns-in-Err-clause-refused : goal.returns-in-Err-clause-refused
returns-in-Err-clause-refused g c = λ e. absurd (not_long c.in-Err.cause e)

pub returns-clause-refused : goal.returns-clause-refused
returns-clause-refused g c = λ e. absurd (not_long Busy e)

pub returns-in-Err-clause-fault : goal.returns-in-Err-clause-fault
returns-in-Err-clause-fault g c = c.in-Err.ensures.cause
