-- One more entry is applied, or no more, and what was applied leads on.
use Rattle.std.proofs.Common.{rules, arith}
use Rattle.service_log.proofs.Chains.{fault_goes_on, follows, goes_on_trans, later_follows, more_goes_on, same_goes_on, same_trans}
use Rattle.service_log.proofs.replica.Replica.catch_up.Goals as goal

pub returns-then-not-stood-clause-goes_on : goal.returns-then-not-stood-clause-goes_on
returns-then-not-stood-clause-goes_on g c =
    let stands = g.S.Store.stands in
    let applies = g.M.Machine.applies in
    λ well. goes_on_trans applies (stands c.loop-passed.store) (stands c.pass.new.store) c.pass.ensures.same.keeps c.args.self.now c.loop-passed.self c.pass.new.self c.loop-passed.invariant.goes_on
    (same_goes_on applies (stands c.pass.new.store) c.loop-passed.self c.pass.new.self c.pass.new.self.behind (c.pass.ensures.nothing (search rules)) c.loop-passed.invariant.well)

pub returns-in_err-stood-clause-goes_on : goal.returns-in_err-stood-clause-goes_on
returns-in_err-stood-clause-goes_on g c =
    let stands = g.S.Store.stands in
    let applies = g.M.Machine.applies in
    λ well. goes_on_trans applies (stands c.loop-passed.store) (stands c.pass.new.store) c.pass.ensures.same.keeps c.args.self.now c.loop-passed.self c.pass.new.self c.loop-passed.invariant.goes_on
    (fault_goes_on applies (stands c.pass.new.store) c.loop-passed.self c.pass.new.self c.in_err-stood.field-0.0 c.in_err-stood.ensures.fault well)

pub loop-passed-preserved : goal.loop-passed-preserved
loop-passed-preserved g c =
    let stands = g.S.Store.stands in
    let applies = g.M.Machine.applies in
    let more = c.pass.ensures.passed (search rules) in
    record {
      well = more.more.is_well;
      count = (let n = more.more.count in let m = c.loop-passed.invariant.count in omega (arith, n, m));
      goes_on = goes_on_trans applies (stands c.loop-passed.store) (stands c.pass.new.store) c.pass.ensures.same.keeps c.args.self.now c.loop-passed.self c.pass.new.self c.loop-passed.invariant.goes_on
          (more_goes_on applies (stands c.pass.new.store) c.loop-passed.self c.pass.new.self more);
      silent = c.pass.ensures.silent;
      same = same_trans (stands c.args.store.now) (stands c.loop-passed.store) (stands c.pass.new.store) c.loop-passed.invariant.same c.pass.ensures.same;
    }

pub returns-then-not-stood-clause-same : goal.returns-then-not-stood-clause-same
returns-then-not-stood-clause-same g c =
    let stands = g.S.Store.stands in
    same_trans (stands c.args.store.now) (stands c.loop-passed.store) (stands c.pass.new.store) c.loop-passed.invariant.same c.pass.ensures.same

pub returns-in_err-stood-clause-same : goal.returns-in_err-stood-clause-same
returns-in_err-stood-clause-same g c =
    let stands = g.S.Store.stands in
    same_trans (stands c.args.store.now) (stands c.loop-passed.store) (stands c.pass.new.store) c.loop-passed.invariant.same c.pass.ensures.same

pub returns-then-self-clause-follows : goal.returns-then-self-clause-follows
returns-then-self-clause-follows g c = λ from start was. was

pub returns-then-not-stood-clause-follows : goal.returns-then-not-stood-clause-follows
returns-then-not-stood-clause-follows g c =
    let stands = g.S.Store.stands in
    let applies = g.M.Machine.applies in
    later_follows applies (stands c.args.store.now) (stands c.loop-passed.store) (stands c.pass.new.store) c.loop-passed.invariant.same c.pass.ensures.same.keeps c.args.self.now c.loop-passed.self c.pass.new.self c.loop-passed.invariant.goes_on
    (λ well. same_goes_on applies (stands c.pass.new.store) c.loop-passed.self c.pass.new.self c.pass.new.self.behind (c.pass.ensures.nothing (search rules)) c.loop-passed.invariant.well)

pub returns-in_err-stood-clause-follows : goal.returns-in_err-stood-clause-follows
returns-in_err-stood-clause-follows g c =
    let stands = g.S.Store.stands in
    let applies = g.M.Machine.applies in
    later_follows applies (stands c.args.store.now) (stands c.loop-passed.store) (stands c.pass.new.store) c.loop-passed.invariant.same c.pass.ensures.same.keeps c.args.self.now c.loop-passed.self c.pass.new.self c.loop-passed.invariant.goes_on
    (fault_goes_on applies (stands c.pass.new.store) c.loop-passed.self c.pass.new.self c.in_err-stood.field-0.0 c.in_err-stood.ensures.fault)

pub returns-clause-follows : goal.returns-clause-follows
returns-clause-follows g c =
    let stands = g.S.Store.stands in
    follows g.M.Machine.applies (stands c.args.store.now) (stands c.loop-passed.store) c.loop-passed.invariant.same.keeps c.args.self.now c.loop-passed.self (λ well. c.loop-passed.invariant.goes_on)
