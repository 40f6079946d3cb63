use Rattle.std.proofs.Common.{arith, ◌+◌, ◌-◌, length, take, drop, refl}
use Rattle.std.proofs.KnownBytes.{Appends-nil, Appends-kept}
use Rattle.text_lines.proofs.Common.{take_all}
use Rattle.text_lines.specs.lemmas.WrittenProofs.{appends_more, take_pieces}
use Rattle.text_lines.proofs.WrittenLemmas.{none_failed, some_taken}
use Rattle.text_lines.proofs.sink.put_all.Goals as goal

pub loop-at-preserved : goal.loop-at-preserved
loop-at-preserved g c =
    let i = c.loop-at.invariant in
    let e = c.in-Ok.ensures in
    record {
      inside = omega (arith, e.bound);
      written = appends_more _ _ _ _ _ _ i.written e.bytes (take_pieces c.args.text.now c.loop-at.at c.in-Ok.n);
      failed = omega (arith, e.failed, some_taken (length (take (length c.args.text.now - c.loop-at.at) (drop c.loop-at.at c.args.text.now))) c.in-Ok.n c.in-Ok.n-test.1, i.failed);
      calls = omega (arith, e.called, i.calls);
    }

pub loop-at-init : goal.loop-at-init
loop-at-init g c =
    record { inside = omega arith; written = Appends-nil (g.W.Write.contents c.args.writer.now); failed = refl; calls = omega arith }

pub returns-in-Ok-eq0-clause-err : goal.returns-in-Ok-eq0-clause-err
returns-in-Ok-eq0-clause-err g c =
    let i = c.loop-at.invariant in
    let e = c.in-Ok-eq0.ensures in
    let n = c.in-Ok-eq0.field-0 in
    (c.loop-at.at + n, omega (arith, e.bound), appends_more _ _ _ _ _ _ i.written e.bytes (take_pieces c.args.text.now c.loop-at.at n))

pub returns-in-Ok-eq0-clause-failed : goal.returns-in-Ok-eq0-clause-failed
returns-in-Ok-eq0-clause-failed g c =
    let many = length (take (length c.args.text.now - c.loop-at.at) (drop c.loop-at.at c.args.text.now)) in
    let none = none_failed many c.in-Ok-eq0.field-0 (omega (arith, c.loop-at-test.true)) c.in-Ok-eq0.field-0-test in
    omega (arith, c.in-Ok-eq0.ensures.failed, none, c.loop-at.invariant.failed)

pub returns-in-Err-clause-err : goal.returns-in-Err-clause-err
returns-in-Err-clause-err g c =
    let i = c.loop-at.invariant in
    (c.loop-at.at, i.inside, Appends-kept _ _ _ (take c.loop-at.at c.args.text.now) i.written c.in-Err.ensures.bytes)

pub returns-in-Err-clause-failed : goal.returns-in-Err-clause-failed
returns-in-Err-clause-failed g c = omega (arith, c.in-Err.ensures.failed, c.loop-at.invariant.failed)

pub returns-clause-ok : goal.returns-clause-ok
returns-clause-ok g c = rw (take_all c.loop-at.at c.args.text.now c.loop-at-test.false) at c.loop-at.invariant.written

pub returns-clause-calls : goal.returns-clause-calls
returns-clause-calls g c = omega (arith, c.loop-at.invariant.calls, c.loop-at.invariant.inside)
