use Rattle.std.proofs.Common.{◌++◌, [], inl, inr, arith, refl, take, subst, ℕ}
use Rattle.tool_work.proofs.Common.{append-nil, Consumes, Consumes-nil, Consumes-trans}
use Rattle.text_records.specs.Records.{record_lines}
use Rattle.tool_work.proofs.ReadLemmas.{read_all, read_failed, read_lacked, read_to, said_some}
use Rattle.tool_work.proofs.checking.judge_whole.Goals as goal

pub loop-reads-init : goal.loop-reads-init
loop-reads-init g c = record {
  came = record { seen = []; came = Consumes-nil (g.R.Read.remaining c.args.reader.now); taken = c.new-judge.ensures };
  chunk = c.requires.chunk;
  reads = omega arith;
  no_read_failed = refl;
}

pub loop-reads-preserved : goal.loop-reads-preserved
loop-reads-preserved g c =
    let inv = c.loop-reads.invariant in
    let got = take c.in-Ok.count c.read_once.new.buf in
    record {
      came = record {
        seen = inv.came.seen ++ got;
        came = Consumes-trans (g.R.Read.remaining c.args.reader.now) (g.R.Read.remaining c.loop-reads.reader) (g.R.Read.remaining c.read_once.new.self) inv.came.seen got inv.came.came c.in-Ok.ensures.bytes.0;
        taken = c.in-Ok-take.ensures inv.came.seen inv.came.taken;
      };
      chunk = omega (arith, c.read_once.auto.buf, inv.chunk);
      reads = (let called = c.in-Ok.ensures.called in let before = inv.reads in omega arith);
      no_read_failed = (let failed = c.in-Ok.ensures.failed in let before = inv.no_read_failed in omega arith);
    }

pub returns-in-Err : goal.returns-in-Err
returns-in-Err g c =
    let inv = c.loop-reads.invariant in
    read_failed _ _ (inl (let failed = c.in-Err.ensures.failed in let before = inv.no_read_failed in omega arith)) (let called = c.in-Err.ensures.called in let before = inv.reads in let more = c.loop-reads-test.true in omega arith)

pub returns-in-Err-verdict : goal.returns-in-Err-verdict
returns-in-Err-verdict g c =
    let inv = c.loop-reads.invariant in
    read_lacked _ _ (let failed = c.in-Ok.ensures.failed in let before = inv.no_read_failed in omega arith) (let called = c.in-Ok.ensures.called in let before = inv.reads in let more = c.loop-reads-test.true in omega arith)

pub returns-in-Err-take : goal.returns-in-Err-take
returns-in-Err-take g c =
    let inv = c.loop-reads.invariant in
    read_lacked _ _ (let failed = c.in-Ok.ensures.failed in let before = inv.no_read_failed in omega arith) (let called = c.in-Ok.ensures.called in let before = inv.reads in let more = c.loop-reads-test.true in omega arith)

pub returns : goal.returns
returns g c =
    let inv = c.loop-reads.invariant in
    read_failed _ _ (inr (let before = inv.reads in omega arith, inv.no_read_failed)) (let before = inv.reads in omega arith)

pub returns-in-Ok-verdict : goal.returns-in-Ok-verdict
returns-in-Ok-verdict g c =
    let inv = c.loop-reads.invariant in
    let had = g.R.Read.remaining c.args.reader.now in
    let mid = g.R.Read.remaining c.loop-reads.reader in
    let left = g.R.Read.remaining c.read_once.new.self in
    let seen = inv.came.seen in
    let none : Consumes mid left [] = subst (λ (n : ℕ). Consumes mid left (take n c.read_once.new.buf)) c.if-count-eq0.true c.in-Ok.ensures.bytes.0 in
    let came : Consumes had left seen = rw append-nil at (Consumes-trans had mid left seen [] inv.came.came none) in
    let said = c.in-Ok-verdict.ensures seen inv.came.taken in
    read_to _ _ c.in-Ok-verdict.verdict (record {
      input = seen;
      whole = record {
        all = read_all had left seen came (c.in-Ok.ensures.bytes.1 c.if-count-eq0.true (omega (arith, c.read_once.auto.buf, inv.chunk)));
        read = came;
        no_read_failed = (let failed = c.in-Ok.ensures.failed in let before = inv.no_read_failed in omega arith);
      };
      verdict = inl said;
      some = said_some (record_lines seen) c.in-Ok-verdict.verdict said;
    }) (let called = c.in-Ok.ensures.called in let before = inv.reads in let more = c.loop-reads-test.true in omega arith)
