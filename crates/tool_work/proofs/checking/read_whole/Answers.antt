use Rattle.std.proofs.Common.{◌≡◌, ◌++◌, [], inl, inr, arith, refl, take, subst, ℕ, rules}
use Rattle.tool_work.proofs.Common.{append-nil, Consumes, Consumes-nil, Consumes-trans}
use Rattle.tool_work.proofs.ReadLemmas.{read_all, read_failed, read_lacked, read_to}
use Rattle.tool_work.proofs.checking.read_whole.Goals as goal

pub loop-reads-init : goal.loop-reads-init
loop-reads-init g c = record {
  came = rw c.new-bytes.ensures.items (Consumes-nil (g.R.Read.remaining c.args.reader.now));
  chunk = c.requires.chunk;
  reads = omega arith;
  no_read_failed = refl;
}

pub loop-reads-preserved : goal.loop-reads-preserved
loop-reads-preserved g c =
    let inv = c.loop-reads.invariant in
    let items : c.extend_from_slice.new.self.items ≡ c.loop-reads.bytes.items ++ take c.in-Ok.count c.read_once.new.buf = search rules in
    record {
      came = rw items (Consumes-trans (g.R.Read.remaining c.args.reader.now) (g.R.Read.remaining c.loop-reads.reader) (g.R.Read.remaining c.read_once.new.self)
          c.loop-reads.bytes.items (take c.in-Ok.count c.read_once.new.buf) inv.came c.in-Ok.ensures.bytes.0);
      chunk = omega (arith, c.read_once.auto.buf, inv.chunk);
      reads = (let called = c.in-Ok.ensures.called in let before = inv.reads in omega arith);
      no_read_failed = (let failed = c.in-Ok.ensures.failed in let before = inv.no_read_failed in omega arith);
    }

pub returns-in-Err : goal.returns-in-Err
returns-in-Err g c =
    let inv = c.loop-reads.invariant in
    read_failed _ _ (inl (let failed = c.in-Err.ensures.failed in let before = inv.no_read_failed in omega arith)) (let called = c.in-Err.ensures.called in let before = inv.reads in let more = c.loop-reads-test.true in omega arith)

pub returns-in-Err-extend_from_slice : goal.returns-in-Err-extend_from_slice
returns-in-Err-extend_from_slice g c =
    let inv = c.loop-reads.invariant in
    read_lacked _ _ (let failed = c.in-Ok.ensures.failed in let before = inv.no_read_failed in omega arith) (let called = c.in-Ok.ensures.called in let before = inv.reads in let more = c.loop-reads-test.true in omega arith)

pub returns-then-count-eq0 : goal.returns-then-count-eq0
returns-then-count-eq0 g c =
    let inv = c.loop-reads.invariant in
    let had = g.R.Read.remaining c.args.reader.now in
    let mid = g.R.Read.remaining c.loop-reads.reader in
    let left = g.R.Read.remaining c.read_once.new.self in
    let none : Consumes mid left [] = subst (λ (n : ℕ). Consumes mid left (take n c.read_once.new.buf)) c.if-count-eq0.true c.in-Ok.ensures.bytes.0 in
    let came : Consumes had left c.loop-reads.bytes.items = rw append-nil at (Consumes-trans had mid left c.loop-reads.bytes.items [] inv.came none) in
    read_to _ _ c.loop-reads.bytes (record {
      all = read_all had left c.loop-reads.bytes.items came (c.in-Ok.ensures.bytes.1 c.if-count-eq0.true (omega (arith, c.read_once.auto.buf, inv.chunk)));
      read = came;
      no_read_failed = (let failed = c.in-Ok.ensures.failed in let before = inv.no_read_failed in omega arith);
    }) (let called = c.in-Ok.ensures.called in let before = inv.reads in let more = c.loop-reads-test.true in omega arith)

pub returns : goal.returns
returns g c =
    let inv = c.loop-reads.invariant in
    read_failed _ _ (inr (let before = inv.reads in omega arith, inv.no_read_failed)) (let before = inv.reads in omega arith)
