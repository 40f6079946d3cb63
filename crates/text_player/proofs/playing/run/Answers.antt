use Rattle.std.proofs.Common.{◌≡◌, ◌≢◌, true, false, ◌∙◌, ◌≤◌, ◌+◌, ◌++◌, inl, inr, sym, ap, arith, take, length, List, [], ℕ, refl, Result, Err}
use Rattle.text_lines.specs.declared.fault.Fault.TheVariants.{Read, Write, Memory}
use Rattle.text_player.proofs.Common.{append-nil, err_from_is_err_and, IsAtEnd, Fault, READ_BYTES, Summary, asked_by, lines, at_start, after_bytes, Stands}
use Rattle.std.proofs.KnownBytes.{Consumes-nil, Consumes-trans, Consumes-kept}
use Rattle.text_player.specs.declared.playing.TheConstants.{MOST_READS}
use Rattle.text_player.specs.Played.{HasRead, reading, writing}
use Rattle.text_player.proofs.StandsLemmas.{stands_start}
use Rattle.text_player.proofs.cited.ProgressLemmas.{after_bytes-append, asked-all, asked_begins}
use Rattle.text_player.proofs.SaysLemmas.{after_end-over}
use Rattle.text_player.proofs.PlayedLemmas.{read_on, to_end, to_read_fault, to_write_fault}
use Rattle.text_player.proofs.playing.run.Goals as goal
use Rattle.text_player.proofs.playing.run.Goals.{In-Ok, After-finish, After-feed, After-is_over}

pub loop-reads-init : goal.loop-reads-init
loop-reads-init g c = record {
  bytes = [];
  came = Consumes-nil (g.R.Read.remaining c.args.reader.now);
  stands = stands_start g.D.Service.may g.F.Form.text c.args.world.now c.args.player.now.kind c.args.player.now (g.W.Write.contents c.args.writer.now) c.requires.fresh;
  empty = c.requires.fresh.replies;
  kind = refl;
  lines = omega (arith, c.requires.fresh.counts.lines);
  reads = omega arith;
  writes = omega arith;
  going = c.requires.fresh.over;
  no_read_failed = refl;
  no_write_failed = refl;
}

pub returns-in-Err-clause-played : goal.returns-in-Err-clause-played
returns-in-Err-clause-played g c =
    let inv = c.loop-reads.invariant in
    to_read_fault g.D.Service.may g.F.Form.text c.args.player.now.kind c.args.world.now c.loop-reads.world (reading g.R.Read.remaining g.R.Source.calls g.R.Source.failed c.args.reader.now c.read_once.new.self) (writing g.W.Write.contents g.W.Sink.failed c.args.writer.now c.loop-reads.writer) inv.bytes
    c.loop-reads.player (inl (omega (arith, c.in-Err.ensures.failed, inv.no_read_failed)))
    (Consumes-kept (g.R.Read.remaining c.args.reader.now) (g.R.Read.remaining c.loop-reads.reader) (g.R.Read.remaining c.read_once.new.self) inv.bytes inv.came c.in-Err.ensures.bytes)
    inv.going inv.stands inv.empty inv.no_write_failed (omega (arith, c.in-Err.ensures.called, inv.reads, c.loop-reads-test.true))

pub returns-clause-played : goal.returns-clause-played
returns-clause-played g c =
    let inv = c.loop-reads.invariant in
    to_read_fault g.D.Service.may g.F.Form.text c.args.player.now.kind c.args.world.now c.loop-reads.world (reading g.R.Read.remaining g.R.Source.calls g.R.Source.failed c.args.reader.now c.loop-reads.reader) (writing g.W.Write.contents g.W.Sink.failed c.args.writer.now c.loop-reads.writer) inv.bytes
    c.loop-reads.player (inr (omega (arith, inv.reads, c.loop-reads-test.false, c.loop-reads.auto.reads-end), inv.no_read_failed)) inv.came
    inv.going inv.stands inv.empty inv.no_write_failed (omega (arith, inv.reads, c.loop-reads.auto.reads-end))

-- a read within the loop is one of those that are allowed
in_time : (g : _) (c : In-Ok g) → g.R.Source.calls c.read_once.new.self ≤ g.R.Source.calls c.args.reader.now + MOST_READS
in_time g c = omega (arith, c.in-Ok.ensures.called, c.loop-reads.invariant.reads, c.loop-reads-test.true)

-- and was no fault, as those before it
no_fault : (g : _) (c : In-Ok g) → g.R.Source.failed c.read_once.new.self ≡ g.R.Source.failed c.args.reader.now
no_fault g c = omega (arith, c.in-Ok.ensures.failed, c.loop-reads.invariant.no_read_failed)

-- the last read, where it gave nothing, and where it gave some
read_nothing : (g : _) (c : After-finish g) → HasRead c.args.player.now.kind (reading g.R.Read.remaining g.R.Source.calls g.R.Source.failed c.args.reader.now c.read_once.new.self) c.loop-reads.invariant.bytes × IsAtEnd (g.R.Read.remaining c.read_once.new.self)
read_nothing g c = let inv = c.loop-reads.invariant in (
  rw append-nil at (read_on c.args.player.now.kind (reading g.R.Read.remaining g.R.Source.calls g.R.Source.failed c.args.reader.now c.read_once.new.self) c.loop-reads.reader inv.bytes [] inv.came (sym inv.stands.over_is ∙ inv.going) (rw c.if-count-eq0.true at c.in-Ok.ensures.bytes.0) c.in-Ok.ensures.called (omega arith)),
  c.in-Ok.ensures.bytes.1 c.if-count-eq0.true (omega (arith, c.read_once.auto.buf, c.loop-reads.auto.chunk, c.requires.chunk)),
)

read_some : (g : _) (c : After-feed g) → HasRead c.args.player.now.kind (reading g.R.Read.remaining g.R.Source.calls g.R.Source.failed c.args.reader.now c.read_once.new.self) (c.loop-reads.invariant.bytes ++ take c.in-Ok.count c.read_once.new.buf)
read_some g c =
    let inv = c.loop-reads.invariant in
    read_on c.args.player.now.kind (reading g.R.Read.remaining g.R.Source.calls g.R.Source.failed c.args.reader.now c.read_once.new.self) c.loop-reads.reader inv.bytes (take c.in-Ok.count c.read_once.new.buf)
    inv.came (sym inv.stands.over_is ∙ inv.going) c.in-Ok.ensures.bytes.0 c.in-Ok.ensures.called (omega (arith, sym c.in-Ok.ensures.bound.1, c.in-Ok.ensures.bound.0, c.read_once.auto.buf, c.loop-reads.auto.chunk, c.requires.chunk))

pub returns-then-count-eq0-clause-played : goal.returns-then-count-eq0-clause-played
returns-then-count-eq0-clause-played g c =
    let inv = c.loop-reads.invariant in
    let read = read_nothing g (goal.at.returns-then-count-eq0-clause-played g c).After-finish in
    let stands = rw inv.kind at (c.in_ok-finish.ensures.ok c.args.world.now (after_bytes c.args.player.now.kind at_start inv.bytes) (g.W.Write.contents c.args.writer.now) inv.stands) in
    rw c.summary.ensures (to_end g.D.Service.may g.F.Form.text c.args.player.now.kind c.args.world.now c.finish.new.world (reading g.R.Read.remaining g.R.Source.calls g.R.Source.failed c.args.reader.now c.read_once.new.self) (writing g.W.Write.contents g.W.Sink.failed c.args.writer.now c.finish.new.writer) inv.bytes
    c.finish.new.self read.0 (inl read.1) stands c.in_ok-finish.ensures.empty (no_fault g (goal.at.returns-then-count-eq0-clause-played g c).In-Ok) (c.in_ok-finish.ensures.unfailed ∙ inv.no_write_failed)
    (in_time g (goal.at.returns-then-count-eq0-clause-played g c).In-Ok))

pub returns-in_err-finish-clause-played : goal.returns-in_err-finish-clause-played
returns-in_err-finish-clause-played g c =
    let inv = c.loop-reads.invariant in
    let kind = c.args.player.now.kind in
    let fault = err_from_is_err_and c.from_residual.result c.from_residual.ensures.1 in
    let read = read_nothing g (goal.at.returns-in_err-finish-clause-played g c).After-finish in
    let part = rw inv.kind at (c.in_err-finish.ensures.part c.args.world.now (after_bytes kind at_start inv.bytes) (g.W.Write.contents c.args.writer.now) inv.stands) in
    rw (fault.1 ∙ ap Err (fault.2 ∙ c.in_err-finish.ensures.only)) (to_write_fault g.D.Service.may g.F.Form.text kind c.args.world.now c.finish.new.world (reading g.R.Read.remaining g.R.Source.calls g.R.Source.failed c.args.reader.now c.read_once.new.self) (writing g.W.Write.contents g.W.Sink.failed c.args.writer.now c.finish.new.writer) inv.bytes
    g.D.Service.knows c.requires.knows g.D.Service.answers _ read.0 (λ input left parts whole. ([], ap (λ (l : List ℕ). asked_by kind (lines l)) (whole read.1) ∙ sym (asked-all kind inv.bytes) ∙ sym (append-nil _))) part
    (rw inv.no_write_failed at c.in_err-finish.ensures.failed) (no_fault g (goal.at.returns-in_err-finish-clause-played g c).In-Ok)
    (in_time g (goal.at.returns-in_err-finish-clause-played g c).In-Ok))

pub returns-in_err-feed-clause-played : goal.returns-in_err-feed-clause-played
returns-in_err-feed-clause-played g c =
    let inv = c.loop-reads.invariant in
    let kind = c.args.player.now.kind in
    let got : List ℕ = inv.bytes ++ take c.in-Ok.count c.read_once.new.buf in
    let fault = err_from_is_err_and c.from_residual-in_err-feed.result c.from_residual-in_err-feed.ensures.1 in
    let part = rw inv.kind at (c.in_err-feed.ensures.part c.args.world.now (after_bytes kind at_start inv.bytes) (g.W.Write.contents c.args.writer.now) inv.stands) in
    rw (fault.1 ∙ ap Err (fault.2 ∙ c.in_err-feed.ensures.only)) (to_write_fault g.D.Service.may g.F.Form.text kind c.args.world.now c.feed.new.world (reading g.R.Read.remaining g.R.Source.calls g.R.Source.failed c.args.reader.now c.read_once.new.self) (writing g.W.Write.contents g.W.Sink.failed c.args.writer.now c.feed.new.writer) got
    g.D.Service.knows c.requires.knows g.D.Service.answers (after_bytes kind at_start got) (read_some g (goal.at.returns-in_err-feed-clause-played g c).After-feed) (λ input left parts whole. asked_begins kind input got left parts)
    (rw after_bytes-append part) (rw inv.no_write_failed at c.in_err-feed.ensures.failed) (no_fault g (goal.at.returns-in_err-feed-clause-played g c).In-Ok)
    (in_time g (goal.at.returns-in_err-feed-clause-played g c).In-Ok))

-- where the player stands after the bytes that were read
fed : (g : _) (c : After-is_over g) →
    Stands g.D.Service.may g.F.Form.text c.args.world.now c.feed.new.world c.feed.new.self (after_bytes c.args.player.now.kind at_start (c.loop-reads.invariant.bytes ++ take c.in-Ok.count c.read_once.new.buf)) (g.W.Write.contents c.args.writer.now) (g.W.Write.contents c.feed.new.writer)
fed g c =
    let inv = c.loop-reads.invariant in
    rw after_bytes-append (rw inv.kind at (c.in_ok-feed.ensures.ok c.args.world.now (after_bytes c.args.player.now.kind at_start inv.bytes) (g.W.Write.contents c.args.writer.now) inv.stands))

pub returns-then-is_over-clause-played : goal.returns-then-is_over-clause-played
returns-then-is_over-clause-played g c =
    let inv = c.loop-reads.invariant in
    let kind = c.args.player.now.kind in
    let got : List ℕ = inv.bytes ++ take c.in-Ok.count c.read_once.new.buf in
    let stands = fed g (goal.at.returns-then-is_over-clause-played g c).After-is_over in
    let quit : c.feed.new.self.over ≡ true = cc in
    let over = sym stands.over_is ∙ quit in
    rw c.summary-then-is_over.ensures (to_end g.D.Service.may g.F.Form.text kind c.args.world.now c.feed.new.world (reading g.R.Read.remaining g.R.Source.calls g.R.Source.failed c.args.reader.now c.read_once.new.self) (writing g.W.Write.contents g.W.Sink.failed c.args.writer.now c.feed.new.writer) got
    c.feed.new.self (read_some g (goal.at.returns-then-is_over-clause-played g c).After-feed) (inr over) (rw (after_end-over kind (after_bytes kind at_start got) over) stands) c.in_ok-feed.ensures.empty
    (no_fault g (goal.at.returns-then-is_over-clause-played g c).In-Ok) (c.in_ok-feed.ensures.unfailed ∙ inv.no_write_failed)
    (in_time g (goal.at.returns-then-is_over-clause-played g c).In-Ok))

pub loop-reads-preserved : goal.loop-reads-preserved
loop-reads-preserved g c =
    let inv = c.loop-reads.invariant in
    let read : List ℕ = take c.in-Ok.count c.read_once.new.buf in
    let few : c.in-Ok.count ≤ READ_BYTES = omega (arith, c.in-Ok.ensures.bound.0, c.read_once.auto.buf, c.loop-reads.auto.chunk, c.requires.chunk) in
    let short : c.in-Ok.count ≡ length read = c.in-Ok.ensures.bound.1 in
    record {
      bytes = inv.bytes ++ read;
      came = Consumes-trans (g.R.Read.remaining c.args.reader.now) (g.R.Read.remaining c.loop-reads.reader) (g.R.Read.remaining c.read_once.new.self) inv.bytes read inv.came c.in-Ok.ensures.bytes.0;
      stands = fed g (goal.at.loop-reads-preserved g c).After-is_over;
      empty = c.in_ok-feed.ensures.empty;
      kind = c.in_ok-feed.ensures.kept ∙ inv.kind;
      lines = (let counted = c.in_ok-feed.ensures.counted in let before = inv.lines in omega arith);
      reads = (let called = c.in-Ok.ensures.called in let before = inv.reads in omega arith);
      writes = (let none : length c.loop-reads.player.replies ≡ 0 = ap length inv.empty in let calls = c.in_ok-feed.ensures.calls in let before = inv.writes in omega arith);
      going = (let on : c.feed.new.self.over ≡ false = cc in on);
      no_read_failed = no_fault g (goal.at.loop-reads-preserved g c).In-Ok;
      no_write_failed = c.in_ok-feed.ensures.unfailed ∙ inv.no_write_failed;
    }

not_memory : (r : Result Summary Fault) (f : Fault) → r ≡ Err f → f ≡ Write → r ≢ Err Memory
not_memory r f is write memory = absurd (let same : Err Write ≡ Err Memory = sym (is ∙ ap Err write) ∙ memory in cc)

pub returns-in-Err-clause-never : goal.returns-in-Err-clause-never
returns-in-Err-clause-never g c = λ memory. absurd (let same : Err Read ≡ Err Memory = memory in cc)

pub returns-in_err-finish-clause-never : goal.returns-in_err-finish-clause-never
returns-in_err-finish-clause-never g c = let fault = err_from_is_err_and c.from_residual.result c.from_residual.ensures.1 in not_memory _ _ fault.1 (fault.2 ∙ c.in_err-finish.ensures.only)

pub returns-in_err-feed-clause-never : goal.returns-in_err-feed-clause-never
returns-in_err-feed-clause-never g c = let fault = err_from_is_err_and c.from_residual-in_err-feed.result c.from_residual-in_err-feed.ensures.1 in not_memory _ _ fault.1 (fault.2 ∙ c.in_err-feed.ensures.only)

pub finish-requires-clause-calls : goal.finish-requires-clause-calls
finish-requires-clause-calls g c = rw c.loop-reads.invariant.empty (omega (arith, c.loop-reads.invariant.writes, c.requires.writes, c.loop-reads-test.true))

pub feed-requires-clause-count : goal.feed-requires-clause-count
feed-requires-clause-count g c =
    omega (arith, c.loop-reads.invariant.lines, c.loop-reads-test.true, c.in-Ok.ensures.bound, c.read_once.auto.buf, c.loop-reads.auto.chunk, c.requires.chunk)

pub feed-requires-clause-calls : goal.feed-requires-clause-calls
feed-requires-clause-calls g c =
    rw c.loop-reads.invariant.empty (omega (arith, c.loop-reads.invariant.writes, c.requires.writes, c.loop-reads-test.true, c.in-Ok.ensures.bound, c.read_once.auto.buf, c.loop-reads.auto.chunk, c.requires.chunk))
