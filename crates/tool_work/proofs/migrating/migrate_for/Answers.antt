use Rattle.std.proofs.lemmas.Result.{err_from_is_err_and}
use Rattle.std.proofs.Common.{rules, ap, ◌∙◌, ◌≡◌, ◌≢◌, ◌+◌, ◌^◌, ◌<◌, ◌≤◌, inr, refl, sym, subst, length, List, ℕ, Ok, Err}
use Rattle.tool_work.proofs.Common.{Appends, IsMigrated, Verdict, Yes, NoMemory, reading, writing, HasPartOf, Memory}
use Rattle.tool_work.specs.Checked.{verdict_text, IsRecordText}
use Rattle.tool_work.proofs.CheckLemmas.{all_reported, half_reported, memory_is_no_read, unread}
use Rattle.tool_work.proofs.MigrateLemmas.{unwritten, line_tells, status_one, yes_says}
use Rattle.tool_work.proofs.migrating.migrate_for.Goals as goal

pub returns-in_err-bytes : goal.returns-in_err-bytes
returns-in_err-bytes g c =
    let fault = err_from_is_err_and c.from_residual.result c.from_residual.ensures.1 in
    unread IsRecordText (reading g.R.Read.remaining g.R.Source.calls g.R.Source.failed c.args.reader.now c.read_whole.new.reader) (writing g.W.Write.contents g.W.Sink.failed c.args.writer.now c.args.writer.now) c.read_whole.ensures.reads
    refl c.from_residual.result c.in_err-bytes.field-0.0 (fault.1 ∙ ap Err fault.2) c.in_err-bytes.ensures.only (λ is. c.in_err-bytes.ensures.read_fault (ap Err is))
    (λ is. c.in_err-bytes.ensures.memory (ap Err is))

pub returns-in_err-verdict : goal.returns-in_err-verdict
returns-in_err-verdict g c =
    let writes = writing g.W.Write.contents g.W.Sink.failed c.args.writer.now c.migrate.new.writer in
    let fault = err_from_is_err_and c.from_residual-in_err-verdict.result c.from_residual-in_err-verdict.ensures.1 in
    let k = subst (λ (b : List ℕ). IsMigrated writes b (Err c.in_err-verdict.field-0.0)) c.as_slice.ensures.value c.in_err-verdict.ensures in
    half_reported IsRecordText (reading g.R.Read.remaining g.R.Source.calls g.R.Source.failed c.args.reader.now c.read_whole.new.reader) writes c.read_whole.ensures.reads
    c.from_residual-in_err-verdict.result c.in_err-verdict.field-0.0 (fault.1 ∙ ap Err fault.2) k.0 k.1 Yes
    (record {
      input = c.in_ok-bytes.bytes.items;
      whole = c.in_ok-bytes.ensures.ok;
      verdict = k.2.1.said;
      some = yes_says;
      text = k.2.0;
      tells = k.2.1;
      wrote = k.2.2;
    })

pub returns-then-eq : goal.returns-then-eq
returns-then-eq g c =
    let writes = writing g.W.Write.contents g.W.Sink.failed c.args.writer.now c.migrate.new.writer in
    let yes : c.in_ok-verdict.verdict ≡ Yes = search rules in
    let k = subst (λ (v : Verdict). IsMigrated writes c.in_ok-bytes.bytes.items (Ok v)) yes
    (subst (λ (b : List ℕ). IsMigrated writes b (Ok c.in_ok-verdict.verdict)) c.as_slice.ensures.value c.in_ok-verdict.ensures) in
    let reads = reading g.R.Read.remaining g.R.Source.calls g.R.Source.failed c.args.reader.now c.read_whole.new.reader in
    all_reported IsRecordText reads writes c.read_whole.ensures.reads 0 Yes refl (record {
      input = c.in_ok-bytes.bytes.items;
      whole = c.in_ok-bytes.ensures.ok;
      verdict = k.1.1.said;
      some = yes_says;
      text = k.1.0;
      tells = k.1.1;
      wrote = k.1.2;
    }) k.0

pub returns-then-eq-2 : goal.returns-then-eq-2
returns-then-eq-2 g c =
    let writes = writing g.W.Write.contents g.W.Sink.failed c.args.writer.now c.migrate.new.writer in
    let reads = reading g.R.Read.remaining g.R.Source.calls g.R.Source.failed c.args.reader.now c.read_whole.new.reader in
    let other : c.in_ok-verdict.verdict ≢ Yes = search rules in
    let k = unwritten writes c.as_slice.result.now c.in_ok-verdict.verdict other c.in_ok-verdict.ensures in
    unread IsRecordText reads writes c.read_whole.ensures.reads k.1 (Err Memory) Memory refl (inr refl) memory_is_no_read (λ e. c.in_ok-bytes.ensures.ok.no_read_failed)

pub put_all-requires : goal.put_all-requires
put_all-requires g c =
    let writes = writing g.W.Write.contents g.W.Sink.failed c.args.writer.now c.migrate.new.writer in
    let other : c.in_ok-verdict.verdict ≢ Yes = search rules in
    let k = unwritten writes c.as_slice.result.now c.in_ok-verdict.verdict other c.in_ok-verdict.ensures in
    let room : g.W.Sink.calls c.args.writer.now + length c.as_slice-2.result.now ≤ 2 ^ 100 = search rules in
    record { room = subst (λ w. g.W.Sink.calls w + length c.as_slice-2.result.now ≤ 2 ^ 100) (sym k.1) room }

pub returns-in_err-put_all : goal.returns-in_err-put_all
returns-in_err-put_all g c =
    let writes = writing g.W.Write.contents g.W.Sink.failed c.args.writer.now c.migrate.new.writer in
    let fault = err_from_is_err_and c.from_residual-in_err-put_all.result c.from_residual-in_err-put_all.ensures.1 in
    let other : c.in_ok-verdict.verdict ≢ Yes = search rules in
    let some : c.in_ok-verdict.verdict ≢ NoMemory = search rules in
    let text = c.as_slice-2.ensures ∙ c.put_verdict.ensures in
    let k = unwritten writes c.in_ok-bytes.bytes.items c.in_ok-verdict.verdict other
    (subst (λ (b : List ℕ). IsMigrated writes b (Ok c.in_ok-verdict.verdict)) c.as_slice.ensures.value c.in_ok-verdict.ensures) in
    half_reported IsRecordText (reading g.R.Read.remaining g.R.Source.calls g.R.Source.failed c.args.reader.now c.read_whole.new.reader) (writing g.W.Write.contents g.W.Sink.failed c.args.writer.now c.put_all.new.writer) c.read_whole.ensures.reads
    c.from_residual-in_err-put_all.result c.in_err-put_all.field-0.0 (fault.1 ∙ ap Err fault.2) c.in_err-put_all.ensures.only
    (subst (λ w. g.W.Sink.failed w < g.W.Sink.failed c.put_all.new.writer) k.1 c.in_err-put_all.ensures.failed) c.in_ok-verdict.verdict
    (record {
      input = c.in_ok-bytes.bytes.items;
      whole = c.in_ok-bytes.ensures.ok;
      verdict = k.0;
      some = some;
      text = verdict_text c.in_ok-verdict.verdict;
      tells = line_tells c.in_ok-bytes.bytes.items c.in_ok-verdict.verdict other;
      wrote = subst (λ w. HasPartOf (g.W.Write.contents w) (g.W.Write.contents c.put_all.new.writer) (verdict_text c.in_ok-verdict.verdict)) k.1
          (subst (λ (t : List ℕ). HasPartOf (g.W.Write.contents c.migrate.new.writer) (g.W.Write.contents c.put_all.new.writer) t) text c.in_err-put_all.ensures.err);
    })

pub returns : goal.returns
returns g c =
    let reads = reading g.R.Read.remaining g.R.Source.calls g.R.Source.failed c.args.reader.now c.read_whole.new.reader in
    let writes = writing g.W.Write.contents g.W.Sink.failed c.args.writer.now c.migrate.new.writer in
    let writes' = writing g.W.Write.contents g.W.Sink.failed c.args.writer.now c.put_all.new.writer in
    let other : c.in_ok-verdict.verdict ≢ Yes = search rules in
    let some : c.in_ok-verdict.verdict ≢ NoMemory = search rules in
    let text = c.as_slice-2.ensures ∙ c.put_verdict.ensures in
    let k = unwritten writes c.in_ok-bytes.bytes.items c.in_ok-verdict.verdict other
    (subst (λ (b : List ℕ). IsMigrated writes b (Ok c.in_ok-verdict.verdict)) c.as_slice.ensures.value c.in_ok-verdict.ensures) in
    all_reported IsRecordText reads writes' c.read_whole.ensures.reads 1 c.in_ok-verdict.verdict (status_one c.in_ok-verdict.verdict other) (record {
      input = c.in_ok-bytes.bytes.items;
      whole = c.in_ok-bytes.ensures.ok;
      verdict = k.0;
      some = some;
      text = verdict_text c.in_ok-verdict.verdict;
      tells = line_tells c.in_ok-bytes.bytes.items c.in_ok-verdict.verdict other;
      wrote = subst (λ w. Appends (g.W.Write.contents w) (g.W.Write.contents c.put_all.new.writer) (verdict_text c.in_ok-verdict.verdict)) k.1
          (subst (λ (t : List ℕ). Appends (g.W.Write.contents c.migrate.new.writer) (g.W.Write.contents c.put_all.new.writer) t) text c.in_ok-put_all.ensures.ok);
    }) (subst (λ w. g.W.Sink.failed c.put_all.new.writer ≡ g.W.Sink.failed w) k.1 c.in_ok-put_all.ensures.unfailed)
