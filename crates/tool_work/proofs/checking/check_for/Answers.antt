use Rattle.std.proofs.Common.{◌∙◌, ap, subst, refl, List, ℕ, Err}
use Rattle.std.proofs.lemmas.Result.{err_from_is_err_and}
use Rattle.tool_work.proofs.Common.{Appends, reading, writing, HasPartOf}
use Rattle.tool_work.specs.Checked.{verdict_text, IsVerdictText}
use Rattle.tool_work.proofs.CheckLemmas.{all_reported, half_reported, unread}
use Rattle.tool_work.proofs.checking.check_for.Goals as goal

pub returns-in_err-verdict : goal.returns-in_err-verdict
returns-in_err-verdict g c =
    let fault = err_from_is_err_and c.from_residual.result c.from_residual.ensures.1 in
    unread IsVerdictText (reading g.R.Read.remaining g.R.Source.calls g.R.Source.failed c.args.reader.now c.judge_whole.new.reader) (writing g.W.Write.contents g.W.Sink.failed c.args.writer.now c.args.writer.now) c.judge_whole.ensures.reads
    refl c.from_residual.result c.in_err-verdict.field-0.0 (fault.1 ∙ ap Err fault.2) c.in_err-verdict.ensures.only (λ is. c.in_err-verdict.ensures.read_fault (ap Err is))
    (λ is. c.in_err-verdict.ensures.memory (ap Err is))

pub returns-in_err-put_all : goal.returns-in_err-put_all
returns-in_err-put_all g c =
    let fault = err_from_is_err_and c.from_residual-in_err-put_all.result c.from_residual-in_err-put_all.ensures.1 in
    let text = c.as_slice.ensures ∙ c.put_verdict.ensures in
    half_reported IsVerdictText (reading g.R.Read.remaining g.R.Source.calls g.R.Source.failed c.args.reader.now c.judge_whole.new.reader) (writing g.W.Write.contents g.W.Sink.failed c.args.writer.now c.put_all.new.writer) c.judge_whole.ensures.reads
    c.from_residual-in_err-put_all.result c.in_err-put_all.field-0.0 (fault.1 ∙ ap Err fault.2) c.in_err-put_all.ensures.only c.in_err-put_all.ensures.failed c.in_ok-verdict.verdict
    (record {
      input = c.in_ok-verdict.ensures.ok.input;
      whole = c.in_ok-verdict.ensures.ok.whole;
      verdict = c.in_ok-verdict.ensures.ok.verdict;
      some = c.in_ok-verdict.ensures.ok.some;
      text = verdict_text c.in_ok-verdict.verdict;
      tells = refl;
      wrote = subst (λ (t : List ℕ). HasPartOf (g.W.Write.contents c.args.writer.now) (g.W.Write.contents c.put_all.new.writer) t) text c.in_err-put_all.ensures.err;
    })

pub returns : goal.returns
returns g c =
    let reads = reading g.R.Read.remaining g.R.Source.calls g.R.Source.failed c.args.reader.now c.judge_whole.new.reader in
    let writes = writing g.W.Write.contents g.W.Sink.failed c.args.writer.now c.put_all.new.writer in
    let text = c.as_slice.ensures ∙ c.put_verdict.ensures in
    all_reported IsVerdictText reads writes c.judge_whole.ensures.reads c.status_of.result c.in_ok-verdict.verdict c.status_of.ensures (record {
      input = c.in_ok-verdict.ensures.ok.input;
      whole = c.in_ok-verdict.ensures.ok.whole;
      verdict = c.in_ok-verdict.ensures.ok.verdict;
      some = c.in_ok-verdict.ensures.ok.some;
      text = verdict_text c.in_ok-verdict.verdict;
      tells = refl;
      wrote = subst (λ (t : List ℕ). Appends (g.W.Write.contents c.args.writer.now) (g.W.Write.contents c.put_all.new.writer) t) text c.in_ok-put_all.ensures.ok;
    }) c.in_ok-put_all.ensures.unfailed
