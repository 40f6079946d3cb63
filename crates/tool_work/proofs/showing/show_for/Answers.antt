use Rattle.std.proofs.lemmas.Result.{err_from_is_err_and}
use Rattle.std.proofs.Common.{ap, ◌∙◌, refl, subst, List, ℕ, Ok, Err}
use Rattle.tool_work.proofs.Common.{IsShown, reading, writing}
use Rattle.tool_work.specs.Shown.{stretch_asked}
use Rattle.tool_work.proofs.ShowLemmas.{all_shown, half_shown, unread_shown}
use Rattle.tool_work.proofs.showing.show_for.Goals as goal

pub returns-in_err-bytes : goal.returns-in_err-bytes
returns-in_err-bytes g c =
    let fault = err_from_is_err_and c.from_residual.result c.from_residual.ensures.1 in
    unread_shown (stretch_asked c.args.showing) (reading g.R.Read.remaining g.R.Source.calls g.R.Source.failed c.args.reader.now c.read_whole.new.reader) (writing g.W.Write.contents g.W.Sink.failed c.args.writer.now c.args.writer.now) c.read_whole.ensures.reads
    refl c.from_residual.result c.in_err-bytes.field-0.0 (fault.1 ∙ ap Err fault.2) c.in_err-bytes.ensures.only (λ is. c.in_err-bytes.ensures.read_fault (ap Err is))
    (λ is. c.in_err-bytes.ensures.memory (ap Err is))

pub returns-in_err-verdict : goal.returns-in_err-verdict
returns-in_err-verdict g c =
    let writes = writing g.W.Write.contents g.W.Sink.failed c.args.writer.now c.show.new.writer in
    let stretch = stretch_asked c.args.showing in
    let fault = err_from_is_err_and c.from_residual-in_err-verdict.result c.from_residual-in_err-verdict.ensures.1 in
    let shown = subst (λ (b : List ℕ). IsShown writes b c.stretch_asked.result (Err c.in_err-verdict.field-0.0)) c.as_slice.ensures.value c.in_err-verdict.ensures in
    half_shown stretch (reading g.R.Read.remaining g.R.Source.calls g.R.Source.failed c.args.reader.now c.read_whole.new.reader) writes c.read_whole.ensures.reads
    c.from_residual-in_err-verdict.result c.in_err-verdict.field-0.0 (fault.1 ∙ ap Err fault.2) c.in_ok-bytes.bytes.items c.in_ok-bytes.ensures.ok
    (subst (λ s. IsShown writes c.in_ok-bytes.bytes.items s (Err c.in_err-verdict.field-0.0)) c.stretch_asked.ensures shown)

pub returns : goal.returns
returns g c =
    let writes = writing g.W.Write.contents g.W.Sink.failed c.args.writer.now c.show.new.writer in
    let stretch = stretch_asked c.args.showing in
    let shown = subst (λ (b : List ℕ). IsShown writes b c.stretch_asked.result (Ok c.in_ok-verdict.verdict)) c.as_slice.ensures.value c.in_ok-verdict.ensures in
    all_shown stretch (reading g.R.Read.remaining g.R.Source.calls g.R.Source.failed c.args.reader.now c.read_whole.new.reader) writes c.read_whole.ensures.reads
    c.in_ok-verdict.verdict c.in_ok-bytes.bytes.items c.in_ok-bytes.ensures.ok
    (subst (λ s. IsShown writes c.in_ok-bytes.bytes.items s (Ok c.in_ok-verdict.verdict)) c.stretch_asked.ensures shown)
