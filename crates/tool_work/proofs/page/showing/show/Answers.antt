use Rattle.std.proofs.Common.{◌≡◌, ℕ, List, Result, Err, rules, subst, sym, MatchResult}
use Rattle.text_lines.specs.Written.{HasPartOf}
use Rattle.text_lines.specs.declared.fault.Fault.{Fault}
use Rattle.text_player.specs.Played.{writing}
use Rattle.text_records.specs.Records.{record_lines}
use Rattle.text_checker.specs.Migrated.{IsOther}
use Rattle.text_checker.specs.Verdict.{IsSaid}
use Rattle.text_checker.specs.declared.verdict.Verdict.{Verdict}
use Rattle.tool_work.specs.page.Shown.{IsPage, IsShown}
use Rattle.tool_work.proofs.page.showing.show.Goals as goal

pub returns-in_err-put_all-in-Ok-Ok : goal.returns-in_err-put_all-in-Ok-Ok
returns-in_err-put_all-in-Ok-Ok g c =
    let bytes = c.args.bytes.now in
    let e = c.in_err-put_all-in-Ok-Ok.ensures in
    let fault : c.from_residual.result ≡ Err c.in_err-put_all-in-Ok-Ok.field-0.0 = search rules in
    let made = subst (λ (r : Result (List ℕ) Verdict). MatchResult r (IsPage bytes c.args.stretch) (IsOther (IsSaid (record_lines bytes)))) c.in-Ok-Ok.field-0-is c.in-Ok-Ok.ensures in
    subst (λ (r : Result Verdict Fault). IsShown (writing g.W.Write.contents g.W.Sink.failed c.args.writer.now c.put_all.new.writer) bytes c.args.stretch r) (sym fault)
    (e.only, e.failed, (c.in-Ok-Ok.text, made, subst (λ (text : List ℕ). HasPartOf (g.W.Write.contents c.args.writer.now) (g.W.Write.contents c.put_all.new.writer) text) c.as_slice.ensures e.err))
