use Rattle.std.proofs.Common.{◌∙◌, ◌-◌, List, ℕ, length, take, drop, sym, subst}
use Rattle.std.proofs.lemmas.List.{take_rest}
use Rattle.text_lines.specs.Lines.{whole_lines}
use Rattle.service_loop.specs.Attending.{Hears}
use Rattle.service_loop.specs.Losing.{lost_acts}
use Rattle.service_loop.proofs.LosingLemmas.{lines_all, lines_next, lost_then}
use Rattle.service_loop.proofs.losing.note_lost.Goals as goal

pub returns-in_default-clause-hears : goal.returns-in_default-clause-hears
returns-in_default-clause-hears g c =
    let bytes = c.args.lines.now in
    let from = c.loop-from.from in
    let rest = take (length bytes - from) (drop from bytes) in
    subst (λ (l : List (List ℕ)). Hears (lost_acts c.args.kind c.args.service.now.stays l) c.args.service.now c.loop-from.service)
    (lines_all bytes rest from (take_rest bytes from) c.loop-from.invariant.none c.in_default.ensures) c.loop-from.invariant.heard

pub loop-from-preserved : goal.loop-from-preserved
loop-from-preserved g c =
    let bytes = c.args.lines.now in
    let from = c.loop-from.from in
    let rest = take (length bytes - from) (drop from bytes) in
    let i = c.loop-from.invariant in
    let line = take c.in-Some.end rest in
    let on = lines_next bytes rest from c.in-Some.end (take_rest bytes from) i.none c.in-Some.ensures in
    record {
      inside = on.inside;
      none = on.none;
      heard = subst (λ (l : List (List ℕ)). Hears (lost_acts c.args.kind c.args.service.now.stays l) c.args.service.now c.note_line.new.service) (sym on.whole)
          (lost_then c.args.kind (whole_lines (take from bytes)) line _ _ _ i.heard c.note_line.ensures.hears);
      same = c.note_line.ensures.same ∙ i.same;
    }
