use Rattle.std.proofs.Common.{◌≡◌, ◌+◌, ◌-◌, ◌<◌, ◌==◌, ◌∷◌, ◌++◌, [], ℕ, false, get_or, length, take, arith, ap, sym, ◌∙◌}
use Rattle.std.proofs.lemmas.List.{drop_all, drop_more, take_more}
use Rattle.std.proofs.lemmas.Bool.{ne_eqb}
use Rattle.text_lines.specs.Lines.{has_no_lf, rest_of}
use Rattle.service_journal.proofs.FaultLemmas.{ended, is_whole}
use Rattle.service_journal.proofs.opening.whole_length.Goals as goal

pub loop-end-init : goal.loop-end-init
loop-end-init c = (omega arith, ap has_no_lf (drop_all (length c.args.bytes.now) c.args.bytes.now (omega arith)))

pub loop-end-preserved : goal.loop-end-preserved
loop-end-preserved c =
    let some = c.loop-end-test.true in
    let within = c.loop-end.invariant.0 in
    let at : c.loop-end.end - 1 < length c.args.bytes.now = omega arith in
    let next : c.loop-end.end - 1 + 1 ≡ c.loop-end.end = omega arith in
    let one = drop_more c.args.bytes.now (c.loop-end.end - 1) 0 at in
    let no : (get_or c.args.bytes.now (c.loop-end.end - 1) 0 == 10) ≡ false = ne_eqb _ 10 c.if-bytes-end-ne10.true in
    (omega arith, ap has_no_lf one ∙ rw (no, next) c.loop-end.invariant.1)

pub returns-else-bytes-end-ne10-clause-whole : goal.returns-else-bytes-end-ne10-clause-whole
returns-else-bytes-end-ne10-clause-whole c =
    let bytes = c.args.bytes.now in
    let end = c.loop-end.end in
    let some = c.loop-end-test.true in
    let within = c.loop-end.invariant.0 in
    let at : end - 1 < length bytes = omega arith in
    let next : end - 1 + 1 ≡ end = omega arith in
    let last : get_or bytes (end - 1) 0 ≡ 10 = omega (arith, c.if-bytes-end-ne10.false) in
    let front : take end bytes ≡ take (end - 1) bytes ++ 10 ∷ [] = ap (λ (n : ℕ). take n bytes) (sym next) ∙ take_more bytes (end - 1) 0 at ∙ ap (λ (b : ℕ). take (end - 1) bytes ++ b ∷ []) last in
    is_whole c.law_of_lines.ensures.cut c.law_of_lines.ensures.once bytes end c.loop-end.invariant.1 (ended c.law_of_lines.ensures.cut (take end bytes) (take (end - 1) bytes) front)

pub returns-after-loop-end-clause-whole : goal.returns-after-loop-end-clause-whole
returns-after-loop-end-clause-whole c =
    let bytes = c.args.bytes.now in
    let none : c.loop-end.end ≡ 0 = omega (arith, c.loop-end-test.false) in
    is_whole c.law_of_lines.ensures.cut c.law_of_lines.ensures.once bytes c.loop-end.end c.loop-end.invariant.1 (ap (λ (n : ℕ). rest_of (take n bytes)) none)
