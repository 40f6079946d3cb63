use Rattle.std.proofs.Common.{◌≡◌, ◌∷◌, ◌++◌, [], ℕ, List, Option, Some, None, sym, ap, ◌∙◌, refl, subst}
use Rattle.text_checker.proofs.Common.{option_copied, Judge, HasTakenBut, bytes_left}
use Rattle.text_lines.specs.Lines.{pieces_from, pieces_left}
use Rattle.text_checker.proofs.records.Stages.{line_ended, line_held}
use Rattle.text_checker.proofs.judge.Judge.take.Goals as goal

pub loop-left-preserved-in_ok-end_line-in-Some-rest : goal.loop-left-preserved-in_ok-end_line-in-Some-rest
loop-left-preserved-in_ok-end_line-in-Some-rest c = λ seen all.
    (let whole = seen ++ c.args.bytes.now in
    let rest : option_copied c.cut.result.1 ≡ Some c.in-Some-rest.field-0.now = ap (λ o. option_copied o) c.in-Some-rest.is in
    let had : HasTakenBut c.in-Some.bytes.now whole c.loop-left.self = subst (λ (o : Option (List ℕ)). HasTakenBut (bytes_left o) whole c.loop-left.self) (ap (λ o. option_copied o) c.in-Some.is) (c.loop-left.invariant seen all) in
    let pieces : pieces_from 10 [] c.in-Some.bytes.now ≡ c.cut.result.0.now ∷ pieces_from 10 [] c.in-Some-rest.field-0.now = c.cut.ensures.pieces ∙ ap (λ (o : Option (List ℕ)). c.cut.result.0.now ∷ pieces_left 10 o) rest in
    subst (λ (o : Option (List ℕ)). HasTakenBut (bytes_left o) whole c.end_line.new.self) (sym rest)
    (line_ended whole c.in-Some.bytes.now c.cut.result.0.now c.in-Some-rest.field-0.now c.loop-left.self c.end_line.new.self had pieces c.in_ok-end_line-in-Some-rest.ensures.held c.in_ok-end_line-in-Some-rest.ensures.stands))

pub loop-left-preserved : goal.loop-left-preserved
loop-left-preserved c = λ seen all.
    (let whole = seen ++ c.args.bytes.now in
    let new : Judge = record { alloc = c.loop-left.self.alloc; held = c.extend_from_slice.new.self; stage = c.loop-left.self.stage } in
    let rest : option_copied c.cut.result.1 ≡ None = ap (λ o. option_copied o) c.in-None.is in
    let had : HasTakenBut c.in-Some.bytes.now whole c.loop-left.self = subst (λ (o : Option (List ℕ)). HasTakenBut (bytes_left o) whole c.loop-left.self) (ap (λ o. option_copied o) c.in-Some.is) (c.loop-left.invariant seen all) in
    let pieces : pieces_from 10 [] c.in-Some.bytes.now ≡ c.cut.result.0.now ∷ [] = c.cut.ensures.pieces ∙ ap (λ (o : Option (List ℕ)). c.cut.result.0.now ∷ pieces_left 10 o) rest in
    subst (λ (o : Option (List ℕ)). HasTakenBut (bytes_left o) whole new) (sym rest)
    (line_held whole c.in-Some.bytes.now c.cut.result.0.now c.loop-left.self new had pieces c.in_ok-extend_from_slice-in-None.ensures.items refl))
