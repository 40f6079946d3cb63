use Rattle.std.proofs.Common.{◌≡◌, ◌+◌, ◌∷◌, ◌++◌, [], List, ℕ, length, take, drop, true, false, ap, sym, ◌∙◌, arith}
use Rattle.std.proofs.lemmas.List.{take-append-drop}
use Rattle.std.proofs.lemmas.Bool.Decides.{Decides-eqb}
use Rattle.std.proofs.lemmas.Slice.Eq.{slice_eq-Decides}
use Rattle.text_records.proofs.Common.{false≢true}
use Rattle.text_records.specs.Seals.{opened_line, seal_of}
use Rattle.text_records.proofs.SealLemmas.{seal_right, seal_wrong, short_left}
use Rattle.text_records.proofs.seals.held_line.Goals as goal
use Rattle.text_records.proofs.seals.held_line.Goals.{else-last-eq125-via-then-last-eq125+else-eq, else-last-eq125-via-else-last-eq125}

parts : (line front rest held : List ℕ) (last : ℕ) → front ≡ take 28 line → rest ≡ drop 28 line → rest ≡ held ++ last ∷ [] → line ≡ front ++ (held ++ last ∷ [])
parts line front rest held last a b e =
    sym (take-append-drop 28 line) ∙ ap (λ (f : List ℕ). f ++ drop 28 line) (sym a) ∙ ap (λ (r : List ℕ). front ++ r) (sym b ∙ e)

pub returns-then-line-lt28 : goal.returns-then-line-lt28
returns-then-line-lt28 c = short_left c.args.line.now (omega (arith, c.if-line-lt28.true))

pub returns-in_default : goal.returns-in_default
returns-in_default c = short_left c.args.line.now (omega (arith, c.in_default.ensures.cases, c.split_at.ensures.back_len))

pub returns-then-eq : goal.returns-then-eq
returns-then-eq c =
    let line = c.args.line.now in
    let front = c.split_at.result.0.now in
    let held = c.in-Some.held.now in
    let last = c.in-Some.last.now in
    let is = parts line front c.split_at.result.1.now held last c.split_at.ensures.front c.split_at.ensures.back c.in-Some.ensures.cases.0 in
    let same = (slice_eq-Decides Decides-eqb front c.as_slice.result.now c.eq.result c.eq.ensures).0 c.if-eq.true in
    seal_right line front held last is c.split_at.ensures.front_len c.if-last-eq125.true (same ∙ c.as_slice.ensures ∙ c.seal_of.ensures)

pub returns : goal.returns
returns c =
    let line = c.args.line.now in
    let front = c.split_at.result.0.now in
    let held = c.in-Some.held.now in
    let last = c.in-Some.last.now in
    let is = parts line front c.split_at.result.1.now held last c.split_at.ensures.front c.split_at.ensures.back c.in-Some.ensures.cases.0 in
    seal_wrong line front held last is c.split_at.ensures.front_len (λ both. elim c.else-last-eq125.branch [
      | else-last-eq125-via-then-last-eq125+else-eq w ↦ false≢true (sym w.if-eq.false ∙ (slice_eq-Decides Decides-eqb front w.as_slice.result.now w.eq.result w.eq.ensures).1 (both.0 ∙ sym (w.as_slice.ensures ∙ w.seal_of.ensures)))
      | else-last-eq125-via-else-last-eq125 w ↦ w.if-last-eq125.false both.1
    ])
