-- lines that are replayed one by one
use Rattle.std.proofs.Common.{◌≡◌, ℕ, ◌<◌, List, [], ◌∷◌, ◌++◌, length, flat_map, ap, sym, ◌∙◌, arith, append_assoc, length-append}
use Rattle.service_journal.proofs.Common.{append-nil, flat_map-append, exchange_line, HallState}
use Rattle.service_journal.specs.Openings.{GoesOnBy}
use Rattle.service_journal.proofs.LineText.{row_of, line_ended}

-- what was replayed and what is left are all
pub one_more : (h u : HallState) (all left rest : List ℕ) → all ≡ flat_map exchange_line h.history ++ left → GoesOnBy h u left rest → all ≡ flat_map exchange_line u.history ++ rest
one_more h u all left rest is g =
    let line = exchange_line g.exchange in
    let before = flat_map exchange_line h.history in
    let more : flat_map exchange_line u.history ≡ before ++ line =
    ap (λ (v : HallState). flat_map exchange_line v.history) g.after ∙ flat_map-append exchange_line h.history (g.exchange ∷ []) ∙ ap (λ (l : List ℕ). before ++ l) (append-nil line) in
    is ∙ ap (λ (l : List ℕ). before ++ l) g.line ∙ sym (append_assoc before line rest) ∙ ap (λ (l : List ℕ). l ++ rest) (sym more)

-- and less is left
pub shorter : (h u : HallState) (left rest : List ℕ) → GoesOnBy h u left rest → length rest < length left
shorter h u left rest g =
    let many = ap length (g.line ∙ line_ended g.exchange rest) in
    let all = length-append (row_of g.exchange) (10 ∷ rest) in
    omega arith
