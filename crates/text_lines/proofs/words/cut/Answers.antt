use Rattle.std.proofs.Common.{[], ◌+◌, length, take, sym, ap, ◌∙◌, arith}
use Rattle.text_lines.proofs.Common.{take_all, eqb-true, pieces_from}
use Rattle.text_lines.specs.lemmas.PieceProofs.{nowhere-lacks, parted_at, pieces-cut, pieces-last}
use Rattle.text_lines.proofs.QuickLemmas.{rest_of-slice}
use Rattle.text_lines.proofs.words.cut.Goals as goal

pub returns-in-Some-clause-pieces : goal.returns-in-Some-clause-pieces
returns-in-Some-clause-pieces c =
    let by = c.args.separator in
    let bytes = c.args.bytes.now in
    let at = c.in-Some.at in
    let first = c.in-Some.ensures in
    rw (rest_of-slice bytes (at + 1)) (ap (pieces_from by []) (sym (parted_at bytes at by first.0.high (eqb-true _ _ first.1))) ∙ pieces-cut by [] (take at bytes) _ (nowhere-lacks by bytes at first.0.before))

pub returns-in-None-clause-pieces : goal.returns-in-None-clause-pieces
returns-in-None-clause-pieces c =
    let bytes = c.args.bytes.now in
    pieces-last c.args.separator [] bytes (rw (take_all (length bytes) bytes (omega arith)) at (nowhere-lacks c.args.separator bytes (length bytes) c.in-None.ensures))
