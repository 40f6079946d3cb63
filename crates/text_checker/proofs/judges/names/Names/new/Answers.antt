use Rattle.std.proofs.Common.{sym, arith}
use Rattle.text_checker.proofs.judges_lemmas.seats.Names.{none_begun}
use Rattle.text_checker.proofs.judges.names.Names.new.Goals as goal

pub returns : goal.returns
returns c = λ terms most limit fits low few.
    none_begun terms (record { participants = c.new-2.result; moments = c.in_ok-new.field-0; most = c.args.most; limit = c.args.limit }) c.new-2.ensures c.in_ok-new.ensures (sym most) (sym limit) (omega arith) (omega arith)
    (omega arith)
