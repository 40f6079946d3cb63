use Rattle.std.proofs.Common.{◌≡◌, ℕ, true, List, length, sym, subst, arith}
use Rattle.std.proofs.lemmas.List.{take_all}
use Rattle.text_lines.specs.lemmas.PieceProofs.{lacks, nowhere-lacks}
use Rattle.service_loop.proofs.OwnLemmas.{lacks_at}
use Rattle.service_loop.proofs.asking.lacks.Goals as goal

pub returns-in-None : goal.returns-in-None
returns-in-None c = sym (subst (λ (l : List ℕ). lacks c.args.byte l ≡ true) (take_all (length c.args.bytes.now) c.args.bytes.now (omega arith)) (nowhere-lacks c.args.byte c.args.bytes.now (length c.args.bytes.now) c.in-None.ensures))

pub returns-in-Some : goal.returns-in-Some
returns-in-Some c = sym (lacks_at c.args.byte c.args.bytes.now _ c.in-Some.ensures)
