use Rattle.std.proofs.Common.{◌∙◌, sym}
use Rattle.text_checker.proofs.judges_lemmas.seats.Firsts.{sole_here, many_here}
use Rattle.text_checker.proofs.judges.firsts.sole_proposer.Goals as goal

pub returns-then-is_proposed : goal.returns-then-is_proposed
returns-then-is_proposed c = sym (many_here c.args.number c.args.pairs.now c.loop-i.i c.loop-i-test.true c.if-pairs-i.true (sym c.is_proposed.ensures ∙ c.if-is_proposed.true)) ∙ c.loop-i.invariant

pub returns-then-pairs-i : goal.returns-then-pairs-i
returns-then-pairs-i c = sym (sole_here c.args.number c.args.pairs.now c.loop-i.i c.loop-i-test.true c.if-pairs-i.true (sym c.is_proposed.ensures ∙ c.if-is_proposed.false)) ∙ c.loop-i.invariant
