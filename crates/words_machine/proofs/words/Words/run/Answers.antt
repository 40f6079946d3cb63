use Rattle.std.proofs.Common.{ap, sym, subst, ◌∙◌, arith}
use Rattle.words_machine.proofs.Common.{WordsId, accesses_in}
use Rattle.words_machine.proofs.Running.{begins, goes_on, still_on}
use Rattle.words_machine.proofs.words.Words.run.Goals as goal

pub loop-outcome-init : goal.loop-outcome-init
loop-outcome-init g c = record {
  ours = c.requires.ours;
  stands = begins g.P.WordProgram.steps g.P.WordProgram.law g.met.P.WordProgram.sound _ _ _ _ _ (subst (λ (w : WordsId). g.P.WordProgram.law.MayStart w.most) c.self.view_is c.self.invariant.1) c.requires.range c.requires.begins c.requires.program c.requires.fresh;
  counted = sym (ap accesses_in c.requires.fresh);
  few = omega arith;
}

pub run_loads-ended-requires-clause-before : goal.run_loads-ended-requires-clause-before
run_loads-ended-requires-clause-before g c =
    let none = sym c.outcome.ensures ∙ c.in_default.is in
    goes_on g.P.WordProgram.steps g.P.WordProgram.law g.met.P.WordProgram.sound _ _ _ _ _ _ _ c.step-note.ensures.after (still_on _ none) none

pub loop-outcome-preserved : goal.loop-outcome-preserved
loop-outcome-preserved g c = record {
  ours = c.run_loads-ended.ensures.ours;
  stands = rw c.in_default-ended.is at c.run_loads-ended.ensures.goes_on;
  counted = c.run_loads-ended.ensures.counted;
  few = c.run_loads-ended.ensures.few;
}
