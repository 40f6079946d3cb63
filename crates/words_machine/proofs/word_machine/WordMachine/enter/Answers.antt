use Rattle.std.proofs.Common.{subst, sym, ◌∙◌, ◌≤◌}
use Rattle.words_machine.specs.Ids.{accesses_in}
use Rattle.words_machine.proofs.Common.{WordsId}
use Rattle.words_machine.proofs.Meeting.{told_run, few_made, count_made}
use Rattle.words_machine.proofs.word_machine.WordMachine.enter.Goals as goal

pub invariant_of-result : goal.invariant_of-result
invariant_of-result g c =
    let made = told_run g.P.WordProgram.law g.met.P.WordProgram.sound.after _ _ _ _ _ _ _ _ c.run-outcome.ensures.ended c.into_badge.ensures.2 in
    (made.1, made.2, c.run-outcome.ensures.counted ∙ count_made g.P.WordProgram.law g.met.P.WordProgram.sound.after _ _ _ _ _ _ _ c.run-outcome.ensures.ended c.into_badge.ensures.2, sym made.0)

pub returns-clause-law : goal.returns-clause-law
returns-clause-law g c = (told_run g.P.WordProgram.law g.met.P.WordProgram.sound.after _ _ _ _ _ _ _ _ c.run-outcome.ensures.ended c.into_badge.ensures.2).2

pub returns-clause-few : goal.returns-clause-few
returns-clause-few g c = subst (λ (w : WordsId). accesses_in c.into_badge.result.views ≤ g.P.WordProgram.law.bound w.most) c.self.view_is
    (few_made g.P.WordProgram.law g.met.P.WordProgram.sound.after g.met.P.WordProgram.sound.few _ _ _ _ _ _ _ c.run-outcome.ensures.ended c.into_badge.ensures.2)
