use Rattle.std.proofs.Common.{ap, sym, subst, ◌≡◌, ◌<◌, ◌≤◌, ◌+◌, ◌∙◌, ℕ, arith}
use Rattle.words_machine.specs.Ids.{RunningId}
use Rattle.words_machine.proofs.Common.{WordsId, Me, SeatView, Stands, accesses_in}
use Rattle.words_machine.proofs.Meeting.{told_run, count_made}
use Rattle.words_machine.proofs.Running.{few, goes_on, has_ended, still_on, ended_with}
use Rattle.words_machine.proofs.word_machine.WordMachine.step.Goals as goal

pub invariant_of-result : goal.invariant_of-result
invariant_of-result g c =
    let law = g.P.WordProgram.law in
    let after = c.step-note.ensures.after in
    let ended = has_ended g.P.WordProgram.steps law g.met.P.WordProgram.sound _ _ _ _ _ _ _ after c.in-Some.outcome (ended_with _ _ (sym c.outcome.ensures ∙ c.in-Some.is)) in
    let made = told_run law g.met.P.WordProgram.sound.after _ _ _ _ _ _ _ _ ended c.into_badge.ensures.2 in
    let counted : c.running.inside.accesses + 1 ≡ accesses_in c.step-note.new.seat.me = (let before = c.running.invariant.1 in let one = after.one_more in omega arith) in
    (made.1, made.2, counted ∙ count_made law g.met.P.WordProgram.sound.after _ _ _ _ _ _ _ ended c.into_badge.ensures.2, sym made.0)

pub returns-in-Some-clause-law : goal.returns-in-Some-clause-law
returns-in-Some-clause-law g c =
    let law = g.P.WordProgram.law in
    let ended = has_ended g.P.WordProgram.steps law g.met.P.WordProgram.sound _ _ _ _ _ _ _ c.step-note.ensures.after c.in-Some.outcome (ended_with _ _ (sym c.outcome.ensures ∙ c.in-Some.is)) in
    (told_run law g.met.P.WordProgram.sound.after _ _ _ _ _ _ _ _ ended c.into_badge.ensures.2).2

pub invariant_of-result-in-None : goal.invariant_of-result-in-None
invariant_of-result-in-None g c =
    let law = g.P.WordProgram.law in
    let after = c.step-note.ensures.after in
    let none = sym c.outcome.ensures ∙ c.in-None.is in
    let size : c.self.inside.words.most ≡ c.step-note.new.seat.me.0.most = sym (ap (λ (x : Me ℕ (SeatView g.row.P.Denot g.row.P-Output.Denot)). x.0.most) after.me_is) in
    let old : c.running.inside.seat.me.0.most ≡ c.self.inside.words.most =
    ap (λ (s : RunningId g.row.P.Denot). s.words.most) c.running.view_is ∙ ap (λ (w : WordsId). w.most) (c.requires.ours ∙ sym c.self.view_is) in (
      subst (λ (n : ℕ). c.running.inside.number < n) (old ∙ size) c.running.invariant.0,
      (let before = c.running.invariant.1 in let one = after.one_more in omega arith),
      subst (λ (n : ℕ). Stands g.P.WordProgram.steps law {S = ℕ} n c.running.inside.number c.running.inside.identity c.step-note.new.program c.step-note.new.seat.me) size
          (goes_on g.P.WordProgram.steps law g.met.P.WordProgram.sound _ _ _ _ _ _ _ after (still_on _ none) none),
    )

pub returns-in-None-clause-few : goal.returns-in-None-clause-few
returns-in-None-clause-few g c =
    let after = c.step-note.ensures.after in
    let made = few g.P.WordProgram.steps g.P.WordProgram.law g.met.P.WordProgram.sound _ _ _ _ _ _ _ after in
    let before = c.running.invariant.1 in
    let one = after.one_more in
    subst (λ (w : WordsId). c.running.inside.accesses + 1 ≤ g.P.WordProgram.law.bound w.most) c.self.view_is (omega arith)
