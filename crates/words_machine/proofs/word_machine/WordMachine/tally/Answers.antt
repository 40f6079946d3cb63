use Rattle.std.proofs.Common.{ap, sym, refl, ◌∷◌, [], ◌∙◌, ◌-◌}
use Rattle.words_machine.specs.Ids.{accesses_in, program_in}
use Rattle.words_machine.proofs.Common.{unbegun_from}
use Rattle.words_machine.proofs.Meeting.{badge_view, dealer_view, counted, still_run}
use Rattle.words_machine.proofs.word_machine.WordMachine.tally.Goals as goal

pub look_together-left-requires-clause-left : goal.look_together-left-requires-clause-left
look_together-left-requires-clause-left g c =
    let view = badge_view _ _ _ _ _ _ c.args.entered.now c.self.inside.words c.into_seat-left.result.me.0 c.entered.invariant.0 c.entered.view_is (c.requires.entered ∙ sym c.self.view_is)
    (ap (λ b. b.views) (sym c.replace.ensures.value) ∙ c.into_seat-left.ensures.2) in
    (_, λ i. (view i, c.into_seat-left.ensures.3 i), refl)

pub look_together-left-requires-clause-right : goal.look_together-left-requires-clause-right
look_together-left-requires-clause-right g c =
    let view = dealer_view _ _ _ c.args.dealer.now c.self.inside.words c.into_seat-right.result.me.0 c.dealer.invariant.1 c.dealer.view_is (c.requires.dealer ∙ sym c.self.view_is)
    (ap (λ b. b.views) (sym c.replace-2.ensures.value) ∙ c.into_seat-right.ensures.2) in
    (unbegun_from c.args.dealer.now.dealt (c.self.inside.words.most - c.args.dealer.now.dealt), λ i. (view i, c.into_seat-right.ensures.3 i))

pub invariant_of-entered : goal.invariant_of-entered
invariant_of-entered g c =
    let same = c.into_badge.ensures.2 ∙ ap (λ me. me.0 ∷ []) c.look_together-left.ensures.left ∙ sym (ap (λ b. b.views) (sym c.replace.ensures.value) ∙ c.into_seat-left.ensures.2) in
    let still = still_run g.P.WordProgram.law g.met.P.WordProgram.sound.after _ _ _ _ _ _ _ (c.entered.invariant.0, c.entered.invariant.1) same in
    (still.0, still.1, c.entered.invariant.2 ∙ sym (ap accesses_in same), c.entered.invariant.3 ∙ sym (ap (λ vs. program_in g.P.WordProgram.law c.entered.inside.number c.entered.inside.identity vs) same))

pub returns-clause-counted : goal.returns-clause-counted
returns-clause-counted g c =
    let left = badge_view _ _ _ _ _ _ c.args.entered.now c.self.inside.words c.into_seat-left.result.me.0 c.entered.invariant.0 c.entered.view_is (c.requires.entered ∙ sym c.self.view_is)
    (ap (λ b. b.views) (sym c.replace.ensures.value) ∙ c.into_seat-left.ensures.2) in
    let right = dealer_view _ _ _ c.args.dealer.now c.self.inside.words c.into_seat-right.result.me.0 c.dealer.invariant.1 c.dealer.view_is (c.requires.dealer ∙ sym c.self.view_is)
    (ap (λ b. b.views) (sym c.replace-2.ensures.value) ∙ c.into_seat-right.ensures.2) in
    counted g.P.WordProgram.law g.met.P.WordProgram.sound.after c.self.inside.words.most c.args.dealer.now.dealt c.args.entered.now (rw (left, right) at c.look_together-left.ensures.met)
