use Rattle.std.proofs.Common.{ap, sym, ◌∙◌}
use Rattle.words_machine.specs.SeatViews.{ending_at}
use Rattle.words_machine.proofs.Common.{WordsId}
use Rattle.words_machine.proofs.Claiming.{claim_view, have_reported}
use Rattle.words_machine.proofs.word_machine.WordMachine.compare.Goals as goal

pub compare-left-requires-clause-left : goal.compare-left-requires-clause-left
compare-left-requires-clause-left g c =
    let view = claim_view _ _ _ _ c.args.one.now c.self.inside.words c.into_seat-left.result.me.0 c.one.invariant c.one.view_is (c.requires.one ∙ sym c.self.view_is)
    (ap (λ b. b.views) (sym c.replace.ensures.value) ∙ c.into_seat-left.ensures.2) in
    (ending_at c.args.one.now.number c.args.one.now.outcome, λ i. (view i, c.into_seat-left.ensures.3 i))

pub compare-left-requires-clause-right : goal.compare-left-requires-clause-right
compare-left-requires-clause-right g c =
    let view = claim_view _ _ _ _ c.args.other.now c.self.inside.words c.into_seat-right.result.me.0 c.other.invariant c.other.view_is (c.requires.other ∙ sym c.self.view_is)
    (ap (λ b. b.views) (sym c.replace-2.ensures.value) ∙ c.into_seat-right.ensures.2) in
    (ending_at c.args.other.now.number c.args.other.now.outcome, λ i. (view i, c.into_seat-right.ensures.3 i))

pub returns-clause-reported : goal.returns-clause-reported
returns-clause-reported g c =
    let left = claim_view _ _ _ _ c.args.one.now c.self.inside.words c.into_seat-left.result.me.0 c.one.invariant c.one.view_is (c.requires.one ∙ sym c.self.view_is)
    (ap (λ b. b.views) (sym c.replace.ensures.value) ∙ c.into_seat-left.ensures.2) in
    let right = claim_view _ _ _ _ c.args.other.now c.self.inside.words c.into_seat-right.result.me.0 c.other.invariant c.other.view_is (c.requires.other ∙ sym c.self.view_is)
    (ap (λ b. b.views) (sym c.replace-2.ensures.value) ∙ c.into_seat-right.ensures.2) in
    have_reported g.P.WordProgram.law g.met.P.WordProgram.sound.after c.self.inside.words.most c.args.one.now c.args.other.now (ap (λ (w : WordsId). w.most) (c.requires.one ∙ sym c.self.view_is)) (rw (left, right) at c.compare-left.ensures.met)
