use Rattle.std.proofs.Common.{ap, sym, refl, ◌∷◌, [], ◌∙◌}
use Rattle.words_machine.specs.Ids.{accesses_in, program_in}
use Rattle.words_machine.proofs.Common.{ended_at, WordsId}
use Rattle.words_machine.proofs.Meeting.{badge_view, have_run, still_run}
use Rattle.words_machine.proofs.word_machine.WordMachine.meet.Goals as goal

pub look_together-left-requires-clause-left : goal.look_together-left-requires-clause-left
look_together-left-requires-clause-left g c =
    let view = badge_view _ _ _ _ _ _ c.args.one.now c.self.inside.words c.into_seat-left.result.me.0 c.one.invariant.0 c.one.view_is (c.requires.one ∙ sym c.self.view_is)
    (ap (λ b. b.views) (sym c.replace.ensures.value) ∙ c.into_seat-left.ensures.2) in
    (_, λ i. (view i, c.into_seat-left.ensures.3 i), refl)

pub look_together-left-requires-clause-right : goal.look_together-left-requires-clause-right
look_together-left-requires-clause-right g c =
    let view = badge_view _ _ _ _ _ _ c.args.other.now c.self.inside.words c.into_seat-right.result.me.0 c.other.invariant.0 c.other.view_is (c.requires.other ∙ sym c.self.view_is)
    (ap (λ b. b.views) (sym c.replace-2.ensures.value) ∙ c.into_seat-right.ensures.2) in
    (ended_at c.args.other.now.number c.args.other.now.identity c.args.other.now.program c.args.other.now.outcome c.args.other.now.accesses c.args.other.now.entered ∷ [], λ i. (view i, c.into_seat-right.ensures.3 i))

pub invariant_of-one : goal.invariant_of-one
invariant_of-one g c =
    let same = c.into_badge.ensures.2 ∙ ap (λ me. me.0 ∷ []) c.look_together-left.ensures.left ∙ sym (ap (λ b. b.views) (sym c.replace.ensures.value) ∙ c.into_seat-left.ensures.2) in
    let still = still_run g.P.WordProgram.law g.met.P.WordProgram.sound.after _ _ _ _ _ _ _ (c.one.invariant.0, c.one.invariant.1) same in
    (still.0, still.1, c.one.invariant.2 ∙ sym (ap accesses_in same), c.one.invariant.3 ∙ sym (ap (λ vs. program_in g.P.WordProgram.law c.one.inside.number c.one.inside.identity vs) same))

pub invariant_of-other : goal.invariant_of-other
invariant_of-other g c =
    let same = c.into_badge-2.ensures.2 ∙ ap (λ me. me.0 ∷ []) c.look_together-left.ensures.right ∙ sym (ap (λ b. b.views) (sym c.replace-2.ensures.value) ∙ c.into_seat-right.ensures.2) in
    let still = still_run g.P.WordProgram.law g.met.P.WordProgram.sound.after _ _ _ _ _ _ _ (c.other.invariant.0, c.other.invariant.1) same in
    (still.0, still.1, c.other.invariant.2 ∙ sym (ap accesses_in same), c.other.invariant.3 ∙ sym (ap (λ vs. program_in g.P.WordProgram.law c.other.inside.number c.other.inside.identity vs) same))

pub returns-clause-met : goal.returns-clause-met
returns-clause-met g c =
    let left = badge_view _ _ _ _ _ _ c.args.one.now c.self.inside.words c.into_seat-left.result.me.0 c.one.invariant.0 c.one.view_is (c.requires.one ∙ sym c.self.view_is)
    (ap (λ b. b.views) (sym c.replace.ensures.value) ∙ c.into_seat-left.ensures.2) in
    let right = badge_view _ _ _ _ _ _ c.args.other.now c.self.inside.words c.into_seat-right.result.me.0 c.other.invariant.0 c.other.view_is (c.requires.other ∙ sym c.self.view_is)
    (ap (λ b. b.views) (sym c.replace-2.ensures.value) ∙ c.into_seat-right.ensures.2) in
    have_run g.P.WordProgram.law g.met.P.WordProgram.sound.after c.self.inside.words.most c.args.one.now c.args.other.now (ap (λ (w : WordsId). w.most) (c.requires.one ∙ sym c.self.view_is)) (rw (left, right) at c.look_together-left.ensures.met)
