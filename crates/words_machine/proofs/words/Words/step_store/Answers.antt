use Rattle.std.proofs.Common.{◌≡◌, ℕ, ap, sym, arith, refl, subst, ◌∙◌}
use Rattle.words_machine.proofs.Common.{WordsId, Done}
use Rattle.words_machine.proofs.Reaching.{may_write, has_written, has_stepped, write_within}
use Rattle.words_machine.proofs.words.Words.step_store.Goals as goal

pub store-requires : goal.store-requires
store-requires g c =
    let law = g.P.WordProgram.law in
    let most : c.self.inside.most ≡ c.args.self.now.most = ap (λ (w : WordsId). w.most) c.self.view_is in
    let there = write_within g.P.WordProgram.steps law _ c.args.register _ _ c.requires.before.within c.requires.writes in
    let low = g.met.P.WordProgram.sound.within c.self.inside.most c.args.register (subst (λ (n : ℕ). law.IsRegister n c.args.register) (sym most) there) in
    let at = c.place-at.ensures in
    let all = c.self.invariant.3 in (
      c.requires.ours ∙ ap (λ (w : WordsId). w.table) (sym c.self.view_is),
      omega arith,
      may_write g.P.WordProgram.steps law g.met.P.WordProgram.sound _ c.args.self.now.most (sym most ∙ sym c.self.invariant.2) c.args.number c.args.identity _ _ c.requires.before _ _ _ c.args.register _ _ (at ∙ ap (λ (k : ℕ). law.place k c.args.register) most) there c.requires.writes,
    )

pub returns-clause-after : goal.returns-clause-after
returns-clause-after g c =
    let steps = g.P.WordProgram.steps in
    let law = g.P.WordProgram.law in
    let got = has_written steps law g.met.P.WordProgram.sound _ c.args.self.now.most refl c.args.number c.args.identity c.args.program.now c.args.seat.now.me c.requires.before _ c.args.register _ c.store.new.seat.me c.requires.writes c.store.ensures.2 in
    has_stepped steps law g.met.P.WordProgram.sound _ c.args.self.now.most refl c.args.number c.args.identity _ _ c.requires.before Done c.take_done.new.self c.take_done.result c.store.new.seat.me
    got c.take_done.ensures.after c.take_done.ensures.note
