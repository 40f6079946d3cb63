use Rattle.std.proofs.Common.{◌≡◌, ℕ, ap, sym, arith, refl, subst, ◌∙◌}
use Rattle.words_machine.proofs.Common.{WordsId, Value}
use Rattle.words_machine.proofs.Reaching.{may_read, has_read, has_stepped, read_within}
use Rattle.words_machine.proofs.words.Words.step_load.Goals as goal

pub place-at-requires-clause-may : goal.place-at-requires-clause-may
place-at-requires-clause-may g c = subst (λ (n : ℕ). g.P.WordProgram.law.MayStart n) (ap (λ (w : WordsId). w.most) c.self.view_is ∙ sym c.requires.most) c.self.invariant.1

pub place-at-requires-clause-there : goal.place-at-requires-clause-there
place-at-requires-clause-there g c =
    let law = g.P.WordProgram.law in
    subst (λ (n : ℕ). law.IsRegister n c.args.register) (sym c.requires.most) (read_within g.P.WordProgram.steps law _ c.args.register _ c.requires.before.within c.requires.reads)

pub load-word-requires : goal.load-word-requires
load-word-requires g c =
    let law = g.P.WordProgram.law in
    let most : c.self.inside.most ≡ c.args.self.now.most = ap (λ (w : WordsId). w.most) c.self.view_is in
    let there = read_within g.P.WordProgram.steps law _ c.args.register _ c.requires.before.within c.requires.reads in
    let low = g.met.P.WordProgram.sound.within c.self.inside.most c.args.register (subst (λ (n : ℕ). law.IsRegister n c.args.register) (sym most) there) in
    let at = c.place-at.ensures ∙ ap (λ (k : ℕ). law.place k c.args.register) (c.requires.most ∙ sym most) in
    let all = c.self.invariant.3 in (
      c.requires.ours ∙ ap (λ (w : WordsId). w.table) (sym c.self.view_is),
      omega arith,
      may_read g.P.WordProgram.steps law g.met.P.WordProgram.sound _ c.args.self.now.most (sym most ∙ sym c.self.invariant.2) c.args.number c.args.identity _ _ c.requires.before _ _ _ c.args.register _ (at ∙ ap (λ (k : ℕ). law.place k c.args.register) most) there c.requires.reads,
    )

pub returns-clause-after : goal.returns-clause-after
returns-clause-after g c =
    let steps = g.P.WordProgram.steps in
    let law = g.P.WordProgram.law in
    let got = has_read steps law g.met.P.WordProgram.sound _ c.args.self.now.most refl c.args.number c.args.identity _ _ c.requires.before _ c.args.register c.load-word.result c.load-word.new.seat.me c.requires.reads c.load-word.ensures.2 in
    has_stepped steps law g.met.P.WordProgram.sound _ c.args.self.now.most refl c.args.number c.args.identity _ _ c.requires.before (Value c.load-word.result) c.take_word.new.self c.take_word.result c.load-word.new.seat.me
    got c.take_word.ensures.after c.take_word.ensures.note
