use Rattle.std.proofs.Common.{◌≡◌, ℕ, List, [], ◌∷◌, replicate, sym, subst, ◌∙◌}
use Rattle.words_machine.proofs.Common.{undealt_from, IsRunning}
use Rattle.words_machine.proofs.Dealing.{opens}
use Rattle.words_machine.proofs.words.Words.open.Goals as goal

pub of_words-requires : goal.of_words-requires
of_words-requires g c =
    let law = g.P.WordProgram.law in
    let all : c.in_ok-words.words.items ≡ replicate (law.registers c.args.most) 0 = c.in_ok-words.ensures.items_if_clones_equal (λ y h. h) ∙ (λ i. replicate (c.registers.ensures i) 0) in
    let items : c.as_slice.result.now ≡ replicate (law.registers c.args.most) 0 = c.as_slice.ensures.value ∙ all in
    subst (λ (l : List ℕ). IsRunning law c.args.most l (undealt_from 0 c.args.most ∷ [])) (sym items) (opens g.P.WordProgram.steps law c.args.most (g.met.P.WordProgram.sound.fresh c.args.most c.requires.may) ℕ)
