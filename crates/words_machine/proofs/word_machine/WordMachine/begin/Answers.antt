use Rattle.std.proofs.Common.{ap, sym, subst, ◌≡◌, ℕ, ◌∙◌}
use Rattle.words_machine.specs.Ids.{SeatId}
use Rattle.words_machine.proofs.Common.{WordsId, own, accesses_in}
use Rattle.words_machine.proofs.Running.{begins}
use Rattle.words_machine.proofs.word_machine.WordMachine.begin.Goals as goal

pub invariant_of-result : goal.invariant_of-result
invariant_of-result g c =
    let law = g.P.WordProgram.law in
    let most : c.most.result ≡ c.fresh.inside.seat.me.0.most =
    c.most.ensures.count ∙ ap (λ (w : WordsId). w.most) (c.self.view_is ∙ sym c.requires.ours) ∙ sym (ap (λ (s : SeatId). s.words.most) c.fresh.view_is) in (
      c.fresh.invariant.0,
      sym (ap accesses_in c.fresh.invariant.1),
      begins g.P.WordProgram.steps law g.met.P.WordProgram.sound _ _ _ _ _ (subst law.MayStart most c.most.ensures.may) c.fresh.invariant.0 (subst (λ (s : SeatId). law.MayBegin (own s.number) c.args.identity) (sym c.fresh.view_is) c.requires.begins)
          (c.start-program.ensures ∙ ap (λ (n : ℕ). law.start n (own c.fresh.inside.number) c.args.identity) most) c.fresh.invariant.1,
    )
