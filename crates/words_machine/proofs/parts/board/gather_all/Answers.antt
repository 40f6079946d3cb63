use Rattle.std.proofs.Common.{◌+◌, length-append, ◌≡◌, ⊎_elim, inl, inr, ℕ, List, ap, sym, subst, ◌∙◌, refl, arith, ◌∷◌, [], length}
use Rattle.words_machine.proofs.parts_lemmas.Common.{at_last, at_longer, at_snoc, GrantId, HasClaimOf}
use mathlib.Core.Option.{some, some-ne-none}
use lib.ListN.{get_elem?}
use Rattle.words_machine.proofs.parts.board.gather_all.Goals as goal

none_there : (l : List GrantId) (i : ℕ) (h : GrantId) → length l ≡ 0 → ¬ (get_elem? l i ≡ some h)
none_there [] i h n e = some-ne-none h (sym e)
none_there (x ∷ xs) i h n e = absurd (omega arith)

pub gather-requires-clause-grant : goal.gather-requires-clause-grant
gather-requires-clause-grant g c =
    let last = at_last c.pop.new.self.items c.in-Some.grant (length c.pop.new.self.items) refl in
    c.loop-grant.invariant.rest (length c.pop.new.self.items) c.in-Some.grant (ap (λ (l : List GrantId). get_elem? l (length c.pop.new.self.items)) c.in-Some.ensures.items ∙ last)

pub loop-grant-preserved : goal.loop-grant-preserved
loop-grant-preserved g c =
    let longer : length c.loop-grant.out.items ≡ length c.pop.new.self.items + 1 = ap (λ (l : List GrantId). length l) c.in-Some.ensures.items ∙ length-append c.pop.new.self.items (c.in-Some.grant ∷ []) in
    record {
      ours = c.gather.ensures.ours;
      same = (omega (arith, c.gather.ensures.same.0, c.loop-grant.invariant.same.0, longer), c.gather.ensures.same.1 ∙ c.loop-grant.invariant.same.1);
      rest = λ i h e. c.loop-grant.invariant.rest i h (ap (λ (l : List GrantId). get_elem? l i) c.in-Some.ensures.items ∙ at_longer c.pop.new.self.items (c.in-Some.grant ∷ []) i h e);
      done = λ i h e. ⊎_elim
          (λ there. ⊎_elim (λ l. inl l) (λ same. inr (subst (λ (x : GrantId). HasClaimOf c.gather.new.seat.me.0 x) same c.gather.ensures.claim))
          (at_snoc c.pop.new.self.items c.in-Some.grant h i (sym (ap (λ (l : List GrantId). get_elem? l i) c.in-Some.ensures.items) ∙ there)))
          (λ t. inr (c.gather.ensures.more _ t.0, t.1))
          (c.loop-grant.invariant.done i h e);
    }

pub returns-clause-claims : goal.returns-clause-claims
returns-clause-claims g c =
    λ i h e. ⊎_elim (λ there. absurd (none_there c.loop-grant.out.items i h (omega (arith, c.in_default.ensures.cases, c.loop-grant.out.ok.0)) there)) (λ t. t) (c.loop-grant.invariant.done i h e)
