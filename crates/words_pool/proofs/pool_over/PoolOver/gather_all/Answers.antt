use Rattle.std.proofs.Common.{◌≡◌, ◌<◌, ◌≤◌, ◌-◌, ⊎_elim, inl, inr, ℕ, List, ap, sym, subst, ◌∙◌, refl, arith, ◌∷◌, [], length}
use Rattle.words_pool.proofs.Common.{own, holding, word_of, CallId}
use mathlib.Core.Option.{some, some-ne-none}
use lib.ListN.{get_elem?}
use Rattle.atomic_table.proofs.Lists.{at_last, at_longer, at_snoc}
use Rattle.words_pool.proofs.pool_over.PoolOver.gather_all.Goals as goal

none_there : (l : List CallId) (i : ℕ) (h : CallId) → length l ≡ 0 → ¬ (get_elem? l i ≡ some h)
none_there [] i h n e = some-ne-none h (sym e)
none_there (x ∷ xs) i h n e = absurd (omega arith)

pub gather-requires-clause-held : goal.gather-requires-clause-held
gather-requires-clause-held g c =
    let last = at_last c.pop.new.self.items c.in-Some.held (length c.pop.new.self.items) refl in
    c.loop-held.invariant.rest (length c.pop.new.self.items) c.in-Some.held (ap (λ (l : List CallId). get_elem? l (length c.pop.new.self.items)) c.in-Some.ensures.items ∙ last)

pub loop-held-preserved : goal.loop-held-preserved
loop-held-preserved g c = record {
  ours = c.gather.ensures.ours;
  more = λ f. let a = c.gather.ensures.more f in let b = c.loop-held.invariant.more f in omega arith;
  rest = λ i h e. c.loop-held.invariant.rest i h (ap (λ (l : List CallId). get_elem? l i) c.in-Some.ensures.items ∙ at_longer c.pop.new.self.items (c.in-Some.held ∷ []) i h e);
  done = λ i h e. ⊎_elim
      (λ there. ⊎_elim (λ l. inl l) (λ same. inr (subst (λ (x : CallId). (1 ≤ own (holding (x.number - 1)) c.gather.new.seat.me.0) × (word_of (x.number - 1) < c.args.self.now.table.words)) same c.gather.ensures.held))
      (at_snoc c.pop.new.self.items c.in-Some.held h i (sym (ap (λ (l : List CallId). get_elem? l i) c.in-Some.ensures.items) ∙ there)))
      (λ t. let m = c.gather.ensures.more (holding (h.number - 1)) in let a = t.0 in inr (omega arith, t.1))
      (c.loop-held.invariant.done i h e);
}

pub returns-clause-held : goal.returns-clause-held
returns-clause-held g c =
    λ i h e. ⊎_elim (λ there. absurd (none_there c.loop-held.out.items i h (omega (arith, c.in_default.ensures.cases, c.loop-held.out.ok.0)) there)) (λ t. t) (c.loop-held.invariant.done i h e)
