-- each step of a pool keeps its rule
use Rattle.std.proofs.Common.{◌≡◌, ◌≢◌, ℕ, zero, suc, ◌+◌, ◌*◌, ◌<◌, ◌≤◌, eq-eqb, ne_eqb, subst, sym, refl, ap, ◌∙◌, arith, List, [], ◌∷◌, ◌++◌, drop, length, set, slice_set, slice_index, replicate}
use Rattle.words_pool.proofs.Common.{set_again, AtRest, Seeking, Holding, Call, PoolView, own, tally, one_if, holding, KeepsSteps}
use Rattle.std.proofs.lemmas.List.{set-get_or, length-set, get_or-set_same, get_or-set_other, length-replicate}
use mathlib.Core.Option.{Option, some, none}
use mathlib.Core.Logic.{dite}
use native.Mathlib.Decide.{ℕ_discrete}
use lib.ListN.{get_elem?}
use Rattle.atomic_table.specs.Table.{State, Step, step, Allows, Enters, Arrives, Joins, Splits, keeps}
use Rattle.words_pool.specs.PoolView.{at_rest, coming, sighting, passing, passing_aside, going, looked, looked_aside, swapped, swapped_hint, lone, resting, view_of, no_call, united, read_at, call_of, first_of}
use Rattle.words_pool.specs.PoolRule.{KeepsPool, KeepsPoolRule, IsHolder}
use Rattle.words_pool.specs.PoolSteps.{Comes, ComesBySwap, Looks, Takes, LooksAside, TakesAside, Frees, LooksOn, ReadsFirst, ReadsOn, IsWordFor, IsUnderRule}
use Rattle.words_pool.proofs.Tallies.{tally_set, tally_snoc, tally_has, tally_two, tally_finds, sum_both}

-- what a call holds of each place, by its stage
pub seeks_none : (q : ℕ) (c : Call) → c.stage ≡ Seeking → holding q c ≡ 0
seeks_none q c e = rw e refl

pub rests_none : (q : ℕ) (c : Call) → c.stage ≡ AtRest → holding q c ≡ 0
rests_none q c e = rw e refl

pub holds_it : (q : ℕ) (c : Call) → c.stage ≡ Holding → c.place ≡ q → holding q c ≡ 1
holds_it q c e p = rw e (ap one_if (eq-eqb c.place q p))

pub holds_other : (q : ℕ) (c : Call) → c.stage ≡ Holding → q ≢ c.place → holding q c ≡ 0
holds_other q c e ne = rw e (ap one_if (ne_eqb c.place q (λ p. ne (sym p))))

module _ (count : ℕ) (words : List ℕ) (views : List PoolView) (kept : KeepsPool count words views) where
  -- a word is 0 or 1
  pub at_most_one : (p : ℕ) → p < count → slice_index words (p * 8) ≤ 1
  at_most_one p h = let a = kept.held p h in let b = kept.lone p in omega arith

  -- one word changes, and what seats hold of its place with it
  change_kept : (vs : List PoolView) (p x : ℕ) → p < count → x ≤ 1 → x ≡ tally (holding p) vs
      → ((q : ℕ) → q ≢ p → tally (holding q) vs ≡ tally (holding q) views)
      → KeepsPool count (set words (p * 8) x) vs
  change_kept vs p x h few mine others = record {
    as_many = length-set words (p * 8) x ∙ kept.as_many;
    held = λ q lt. dite (ℕ_discrete q p)
        (λ e. subst (λ (k : ℕ). slice_index (set words (p * 8) x) (k * 8) ≡ tally (holding k) vs) (sym e) (get_or-set_same words (p * 8) x 0 (omega (arith, kept.as_many)) ∙ mine))
        (λ ne. get_or-set_other words (p * 8) (q * 8) x 0 (omega arith) ∙ kept.held q lt ∙ sym (others q ne));
    lone = λ q. dite (ℕ_discrete q p)
        (λ e. subst (λ (k : ℕ). tally (holding k) vs ≤ 1) (sym e) (omega arith))
        (λ ne. let a = others q ne in let b = kept.lone q in omega arith);
  }

  -- one word and one view change together
  pub step_kept : (seat p x : ℕ) (u v : PoolView) → get_elem? views seat ≡ some u → p < count → x ≤ 1
      → x + own (holding p) u ≡ slice_index words (p * 8) + own (holding p) v
      → ((q : ℕ) → q ≢ p → own (holding q) v ≡ own (holding q) u)
      → KeepsPool count (set words (p * 8) x) (set views seat v)
  step_kept seat p x u v there h few mine others = change_kept (set views seat v) p x h few
      (let b = tally_set (holding p) views seat u v there in let c = kept.held p h in omega arith)
      (λ q ne. let b = tally_set (holding q) views seat u v there in let d = others q ne in omega arith)

  -- a seat's view changes, and what it holds does not
  pub still_kept : (seat : ℕ) (u v : PoolView) → get_elem? views seat ≡ some u → ((q : ℕ) → own (holding q) v ≡ own (holding q) u) → KeepsPool count words (set views seat v)
  still_kept seat u v there same = record {
    as_many = kept.as_many;
    held = λ q lt. let b = tally_set (holding q) views seat u v there in let d = same q in let c = kept.held q lt in let g : tally (holding q) (set views seat v) ≡ slice_index words (q * 8) = omega arith in sym g;
    lone = λ q. let b = tally_set (holding q) views seat u v there in let d = same q in let c = kept.lone q in omega arith;
  }

  -- a new seat comes, which holds nothing
  pub arrive_kept : (v : PoolView) → ((q : ℕ) → own (holding q) v ≡ 0) → KeepsPool count words (views ++ v ∷ [])
  arrive_kept v none_held = record {
    as_many = kept.as_many;
    held = λ q lt. let b = tally_snoc (holding q) views v in let d = none_held q in let c = kept.held q lt in let g : tally (holding q) (views ++ v ∷ []) ≡ slice_index words (q * 8) = omega arith in sym g;
    lone = λ q. let b = tally_snoc (holding q) views v in let d = none_held q in let c = kept.lone q in omega arith;
  }

  -- a word that is not 0 has a holder
  pub holder_of : (p : ℕ) → p < count → slice_index words (p * 8) ≢ 0 → (seat : ℕ) × IsHolder views p seat
  holder_of p h set = let a = kept.held p h in let t = tally_finds (holding p) views (omega arith) in (t.0, record { view = t.1; there = t.2; holds = t.3 })

  pub set_by_holder : (p seat : ℕ) → p < count → IsHolder views p seat → slice_index words (p * 8) ≡ 1
  set_by_holder p seat h has = let a = kept.held p h in let b = kept.lone p in let c = tally_has (holding p) views seat has.view has.there in let d = has.holds in omega arith

  pub one_holder : (p one other : ℕ) → IsHolder views p one → IsHolder views p other → one ≡ other
  one_holder p one other has others = dite (ℕ_discrete one other) (λ e. e)
      (λ ne. let a = kept.lone p in let b = tally_two (holding p) views one other has.view others.view ne has.there others.there in let c = has.holds in let d = others.holds in absurd (omega arith))

-- a last look changes nothing of what its call holds
read_holding : (q p found : ℕ) (c : Call) → holding q (read_at p found c) ≡ holding q c
read_holding q p found c = dite (ℕ_discrete found 0) (λ z. let a = eq-eqb found 0 z in rw a refl) (λ z. let a = ne_eqb found 0 z in rw a refl)

pub read_accesses : (p found : ℕ) (c : Call) → (read_at p found c).accesses ≡ suc c.accesses
read_accesses p found c = dite (ℕ_discrete found 0) (λ z. let a = eq-eqb found 0 z in rw a refl) (λ z. let a = ne_eqb found 0 z in rw a refl)

pub read_own : (q p found : ℕ) (cs past : List Call) → own (holding q) (view_of (read_at p found (first_of cs) ∷ drop 1 cs) past) ≡ own (holding q) (view_of cs past)
read_own q p found [] past = let a = read_holding q p found at_rest in omega arith
read_own q p found (c ∷ cs) past = let a = read_holding q p found c in omega arith

-- a load leaves the words as they are
pub reread : (words : List ℕ) (i : ℕ) → slice_set words i (slice_index words i) ≡ words
reread words i = set-get_or words i 0

-- what two seats hold together
pub united_own : (u w : PoolView) (f : Call → ℕ) → own f (united u w) ≡ own f u + own f w
united_own u w f = let a = sum_both f u.calls w.calls in let b = sum_both f u.past w.past in omega arith

-- two calls of one seat
module _ (c d : Call) (past others : List Call) where
  abbrev pub both : PoolView
  both = view_of (c ∷ d ∷ []) (past ++ others)

  pub apart_own : (f : Call → ℕ) → own f both ≡ own f (lone c (past ++ others)) + own f (lone d [])
  apart_own f = omega arith

  -- two that stand together are of two places
  pub are_apart : c.stage ≡ Holding → d.stage ≡ Holding → IsUnderRule both → c.place ≢ d.place
  are_apart is it t same =
      let a = tally_has (holding c.place) t.views t.seat both t.there in
      let b = t.kept.lone c.place in
      let x = holds_it c.place c is refl in
      let y = holds_it c.place d it (sym same) in
      absurd (omega arith)

module _ {S : Type 0} (count slots : ℕ) where
  pub may_come : Enters {S = S} {V = PoolView} (KeepsPoolRule count) slots 0 (λ n w. Comes {S = S} (step slots 0 0 0 none) (resting [], []) n (w, []))
  may_come s h _ _ =
      let found : ℕ = slice_index s.words 0 in
      let new : PoolView = lone (looked found (coming 1 at_rest)) [] in
      let kept : KeepsPool count s.words (s.views ++ new ∷ []) = dite (ℕ_discrete found 0)
      (λ z. let a = eq-eqb found 0 z in rw a (arrive_kept count s.words s.views h (lone (sighting (coming 1 at_rest)) []) (λ q. refl)))
      (λ z. let a = ne_eqb found 0 z in rw a (arrive_kept count s.words s.views h (lone (passing 0 (coming 1 at_rest)) []) (λ q. refl))) in
      (new, kept, (1, refl))

  pub may_come_by_swap : 0 < count → Arrives {S = S} {V = PoolView} (KeepsPoolRule count) slots 0 (λ _. 1) (ComesBySwap {S = S} (step slots 0 1 0 none) (resting [], []))
  may_come_by_swap some_number s h _ _ =
      let found : ℕ = slice_index s.words 0 in
      let new : Call = swapped 1 [] found (coming 1 at_rest) in
      let here : (q : ℕ) → tally (holding q) (s.views ++ lone new [] ∷ []) ≡ tally (holding q) s.views + holding q new = (λ q. let b = tally_snoc (holding q) s.views (lone new []) in omega arith) in
      let held = h.held 0 some_number in
      let most = h.lone 0 in
      let kept : KeepsPool count (set s.words 0 1) (s.views ++ lone new [] ∷ []) = dite (ℕ_discrete found 0)
      (λ z. let a = eq-eqb found 0 z in
      let x : holding 0 new ≡ 1 = rw a refl in
      change_kept count s.words s.views h (s.views ++ lone new [] ∷ []) 0 1 some_number (omega arith) (let b = here 0 in omega arith)
      (λ q ne. let b = here q in let y : holding q new ≡ 0 = holds_other q new (rw a refl) (λ same. ne (same ∙ rw a refl)) in omega arith))
      (λ z. let a = ne_eqb found 0 z in
      let none_held : (q : ℕ) → holding q new ≡ 0 = (λ q. rw a refl) in
      change_kept count s.words s.views h (s.views ++ lone new [] ∷ []) 0 1 some_number (omega arith) (let b = here 0 in let y = none_held 0 in omega arith)
      (λ q ne. let b = here q in let y = none_held q in omega arith)) in
      (lone new [], keeps, tt, kept, (1, 1, [], refl))

  pub may_look_aside : (p : ℕ) → Enters {S = S} {V = PoolView} (KeepsPoolRule count) slots (p * 8) (λ n w. LooksAside {S = S} (step slots (p * 8) 0 0 none) (resting [], []) n (w, []))
  may_look_aside p s h _ _ =
      let found : ℕ = slice_index s.words (p * 8) in
      let new : PoolView = lone (looked_aside p found at_rest) [] in
      let kept : KeepsPool count s.words (s.views ++ new ∷ []) = dite (ℕ_discrete found 0)
      (λ z. let a = eq-eqb found 0 z in rw a (arrive_kept count s.words s.views h (lone (sighting at_rest) []) (λ q. refl)))
      (λ z. let a = ne_eqb found 0 z in rw a (arrive_kept count s.words s.views h (lone (passing_aside 0 p at_rest) []) (λ q. refl))) in
      (new, kept, (p, refl, refl))

  module _ (seat : ℕ) (c : Call) (past : List Call) where
    -- a call that rests comes, by a look at the first place
    pub come_kept : (moment : ℕ) (s : State S PoolView) → c.stage ≡ AtRest → KeepsPoolRule count s → get_elem? s.views seat ≡ some (lone c past)
        → KeepsPool count (slice_set s.words 0 (slice_index s.words 0)) (set s.views seat (lone (looked (slice_index s.words 0) (coming moment c)) past))
    come_kept moment s is h e = rw (reread s.words 0) (dite (ℕ_discrete (slice_index s.words 0) 0)
        (λ z. let a = eq-eqb (slice_index s.words 0) 0 z in rw a (still_kept count s.words s.views h seat (lone c past) (lone (sighting (coming moment c)) past) e (λ q. let b = rests_none q c is in omega arith)))
        (λ z. let a = ne_eqb (slice_index s.words 0) 0 z in rw a (still_kept count s.words s.views h seat (lone c past) (lone (passing c.lost (coming moment c)) past) e (λ q. let b = rests_none q c is in omega arith))))

    pub may_come_back : (st : Step S) → c.stage ≡ AtRest → Allows {S = S} {V = PoolView} (KeepsPoolRule count) slots seat (lone c past, []) 0 (λ n. n) (Comes st (lone c past, []))
    may_come_back st is s h _ e _ = (lone (looked (slice_index s.words 0) (coming 1 c)) past, keeps, tt, come_kept 1 s is h e, (1, refl))

    -- a call looks at a place
    pub look_kept : (i : ℕ) (s : State S PoolView) → c.stage ≡ Seeking → KeepsPoolRule count s → get_elem? s.views seat ≡ some (lone c past)
        → KeepsPool count (slice_set s.words i (slice_index s.words i)) (set s.views seat (lone (looked (slice_index s.words i) c) past))
    look_kept i s is h e = rw (reread s.words i) (dite (ℕ_discrete (slice_index s.words i) 0)
        (λ z. let a = eq-eqb (slice_index s.words i) 0 z in rw a (still_kept count s.words s.views h seat (lone c past) (lone (sighting c) past) e (λ q. refl)))
        (λ z. let a = ne_eqb (slice_index s.words i) 0 z in rw a (still_kept count s.words s.views h seat (lone c past) (lone (passing c.lost c) past) e (λ q. let b = seeks_none q c is in omega arith))))

    pub may_look : (i : ℕ) (st : Step S) → c.stage ≡ Seeking → Allows {S = S} {V = PoolView} (KeepsPoolRule count) slots seat (lone c past, []) i (λ n. n) (Looks st (lone c past, []))
    may_look i st is s h _ e _ = (lone (looked (slice_index s.words i) c) past, keeps, tt, look_kept i s is h e, refl)

    -- a swap of 1 into the word of a place, by a call that holds nothing and then has this form
    swap_kept : (s : State S PoolView) → KeepsPoolRule count s → get_elem? s.views seat ≡ some (lone c past) → (p : ℕ) (d : Call) → p < count → ((q : ℕ) → holding q c ≡ 0)
        → (slice_index s.words (p * 8) ≡ 0 → (d.stage ≡ Holding) × (d.place ≡ p))
        → (slice_index s.words (p * 8) ≢ 0 → (q : ℕ) → holding q d ≡ 0)
        → KeepsPool count (set s.words (p * 8) 1) (set s.views seat (lone d past))
    swap_kept s h e p d within none_held taken missed = dite (ℕ_discrete (slice_index s.words (p * 8)) 0)
        (λ z. let t = taken z in let a = none_held p in let b = holds_it p d t.0 t.1 in step_kept count s.words s.views h seat p 1 (lone c past) (lone d past) e within (omega arith) (omega arith)
        (λ q ne. let x = none_held q in let y = holds_other q d t.0 (λ same. ne (same ∙ t.1)) in omega arith))
        (λ z. let m = at_most_one count s.words s.views h p within in let a = none_held p in let b = missed z p in step_kept count s.words s.views h seat p 1 (lone c past) (lone d past) e within (omega arith) (omega arith)
        (λ q ne. let x = none_held q in let y = missed z q in omega arith))

    -- a call swaps 1 into the word of its place
    pub take_kept : (moment : ℕ) (crowds : List ℕ) (p : ℕ) (s : State S PoolView) → p < count → c.stage ≡ Seeking → c.place ≡ p → KeepsPoolRule count s → get_elem? s.views seat ≡ some (lone c past)
        → KeepsPool count (set s.words (p * 8) 1) (set s.views seat (lone (swapped moment crowds (slice_index s.words (p * 8)) c) past))
    take_kept moment crowds p s within is here h e = swap_kept s h e p (swapped moment crowds (slice_index s.words (p * 8)) c) within (λ q. seeks_none q c is)
        (λ z. let a = eq-eqb (slice_index s.words (p * 8)) 0 z in rw a (refl, here))
        (λ z q. let a = ne_eqb (slice_index s.words (p * 8)) 0 z in rw a refl)

    pub may_take : (p : ℕ) (st : Step S) → p < count → c.stage ≡ Seeking → c.place ≡ p → Allows {S = S} {V = PoolView} (KeepsPoolRule count) slots seat (lone c past, []) (p * 8) (λ _. 1) (Takes st (lone c past, []))
    may_take p st within is here s h _ e _ = (lone (swapped 1 [] (slice_index s.words (p * 8)) c) past, keeps, tt, take_kept 1 [] p s within is here h e, (1, [], refl))

    -- a call that rests comes, by a swap of 1 into the word of the first place
    pub come_by_swap_kept : (came moment : ℕ) (crowds : List ℕ) (s : State S PoolView) → 0 < count → c.stage ≡ AtRest → KeepsPoolRule count s → get_elem? s.views seat ≡ some (lone c past)
        → KeepsPool count (set s.words 0 1) (set s.views seat (lone (swapped moment crowds (slice_index s.words 0) (coming came c)) past))
    come_by_swap_kept came moment crowds s some_number is h e = swap_kept s h e 0 (swapped moment crowds (slice_index s.words 0) (coming came c)) some_number (λ q. rests_none q c is)
        (λ z. let a = eq-eqb (slice_index s.words 0) 0 z in rw a (refl, refl))
        (λ z q. let a = ne_eqb (slice_index s.words 0) 0 z in rw a refl)

    pub may_come_back_by_swap : (st : Step S) → 0 < count → c.stage ≡ AtRest → Allows {S = S} {V = PoolView} (KeepsPoolRule count) slots seat (lone c past, []) 0 (λ _. 1) (ComesBySwap st (lone c past, []))
    may_come_back_by_swap st some_number is s h _ e _ = (lone (swapped 1 [] (slice_index s.words 0) (coming 1 c)) past, keeps, tt, come_by_swap_kept 1 1 [] s some_number is h e, (1, 1, [], refl))

    pub may_take_aside : (p n a b : ℕ) (o : Option S) → p < count → c.stage ≡ AtRest → Allows {S = S} {V = PoolView} (KeepsPoolRule count) slots seat (lone c past, []) (p * 8) (λ _. 1) (TakesAside (step n (p * 8) a b o) (lone c past, []))
    may_take_aside p n a b o within is s h _ e _ =
        let found : ℕ = slice_index s.words (p * 8) in
        let new : Call = swapped_hint p 1 found c in (
          lone new past,
          keeps,
          tt,
          swap_kept s h e p new within (λ q. rests_none q c is)
              (λ z. let a = eq-eqb found 0 z in rw a (refl, refl))
              (λ z q. let a = ne_eqb found 0 z in rw a (rests_none q c is)),
          (p, refl, 1, refl),
        )

    -- a call that rests looks at the place of a hint
    pub may_look_aside_again : (p n a b : ℕ) (o : Option S) → c.stage ≡ AtRest → Allows {S = S} {V = PoolView} (KeepsPoolRule count) slots seat (lone c past, []) (p * 8) (λ n. n) (LooksAside (step n (p * 8) a b o) (lone c past, []))
    may_look_aside_again p n a b o is s h _ e _ =
        let found : ℕ = slice_index s.words (p * 8) in
        let kept : KeepsPool count (slice_set s.words (p * 8) found) (set s.views seat (lone (looked_aside p found c) past)) = rw (reread s.words (p * 8)) (dite (ℕ_discrete found 0)
        (λ z. let x = eq-eqb found 0 z in rw x (still_kept count s.words s.views h seat (lone c past) (lone (sighting c) past) e (λ q. refl)))
        (λ z. let x = ne_eqb found 0 z in rw x (still_kept count s.words s.views h seat (lone c past) (lone (passing_aside c.lost p c) past) e (λ q. refl)))) in
        (lone (looked_aside p found c) past, keeps, tt, kept, (p, refl, refl))

    -- a call stores 0 into the word of its place
    pub free_kept : (moment p : ℕ) (s : State S PoolView) → p < count → c.stage ≡ Holding → c.place ≡ p → KeepsPoolRule count s → get_elem? s.views seat ≡ some (lone c past)
        → KeepsPool count (set s.words (p * 8) 0) (set s.views seat (lone at_rest (going moment c ∷ past)))
    free_kept moment p s within is here h e =
        let a = holds_it p c is here in
        let one = set_by_holder count s.words s.views h p seat within record { view = lone c past; there = e; holds = omega arith } in
        step_kept count s.words s.views h seat p 0 (lone c past) (lone at_rest (going moment c ∷ past)) e within (omega arith) (omega arith)
        (λ q ne. let b = holds_other q c is (λ same. ne (same ∙ here)) in omega arith)

    pub may_free : (p : ℕ) (st : Step S) → p < count → c.stage ≡ Holding → c.place ≡ p → Allows {S = S} {V = PoolView} (KeepsPoolRule count) slots seat (lone c past, []) (p * 8) (λ _. 0) (λ _. Frees st (lone c past, []) 0)
    may_free p st within is here s h _ e _ = (lone at_rest (going 1 c ∷ past), keeps, tt, free_kept 1 p s within is here h e, (1, refl))

  module _ (seat : ℕ) where
    pub may_look_on : (u : PoolView) (st : Step S) → length u.calls ≡ 2 → Allows {S = S} {V = PoolView} (KeepsPoolRule count) slots seat (u, []) 0 (λ f. f) (LooksOn st (u, []))
    may_look_on u st two s h _ e _ =
        let kept : KeepsPool count (slice_set s.words 0 (slice_index s.words 0)) (set s.views seat u) = rw (reread s.words 0, set_again s.views seat u e) h in
        (u, keeps, tt, kept, (refl, record { count = count; words = s.words; views = s.views; kept = h; seat = seat; there = e }, two))

    -- the last call of a pool looks at a place
    module _ (p i : ℕ) (u : PoolView) (st : Step S) (at : i ≡ p * 8) (word : st.word ≡ p * 8) (lt : p < count) where
      is_word : (s : State S PoolView) → KeepsPoolRule count s → get_elem? s.views seat ≡ some u → IsWordFor p u (slice_index s.words i)
      is_word s h e =
          let a = h.held p lt in
          let b = h.lone p in
          let c = tally_has (holding p) s.views seat u e in
          let d : slice_index s.words i ≡ slice_index s.words (p * 8) = ap (λ (k : ℕ). slice_index s.words k) at in
          (omega arith, λ has. omega arith)

      pub may_read_first : Allows {S = S} {V = PoolView} (KeepsPoolRule count) slots seat (u, []) i (λ n. n) (ReadsFirst st (u, []))
      may_read_first s h _ e _ =
          let v = view_of (read_at p (slice_index s.words i) at_rest ∷ u.calls) u.past in
          (v, keeps, tt, rw (reread s.words i) (still_kept count s.words s.views h seat u v e (λ q. let a = read_holding q p (slice_index s.words i) at_rest in omega arith)), (p, word, is_word s h e, refl))

      pub may_read_on : Allows {S = S} {V = PoolView} (KeepsPoolRule count) slots seat (u, []) i (λ n. n) (ReadsOn st (u, []))
      may_read_on s h _ e _ =
          let v = view_of (read_at p (slice_index s.words i) (call_of u) ∷ drop 1 u.calls) u.past in
          (v, keeps, tt, rw (reread s.words i) (still_kept count s.words s.views h seat u v e (λ q. read_own q p (slice_index s.words i) u.calls u.past)), (p, word, is_word s h e, refl))

    -- another seat's calls come to this one
    pub may_unite : (other : ℕ) (u w : PoolView) → Joins {S = S} {V = PoolView} (KeepsPoolRule count) seat u other w (united u w) no_call
    may_unite other u w s h e apart e' =
        let sums : (q : ℕ) → tally (holding q) (set (set s.views seat (united u w)) other no_call) ≡ tally (holding q) s.views =
        (λ q. let a = tally_set (holding q) s.views seat u (united u w) e in let b = tally_set (holding q) (set s.views seat (united u w)) other w no_call e' in let x = united_own u w (holding q) in omega arith) in
        record {
          as_many = h.as_many;
          held = λ q lt. h.held q lt ∙ sym (sums q);
          lone = λ q. let a = sums q in let b = h.lone q in omega arith;
        }

    module _ (c d : Call) (past others : List Call) where
      pub may_sever : Splits {S = S} {V = PoolView} (KeepsPoolRule count) seat (both c d past others) (lone c (past ++ others)) (lone d [])
      may_sever s h e =
          let sums : (q : ℕ) → tally (holding q) (set s.views seat (lone c (past ++ others)) ++ lone d [] ∷ []) ≡ tally (holding q) s.views =
          (λ q. let a = tally_set (holding q) s.views seat (both c d past others) (lone c (past ++ others)) e in let b = tally_snoc (holding q) (set s.views seat (lone c (past ++ others))) (lone d []) in let x = apart_own c d past others (holding q) in omega arith) in
          record {
            as_many = h.as_many;
            held = λ q lt. h.held q lt ∙ sym (sums q);
            lone = λ q. let a = sums q in let b = h.lone q in omega arith;
          }

-- the pool at the start
index_zeros : (n i : ℕ) → slice_index (replicate n 0) i ≡ 0
index_zeros zero i = refl
index_zeros (suc n) zero = refl
index_zeros (suc n) (suc i) = index_zeros n i

pub opens : (count : ℕ) (v : PoolView) → ((q : ℕ) → own (holding q) v ≡ 0) → KeepsPool count (replicate (count * 8) 0) (v ∷ [])
opens count v none_held = record {
  as_many = length-replicate (count * 8) 0;
  held = λ q lt. let a = none_held q in index_zeros (count * 8) (q * 8) ∙ (let g : tally (holding q) (v ∷ []) ≡ 0 = omega arith in sym g);
  lone = λ q. let a = none_held q in omega arith;
}

-- so the rule lets every pool do what it does
pub pool_steps : KeepsSteps KeepsPoolRule (λ count. resting [])
pool_steps = record {
  opens = λ count. opens count (resting []) (λ q. refl);
  looks = λ count slots seat place c past s lt is here. may_look count slots seat c past (place * 8) s is;
  frees = λ count slots seat place c past s lt is here. may_free count slots seat c past place s lt is here;
  unites = λ count seat other v w. may_unite count 0 seat other v w;
  looks_on = λ count slots seat v s two. may_look_on count slots seat v s two;
  severs = λ count seat c d past others. may_sever count 0 seat c d past others;
}
