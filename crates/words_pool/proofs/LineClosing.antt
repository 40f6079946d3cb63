-- the words of a line at its end
use Rattle.std.proofs.Common.{◌≡◌, ℕ, zero, suc, ◌+◌, ◌-◌, ◌*◌, ◌<◌, ◌≤◌, eqb, eq-eqb, ne_eqb, sym, refl, ap, ◌∙◌, arith, List, slice_index}
use Rattle.words_pool.proofs.Common.{Final, Seen, CallStage, Holding, PoolView, own, tally, holding, if_holding, one_if, sum_below, KeepsPoolRule, by_stage, from, rests, KeepsLine, KeepsLineRule}
use mathlib.Core.Logic.{dite}
use native.Mathlib.Decide.{ℕ_discrete}
use lib.ListN.{get_elem?}
use Rattle.words_pool.proofs.Tallies.{tally_has, tally_within, tally_below, below_same}
use Rattle.words_pool.proofs.Closing.{same_index}

none_below : (n : ℕ) → sum_below (λ p. 0) n ≡ 0
none_below zero = refl
none_below (suc n) = let a = none_below n in omega arith

one_below : (place n : ℕ) → sum_below (λ p. one_if (eqb place p)) n ≤ 1 - (suc place - n)
one_below place zero = omega arith
one_below place (suc n) = let s = one_below place n in
    dite (ℕ_discrete place n) (λ e. let a = eq-eqb place n e in let b = ap one_if a in omega arith) (λ ne. let a = ne_eqb place n ne in let b = ap one_if a in omega arith)

-- a call holds at most one place, and none while it rests
holds_below : (n : ℕ) (stage : CallStage) (place : ℕ) → sum_below (λ p. if_holding stage (one_if (eqb place p))) n + by_stage stage 1 0 ≤ by_stage stage (1 - 0) (1 - (0 - place))
holds_below n Holding place = let a = one_below place n in omega arith
holds_below n stage place = let a = none_below n in omega arith

-- no more are held than there are tickets that do not rest
pub few_held : (count n : ℕ) (words : List ℕ) (views : List PoolView) → KeepsLine count words views → sum_below (λ p. tally (holding p) views) n + tally rests views ≤ count
few_held count n words views kept =
    let a = tally_below holding n views in
    let b = tally_within (λ x. sum_below (λ p. holding p x) n) rests (from 0) (λ x. holds_below n x.stage x.place) views in
    let c = kept.line 0 in
    omega arith

-- what is known of a line is known of its pool
pub pool_at_end : (S : Type 0) (count seat : ℕ) (v : PoolView) (ws : List ℕ) (xs : List S) → Final (Seen (KeepsLineRule {S = S} count) seat v) ws xs → Final (Seen (KeepsPoolRule {S = S} count) seat v) ws xs
pool_at_end S count seat v ws xs f = (f.0, (f.1.0.pool, f.1.1), f.2, f.3, f.4)

pub few_at_end : (S : Type 0) (count seat : ℕ) (v : PoolView) (ws : List ℕ) (xs : List S) (out : List ℕ) → Final (Seen (KeepsLineRule {S = S} count) seat v) ws xs
    → ((p : ℕ) → p < count → get_elem? out p ≡ get_elem? ws (p * 8)) → sum_below (slice_index out) count + own rests v ≤ count
few_at_end S count seat v ws xs out f read =
    let a = below_same (slice_index out) (λ p. tally (holding p) f.0.views) count
    (λ p lt. same_index out ws p (p * 8) (read p lt) ∙ ap (λ (l : List ℕ). slice_index l (p * 8)) (sym f.2) ∙ f.1.0.pool.held p lt) in
    let b = few_held count count f.0.words f.0.views f.1.0 in
    let c = tally_has rests f.0.views seat v f.1.1 in
    omega arith
