use Rattle.std.proofs.Common.{◌≡◌, ◌≢◌, ◌-◌, ◌<◌, ◌∷◌, ℕ, Bool, false, true, inl, inr, suc, zero, length, length-set, drop, get_or, replicate, refl, ◌==◌, ap, sym, ◌∙◌, arith, drop-cons, slice_set, List}
use Rattle.model_renaming.proofs.Common.{eqb_tells, is_taken}
use Rattle.std.proofs.Math.Seq.{drop-length}
use Rattle.std.proofs.lemmas.List.{get_or-set_other}
use Rattle.std.proofs.lemmas.Grind.{get_or-set_at}
use Rattle.model_renaming.proofs.proposal.taken_numbers.Goals as goal

none_marked : (k n : ℕ) → get_or (replicate k false) n false ≡ false
none_marked zero n = refl
none_marked (suc k) zero = refl
none_marked (suc k) (suc n) = none_marked k n

-- one more pair, of another identity, takes its number
one_marked : (id : ℕ) (view : List (ℕ × ℕ)) (taken : List Bool) (x : ℕ × ℕ) → x.0 ≢ id → x.1 < length taken →
    (n : ℕ) → get_or taken n false ≡ is_taken id view n → get_or (slice_set taken x.1 true) n false ≡ is_taken id (x ∷ view) n
one_marked id view taken x other fits n e =
    let apart : (x.0 == id) ≡ false = (elim (eqb_tells x.0 id) [ inl same ↦ absurd (other same.1) | inr is ↦ is.0 ]) in
    elim (eqb_tells x.1 n) [
      | inl here ↦ rw (apart, here.0) (get_or-set_at taken x.1 n true false (sym here.1) fits)
      | inr away ↦ rw (apart, away.0) (get_or-set_other taken x.1 n true false (λ same. away.1 (sym same)) ∙ e)
    ]

pub loop-i-init : goal.loop-i-init
loop-i-init c = record {
  inside = omega arith;
  wide = refl;
  marked = λ n l. rw (drop-length c.args.pairs.now) (none_marked 129 n);
}

pub loop-i-preserved-then-number-lt129 : goal.loop-i-preserved-then-number-lt129
loop-i-preserved-then-number-lt129 c =
    let inside : c.loop-i.i - 1 < length c.args.pairs.now = (let w = c.loop-i.invariant.inside in let t = c.loop-i-test.true in omega arith) in
    let x : ℕ × ℕ = get_or c.args.pairs.now (c.loop-i.i - 1) (0, 0) in
    let next : suc (c.loop-i.i - 1) ≡ c.loop-i.i = (let t = c.loop-i-test.true in omega arith) in
    let cons : drop (c.loop-i.i - 1) c.args.pairs.now ≡ x ∷ drop c.loop-i.i c.args.pairs.now = drop-cons c.args.pairs.now (c.loop-i.i - 1) (0, 0) inside ∙ ap (λ (j : ℕ). x ∷ drop j c.args.pairs.now) next in
    let fits : x.1 < length c.loop-i.taken = rw c.loop-i.invariant.wide c.if-number-lt129.true in
    record {
      inside = omega arith;
      wide = length-set c.loop-i.taken x.1 true ∙ c.loop-i.invariant.wide;
      marked = λ n l. rw cons (one_marked c.args.id (drop c.loop-i.i c.args.pairs.now) c.loop-i.taken x c.if-other-id.true fits n (c.loop-i.invariant.marked n l));
    }
