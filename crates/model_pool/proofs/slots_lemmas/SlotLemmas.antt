-- slots, after another value was put into one, and after more were filled
use Rattle.std.proofs.Common.{◌≡◌, ◌≢◌, ℕ, zero, suc, ◌+◌, ◌-◌, ◌≤◌, ◌<◌, List, [], ◌∷◌, ◌++◌, Option, Some, None, length, replicate, set, refl, sym, ap, subst, ◌∙◌, arith, Result, Ok, Err, slice_get}
use Rattle.model_pool.proofs.slots_lemmas.Common.{Refusal, done_unless, number_answer, widen_answer, widen_refusal, SlotsState}
use Rattle.model_pool.proofs.cited.PoolKeeps.{may_widen}
use Rattle.model_pool.specs.slots.Slots.{slot, stored_in, after_put, ChangesOwnSlot, extended_in, after_extend, FillsNewSlots}

pub slice_get-set_same : {T : Type 0} (values : List T) (i : ℕ) (value : T) → i < length values → slice_get (set values i value) i ≡ Some value
slice_get-set_same [] i value h = absurd (omega arith)
slice_get-set_same (x ∷ xs) zero value h = refl
slice_get-set_same (x ∷ xs) (suc i) value h = slice_get-set_same xs i value (omega (arith, h))

pub slice_get-set_other : {T : Type 0} (values : List T) (i j : ℕ) (value : T) → j ≢ i → slice_get (set values i value) j ≡ slice_get values j
slice_get-set_other [] i j value n = refl
slice_get-set_other (x ∷ xs) zero zero value n = absurd (n refl)
slice_get-set_other (x ∷ xs) zero (suc j) value n = refl
slice_get-set_other (x ∷ xs) (suc i) zero value n = refl
slice_get-set_other (x ∷ xs) (suc i) (suc j) value n = slice_get-set_other xs i j value (λ e. n (ap suc e))

-- `put` changes one slot
pub changes_own : {T : Type 0} (s : SlotsState T) (id : ℕ) (value : T) → ((n : ℕ) → number_answer s.pool id ≡ Ok n → (1 ≤ n) × (n ≤ length s.values)) → ChangesOwnSlot id value s (after_put s id value)
changes_own {T} s id value within = record {
  own = λ n h. let w = within n h in rw h (slice_get-set_same s.values (n - 1) value (omega (arith, w.0, w.1)));
  others = λ n low other.
      elim (number_answer s.pool id) as (λ (k : Result ℕ Refusal). number_answer s.pool id ≡ k → slot n (stored_in k value s.values) ≡ slot n s.values) [
        | Err refusal ↦ λ h. refl
        | Ok m ↦ λ h.
            let w = within m h in
            let apart : n ≢ m = λ e. other (h ∙ ap (λ (i : ℕ). let r : Result ℕ Refusal = Ok i in r) (sym e)) in
            slice_get-set_other s.values (m - 1) (n - 1) value (λ e. apart (omega (arith, w.0, low, e)))
      ] refl;
  pool = refl;
}

-- what is done was not refused
not_refused : (o : Option Refusal) (done : Unit {0}) → Ok done ≡ done_unless o → o ≡ None
not_refused None done h = refl
not_refused (Some why) done h = absurd (cc)

-- a widening that is done makes the pool larger
pub wider : (most size more : ℕ) (done : Unit {0}) → Ok done ≡ done_unless (widen_refusal most size more) → size < more
wider most size more done h = (may_widen most size more (not_refused (widen_refusal most size more) done h)).0

slice_get-before : {T : Type 0} (xs ys : List T) (i : ℕ) → i < length xs → slice_get (xs ++ ys) i ≡ slice_get xs i
slice_get-before [] ys i h = absurd (omega arith)
slice_get-before (x ∷ xs) ys zero h = refl
slice_get-before (x ∷ xs) ys (suc i) h = slice_get-before xs ys i (omega (arith, h))

slice_get-copy : {T : Type 0} (n i : ℕ) (value : T) → i < n → slice_get (replicate n value) i ≡ Some value
slice_get-copy zero i value h = absurd (omega arith)
slice_get-copy (suc n) zero value h = refl
slice_get-copy (suc n) (suc i) value h = slice_get-copy n i value (omega (arith, h))

slice_get-filled : {T : Type 0} (xs : List T) (n i : ℕ) (value : T) → length xs ≤ i → i < length xs + n → slice_get (xs ++ replicate n value) i ≡ Some value
slice_get-filled [] n i value h k = slice_get-copy n i value (omega (arith, k))
slice_get-filled (x ∷ xs) n zero value h k = absurd (omega (arith, h))
slice_get-filled (x ∷ xs) n (suc i) value h k = slice_get-filled xs n i value (omega (arith, h)) (omega (arith, k))

kept_in : {T : Type 0} (reply : Result (Unit {0}) Refusal) (more : ℕ) (value : T) (values : List T) (i : ℕ) → i < length values → slice_get (extended_in reply more value values) i ≡ slice_get values i
kept_in (Ok done) more value values i h = slice_get-before values (replicate (more - length values) value) i h
kept_in (Err refusal) more value values i h = refl

-- `widen` fills the new slots alone
pub fills_new : {T : Type 0} (s : SlotsState T) (more : ℕ) (value : T) → length s.values ≡ s.pool.size → Ok tt ≡ widen_answer s.pool more → FillsNewSlots more value s (after_extend s more value)
fills_new {T} s more value many done = record {
  kept = λ n low high. kept_in (widen_answer s.pool more) more value s.values (n - 1) (omega (arith, low, high, many));
  filled = λ n low high.
      let above : s.pool.size < more = wider s.pool.most s.pool.size more tt done in
      let fresh : slice_get (s.values ++ replicate (more - length s.values) value) (n - 1) ≡ Some value = slice_get-filled s.values (more - length s.values) (n - 1) value (omega (arith, low, many)) (omega (arith, low, high, many, above)) in
      subst (λ (k : Result (Unit {0}) Refusal). slot n (extended_in k more value s.values) ≡ Some value) done fresh;
}
