-- tokens rise
use Rattle.model_pool.specs.PoolState.{PoolStart}
use Rattle.std.proofs.Common.{◌≡◌, ℕ, zero, suc, ◌-◌, ◌≤◌, ◌<◌, ◌==◌, Bool, true, false, List, [], ◌∷◌, ◌++◌, Some, None, Ok, Err, Result, length, replicate, set, get_or, refl, sym, ap, subst, arith, cond, IfSome}
use Rattle.std.proofs.lemmas.Bool.{eqb-true, eqb-false}
use Rattle.model_pool.proofs.slots_lemmas.Common.{widen_answer}
use Rattle.model_pool.proofs.slots_lemmas.Common.{Refusal, SlotsState, Pooled, Stored, Fetched, Extended, stored_in, extended_in, number_answer, slots, slots_next}
use Rattle.model_steps.specs.Machine.{Reaches}
use Rattle.model_steps.specs.Runs.{Run}
use Rattle.model_pool.specs.slots.SlotCalls.{SlotCall}
use Rattle.model_pool.specs.slots.Machine.{IsSlotReply}
use Rattle.model_pool.specs.slots.Tokens.{value_of, is_number, with_token, tokens_of, RaisesByOne, Rise, TokensRise}
use Rattle.model_pool.proofs.cited.slots.SlotsKeep.{slots_proved, held_within}

-- a list, after another value was put into it
set_here : (xs : List ℕ) (i v : ℕ) → i < length xs → get_or (set xs i v) i 0 ≡ v
set_here [] i v h = absurd (omega arith)
set_here (x ∷ xs) zero v h = refl
set_here (x ∷ xs) (suc i) v h = set_here xs i v (omega (arith, h))

set_elsewhere : (xs : List ℕ) (i j v : ℕ) → (j ≡ i → ⊥) → get_or (set xs i v) j 0 ≡ get_or xs j 0
set_elsewhere [] i j v n = refl
set_elsewhere (x ∷ xs) zero zero v n = absurd (n refl)
set_elsewhere (x ∷ xs) zero (suc j) v n = refl
set_elsewhere (x ∷ xs) (suc i) zero v n = refl
set_elsewhere (x ∷ xs) (suc i) (suc j) v n = set_elsewhere xs i j v (λ e. n (ap suc e))

-- or after more were appended
not_less : (xs ys : List ℕ) (i : ℕ) → get_or xs i 0 ≤ get_or (xs ++ ys) i 0
not_less [] ys i = omega arith
not_less (x ∷ xs) ys zero = omega arith
not_less (x ∷ xs) ys (suc i) = not_less xs ys i

extended_not_less : (reply : Result (Unit {0}) Refusal) (more value : ℕ) (xs : List ℕ) (i : ℕ) → get_or xs i 0 ≤ get_or (extended_in reply more value xs) i 0
extended_not_less (Ok done) more value xs i = not_less xs (replicate (more - length xs) value) i
extended_not_less (Err refusal) more value xs i = omega arith

rise_from_lower : (low mid : ℕ) (tokens : List ℕ) (high : ℕ) → low ≤ mid → Rise mid tokens high → Rise low tokens high
rise_from_lower low mid [] high h r = omega (arith, h, r)
rise_from_lower low mid (token ∷ tokens) high h r = (omega (arith, h, r.0), r.1)

-- the slot after a holder of some number, or nobody, has put a value
token_rises : (n : ℕ) (held : Result ℕ Refusal) (value : ℕ) (xs tokens : List ℕ) (high : ℕ) → 1 ≤ n → ((m : ℕ) → held ≡ Ok m → (1 ≤ m) × (m ≤ length xs)) →
    IfSome (cond (is_number n held) (Some value) None) (λ t. t ≡ suc (get_or xs (n - 1) 0)) → Rise (get_or (stored_in held value xs) (n - 1) 0) tokens high →
    Rise (get_or xs (n - 1) 0) (with_token (cond (is_number n held) (Some value) None) tokens) high
token_rises n (Err refusal) value xs tokens high low within one on = on
token_rises n (Ok m) value xs tokens high low within one on =
    let w = within m refl in
    elim (m == n) as (λ (b : Bool). (m == n) ≡ b → IfSome (cond b (Some value) None) (λ t. t ≡ suc (get_or xs (n - 1) 0)) → Rise (get_or xs (n - 1) 0) (with_token (cond b (Some value) None) tokens) high) [
      | true ↦ λ e one.
          let same : m ≡ n = eqb-true m n e in
          let there : get_or (set xs (m - 1) value) (n - 1) 0 ≡ value =
          subst (λ (k : ℕ). get_or (set xs (m - 1) value) (k - 1) 0 ≡ value) same (set_here xs (m - 1) value (omega (arith, w.0, w.1))) in
          (omega (arith, one), subst (λ (v : ℕ). Rise v tokens high) there on)
      | false ↦ λ e one.
          let apart : n - 1 ≡ m - 1 → ⊥ = λ k. eqb-false m n e (omega (arith, w.0, low, k)) in
          subst (λ (v : ℕ). Rise v tokens high) (set_elsewhere xs (m - 1) (n - 1) value apart) on
    ] refl one

module _ (start : PoolStart × List ℕ) (n : ℕ) (low : 1 ≤ n) where
  after_call : (s : SlotsState ℕ) (p : List (SlotCall ℕ)) (h : SlotCall ℕ) → IsSlotReply s h → Reaches slots start s p → Reaches slots start (slots_next s h) (p ++ h ∷ [])
  after_call s p h is a = slots_proved.call s (slots_next s h) h refl is start p a

  rises : (s w : SlotsState ℕ) (p r : List (SlotCall ℕ)) → Reaches slots start s p → Run slots_next IsSlotReply s r w → RaisesByOne n s r → Rise (value_of n s) (tokens_of n s r) (value_of n w)
  rises s w p [] a run up = subst (λ (x : SlotsState ℕ). value_of n s ≤ value_of n x) (sym run) (omega arith)
  rises s w p (Pooled h ∷ r) a run up = rises (slots_next s (Pooled h)) w (p ++ Pooled h ∷ []) r (after_call s p (Pooled h) run.0 a) run.1 up.1
  rises s w p (Fetched id reply ∷ r) a run up = rises s w (p ++ Fetched id reply ∷ []) r (after_call s p (Fetched id reply) run.0 a) run.1 up.1
  rises s w p (Extended more value reply ∷ r) a run up =
      let h : SlotCall ℕ = Extended more value reply in
      rise_from_lower (value_of n s) (value_of n (slots_next s h)) (tokens_of n (slots_next s h) r) (value_of n w) (extended_not_less (widen_answer s.pool more) more value s.values (n - 1))
      (rises (slots_next s h) w (p ++ h ∷ []) r (after_call s p h run.0 a) run.1 up.1)
  rises s w p (Stored id value reply ∷ r) a run up =
      let h : SlotCall ℕ = Stored id value reply in
      token_rises n (number_answer s.pool id) value s.values (tokens_of n (slots_next s h) r) (value_of n w) low (λ m holds. held_within s id m holds start p a) up.0
      (rises (slots_next s h) w (p ++ h ∷ []) r (after_call s p h run.0 a) run.1 up.1)

-- the law
pub tokens_rise : TokensRise
tokens_rise s n low first r a up = rises first n low (slots.first first) s [] r (slots_proved.fresh first a.started) a.run up
