-- those who wait for numbers are called in their order
use Rattle.std.proofs.Common.{◌≡◌, ◌∙◌, ◌⊎◌, ◌<◌, ◌+◌, inl, inr, ℕ, zero, suc, ◌==◌, min, ltb, Bool, true, false, ◌||◌, if◌then◌else◌, arith, List, [], ◌∷◌, ◌++◌, length, take, drop, get_or, Option, None, Some, refl, ap, sym}
use Rattle.std.proofs.lemmas.Bool.Decides.{nat_tests}
use Rattle.std.proofs.lemmas.List.Elements.{filter-append}
use Rattle.std.proofs.lemmas.List.{map-append, take-append-drop, take_more}
use Rattle.model_pool.specs.slots.SlotsState.{SlotsState}
use Rattle.service_loop.proofs.Common.{eq-eqb}
use Rattle.service_loop.specs.Attending.{number_at}
use Rattle.service_loop.specs.declared.take_line.TakeLine.{TakeLine}
use Rattle.service_loop.specs.TakeQueue.{AllWaitOn, AreFirst, IsInTurn, asking_of, asks_at_once, called_of, is_patient, seats_of_all, waits_on, wish_of}
use Rattle.service_loop.specs.declared.connection.Connection.{Connection}
use Rattle.service_loop.specs.declared.take_queue.TheConstants.{MOST_CALLED}
use Rattle.service_loop.specs.declared.take_queue.Waiter.{Waiter}

-- the first of them are
first_called : (n : ℕ) (waiters : List Waiter) → AreFirst (seats_of_all (take n waiters)) waiters
first_called n waiters = (drop n waiters, sym (map-append (λ w. w.key) (take n waiters) (drop n waiters)) ∙ ap seats_of_all (take-append-drop n waiters))

called_are_first : (room tick : ℕ) (waiters : List Waiter) (asking : List ℕ) → is_patient room waiters ≡ true → AreFirst (called_of room tick waiters asking) waiters
called_are_first room tick waiters asking on = rw on (first_called (min room MOST_CALLED) waiters)

none_waits : (room : ℕ) (waiters : List Waiter) → is_patient room waiters ≡ false → (room ≡ 0) ⊎ (waiters ≡ [])
none_waits room [] off = inr refl
none_waits zero (w ∷ ws) off = inl refl
none_waits (suc n) (w ∷ ws) off = absurd (let on : ltb 0 (suc n) ≡ true = grind (arith, nat_tests) in let never : true ≡ false = sym on ∙ off in cc)

pub is_in_turn : IsInTurn
is_in_turn room tick waiters asking = (called_are_first room tick waiters asking, none_waits room waiters)

-- whoever does not ask at once waits for a second at least
waits_a_second : (seconds : ℕ) (more : Bool) → ((seconds == 0) || more) ≡ false → ltb 0 seconds ≡ true
waits_a_second zero more says = absurd cc
waits_a_second (suc n) more says = grind (arith, nat_tests)

module _ {S A : Type 0} (seats : List (Option (Connection S A))) where
  -- those who wait and those who join them
  pub all_wait_on : (numbers : List ℕ) (some more : List Waiter) → AllWaitOn numbers seats some → AllWaitOn numbers seats more → AllWaitOn numbers seats (some ++ more)
  all_wait_on numbers some more one other = filter-append (waits_on numbers seats) some more ∙ rw (one, other) refl

  -- one seat more is looked at
  pub asking_more : (state : SlotsState ℕ) (keys : List ℕ) (n key : ℕ) (before now : List ℕ) → n < length keys → key ≡ get_or keys n 0 → before ≡ asking_of state seats (take n keys) → now ≡ before ++ asking_of state seats (key ∷ []) →
      now ≡ asking_of state seats (take (n + 1) keys)
  asking_more state keys n key before now below is was more =
      more ∙ rw (was, is) (sym (filter-append (λ k. asks_at_once state (wish_of (get_or seats k None))) (take n keys) (get_or keys n 0 ∷ []))) ∙ sym (ap (asking_of state seats) (take_more keys n 0 below))

  -- the line of one seat asks at once, or does not
  pub asks_so : (state : SlotsState ℕ) (key : ℕ) (wish : Option TakeLine) (so : Bool) → wish_of (get_or seats key None) ≡ wish → asks_at_once state wish ≡ so → asking_of state seats (key ∷ []) ≡ (if so then key ∷ [] else [])
  asks_so state key wish so is says = rw (is, says) refl

  -- one joins whose line does not ask at once
  pub one_waits_on : (state : SlotsState ℕ) (numbers : List ℕ) (w : Waiter) (line : TakeLine) → wish_of (get_or seats w.key None) ≡ Some line → asks_at_once state (Some line) ≡ false →
      w.number ≡ number_at numbers w.key → w.identity ≡ line.identity → AllWaitOn numbers seats (w ∷ [])
  one_waits_on state numbers w line is says number identity =
      let same : (number_at numbers w.key == w.number) ≡ true = eq-eqb (number_at numbers w.key) w.number (sym number) in
      let own : (line.identity == w.identity) ≡ true = eq-eqb line.identity w.identity (sym identity) in
      let waits = waits_a_second line.seconds _ says in
      rw (same, is, own, waits) refl
