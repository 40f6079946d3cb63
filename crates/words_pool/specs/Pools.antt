-- pools and what is held of them, as callers see them
use Rattle.std.specs.Prelude.{◌≡◌, ◌<◌, ◌≤◌, ◌+◌, ◌-◌, ◌⊎◌, ◌==◌, ℕ, zero, suc, List, [], ◌∷◌, drop, slice_index, if◌then◌else◌}
use Rattle.atomic_table.specs.Seated.{TableId}
use Rattle.words_pool.specs.declared.pool_view.CallStage.TheVariants.{Holding}
use Rattle.words_pool.specs.declared.pool_view.Call.{Call}
use Rattle.words_pool.specs.declared.pool_view.PoolView.{PoolView}
use Rattle.words_pool.specs.PoolView.{lone, call_in, past_in, first_of, first_places, places_from}
use Rattle.words_pool.specs.PoolRule.{word_of}
use Rattle.words_pool.specs.Tally.{own, holding}

-- which pool it is, and how many numbers it has
pub record PoolId : Type 0 where
  pub table : TableId
  pub numbers : ℕ

-- a call of a pool: of which, how far it has come, whose seat makes it, and what that has ended before, the newest first
pub record CallId : Type 0 where
  pub pool : TableId
  pub number : ℕ
  pub call : Call
  pub seat : ℕ
  pub past : List Call

abbrev pub pool_of : TableId → ℕ → PoolId
pool_of table numbers = record { table = table; numbers = numbers }

-- the call that the view of a badge has
abbrev pub call_id : TableId → ℕ → ℕ → List PoolView → CallId
call_id pool seat number views = record { pool = pool; number = number; call = call_in views; seat = seat; past = past_in views }

-- the call that a seat has ended last
abbrev pub ended_id : TableId → ℕ → List Call → CallId
ended_id pool seat past = record { pool = pool; number = suc (first_of past).place; call = first_of past; seat = seat; past = drop 1 past }

-- the same number is held by the same call, in whichever seat
abbrev pub IsStill : CallId → CallId → Type 0
IsStill before after = (after.pool ≡ before.pool) × (after.number ≡ before.number) × (after.call ≡ before.call)

-- a ticket: of which line, which seat, and what that has ended, the newest first
pub record TicketId : Type 0 where
  pub pool : TableId
  pub seat : ℕ
  pub past : List Call

abbrev pub ticket_id : TableId → ℕ → List Call → TicketId
ticket_id pool seat past = record { pool = pool; seat = seat; past = past }

-- a call met each of so many numbers of the pool held, one after another, from 1 on
abbrev pub HasMetFirstHeld : PoolId → ℕ → CallId → Type 0
HasMetFirstHeld p count a = (a.pool ≡ p.table) × (a.call.met ≡ first_places count)

-- a call met each number of the pool held, one after another, from 1 on
abbrev pub HasMetAllHeld : PoolId → CallId → Type 0
HasMetAllHeld p a = HasMetFirstHeld p p.numbers a

-- a hint that is a number of this pool other than 1, from which each walk without a hint goes
abbrev pub IsHint : PoolId → ℕ → Type 0
IsHint p hint = (1 < hint) × (hint ≤ p.numbers)

abbrev pub IsNoHint : PoolId → ℕ → Type 0
IsNoHint p hint = (hint ≤ 1) ⊎ (p.numbers < hint)

-- a call got a number from the hint on: it met each number from the hint to it held, one after another
abbrev pub HasGoneOn : ℕ → CallId → Type 0
HasGoneOn hint h =
    (hint ≤ h.number) × (h.call.met_aside ≡ places_from (hint - 1) (h.number - hint)) × (h.call.accesses + hint ≤ h.number + 2)

-- a call met each number from the hint to the greatest held, one after another
abbrev pub HasMetAllAbove : PoolId → ℕ → CallId → Type 0
HasMetAllAbove p hint a = a.call.met_aside ≡ places_from (hint - 1) (p.numbers + 1 - hint)

-- a call got a number below the hint: it met each from the hint to the greatest held, and then each from 1 to it
pub record HasWrapped (p : PoolId) (hint : ℕ) (h : CallId) : Type 0 where
  pub before : h.number < hint
  pub above : HasMetAllAbove p hint h
  pub below : h.call.met ≡ first_places (h.number - 1)

-- a call met each number of the pool held, one after another, once: from the hint to the greatest, and then from 1 to the hint
pub record HasMetAllFrom (p : PoolId) (hint : ℕ) (a : CallId) : Type 0 where
  pub ours : a.pool ≡ p.table
  pub above : HasMetAllAbove p hint a
  pub below : a.call.met ≡ first_places (hint - 1)

-- the places below this whose words are not 0, the greatest first
abbrev pub set_places : List ℕ → ℕ → List ℕ
set_places words zero = []
set_places words (suc n) = if slice_index words n == 0 then set_places words n else n ∷ set_places words n

-- a call looked at each number of the pool once, and those that it met held are those whose words are not 0
abbrev pub HasLookedAtAll : PoolId → List ℕ → CallId → Type 0
HasLookedAtAll p words l = (l.pool ≡ p.table) × (l.call.met ≡ set_places words p.numbers) × (l.call.accesses ≡ p.numbers)

-- a table that has a word for each of so many numbers, and no slots, and knows how many they are
abbrev pub IsTableOf : ℕ → TableId → ℕ → Type 0
IsTableOf numbers table key = (table.words ≡ word_of numbers) × (key ≡ numbers) × (1 ≤ numbers) × (numbers ≤ 4096) × (table.slots ≡ 0)

-- this view, of a seat of this table, has the number that a call holds
abbrev pub HasNumberOf : TableId → PoolView → CallId → Type 0
HasNumberOf table v h = (1 ≤ own (holding (h.number - 1)) v) × (word_of (h.number - 1) < table.words)

-- the view of a badge is that of a seat whose call holds this place
pub record IsHeldAt (place : ℕ) (views : List PoolView) : Type 0 where
  pub views_are : views ≡ lone (call_in views) (past_in views) ∷ []
  pub stage_is : (call_in views).stage ≡ Holding
  pub place_is : (call_in views).place ≡ place
