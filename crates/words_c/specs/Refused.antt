-- what a call met, that got a number or none, and what one leaves that gave its number back
use Rattle.std.specs.Prelude.{◌≡◌, ◌≤◌, ◌+◌, ◌-◌, ℕ, true, false}
use Rattle.words_pool.specs.PoolView.{first_places}
use Rattle.words_pool.specs.Pools.{PoolId, CallId, HasGoneOn, HasMetAllFrom, HasMetAllHeld, HasWrapped, IsHint, IsNoHint}

-- it met each number of the pool held, one after another, by at most so many accesses: from the hint up, and then from 1 up to it
pub record MetAllInTime (hint : ℕ) (p : PoolId) (a : CallId) : Type 0 where
  pub few : a.call.accesses ≤ p.numbers + 1
  pub all : IsNoHint p hint → HasMetAllHeld p a
  pub all_from : IsHint p hint → HasMetAllFrom p hint a

-- it got the first number that it met free, from the hint up and then from 1 up to it, by at most so many accesses
pub record WasSought (hint : ℕ) (p : PoolId) (h : CallId) : Type 0 where
  pub few : h.call.accesses ≤ p.numbers + 1
  pub near : h.call.hinted ≡ true → HasGoneOn hint h
  pub wrapped : h.call.hinted ≡ false → IsHint p hint → HasWrapped p hint h
  pub below : h.call.hinted ≡ false → h.call.met ≡ first_places (h.number - 1)
  pub no_hint : IsNoHint p hint → (h.call.hinted ≡ false) × (h.call.accesses ≤ h.number + 1)

-- the receipt of a call whose number was given back, by one access more
abbrev pub IsReceiptOf : CallId → CallId → Type 0
IsReceiptOf h r = (r.pool ≡ h.pool) × (r.number ≡ h.number) × (r.call.accesses ≡ h.call.accesses + 1)
