-- the specification of collects, over the calls of a tree's world with their replies alone. A collect shows of each
-- identity a value that was its last at some moment within the collect. It shows each that had stored before. That
-- steps are counted, and so bounded, is this project's profile
use Rattle.std.specs.Prelude.{◌≡◌, ℕ, ◌+◌, ◌-◌, ◌*◌, ◌<◌, ◌≤◌, Bool, true, false, List, Option, Some, None, IsSome, Ok}
use Rattle.model_steps.specs.Runs.{Run}
use Rattle.model_steps.specs.SetAt.{set_at}
use Rattle.model_steps.specs.View.{IsRising, value_of}
use Rattle.model_splitter.specs.tree.TreeCalls.{TreeCall}
use Rattle.model_splitter.specs.tree.TreeCalls.TreeCall.{Began, Stored, CollectBegan, CollectStepped}

-- the object. It has the number that have begun, and moments: maps from identity to the value stored last, with numbers
-- from 0 to the last. Of each identity it has whether it collects, since which moment, and with how many steps
pub record CollectObject : Type 0 where
  pub begun : ℕ
  pub last : ℕ
  pub moment : ℕ → ℕ → Option ℕ
  pub collects : ℕ → Bool
  pub since : ℕ → ℕ
  pub steps : ℕ → ℕ

-- no one has begun, and nothing is stored
abbrev pub new_object : CollectObject
new_object = record { begun = 0; last = 0; moment = λ i q. None; collects = λ p. false; since = λ p. 0; steps = λ p. 0 }

abbrev pub one_begun : CollectObject → CollectObject
one_begun o = record { begun = o.begun + 1; last = o.last; moment = o.moment; collects = o.collects; since = o.since; steps = o.steps }

-- a store makes a new moment, in which p has this value, and each other identity the value that it had
abbrev pub with_moment : CollectObject → ℕ → ℕ → CollectObject
with_moment o p value = record {
  begun = o.begun;
  last = o.last + 1;
  moment = set_at o.moment (o.last + 1) (set_at (o.moment o.last) p (Some value));
  collects = o.collects;
  since = o.since;
  steps = o.steps;
}

-- a collect begins at the last moment
abbrev pub collect_begun : CollectObject → ℕ → CollectObject
collect_begun o p = record { begun = o.begun; last = o.last; moment = o.moment; collects = set_at o.collects p true; since = set_at o.since p o.last; steps = set_at o.steps p 0 }

abbrev pub goes_on : Option (List (ℕ × ℕ)) → Bool
goes_on None = true
goes_on (Some view) = false

-- and ends with a view
abbrev pub collect_stepped : CollectObject → ℕ → Option (List (ℕ × ℕ)) → CollectObject
collect_stepped o p shown = record { begun = o.begun; last = o.last; moment = o.moment; collects = set_at o.collects p (goes_on shown); since = o.since; steps = set_at o.steps p (o.steps p + 1) }

-- the object after a call
abbrev pub observed : CollectObject → TreeCall → CollectObject
observed o (Began p (Ok done)) = one_begun o
observed o (Stored p value (Ok done)) = with_moment o p value
observed o (CollectBegan p (Ok done)) = collect_begun o p
observed o (CollectStepped p (Ok shown)) = collect_stepped o p shown
observed o t = o

-- a view of a collect since this moment, with one pair for each identity in it, in rising order. The value of a pair
-- was that identity's in some moment of the collect. Each identity that had stored when the collect began has a pair
pub record ShowsValues (o : CollectObject) (since : ℕ) (view : List (ℕ × ℕ)) : Type 0 where
  pub rising : IsRising view
  pub stored : (q value : ℕ) → value_of q view ≡ Some value → (i : ℕ) × (since ≤ i) × (i ≤ o.last) × (o.moment i q ≡ Some value)
  pub complete : (q : ℕ) → IsSome (o.moment since q) → IsSome (value_of q view)

-- the most steps of a collect where b have begun
abbrev pub most_steps : ℕ → ℕ
most_steps b = 6 * b - 2

-- the results that a step of a collect may show. If it shows no view, steps of the collect are left, so that it ends
abbrev pub AllowsStep : CollectObject → ℕ → Option (List (ℕ × ℕ)) → Type 0
AllowsStep o p None = o.steps p + 1 < most_steps o.begun
AllowsStep o p (Some view) = (o.steps p + 1 ≤ most_steps o.begun) × ShowsValues o (o.since p) view

-- a participant that collects neither stores nor begins another collect, and one that does not collect makes no step of
-- one
abbrev pub Allows : CollectObject → TreeCall → Type 0
Allows o (Stored p value (Ok done)) = o.collects p ≡ false
Allows o (CollectBegan p (Ok done)) = o.collects p ≡ false
Allows o (CollectStepped p (Ok shown)) = (o.collects p ≡ true) × AllowsStep o p shown
Allows o t = Unit {0}

-- these calls, with these replies, satisfy the specification of collects
abbrev pub CollectSpec : List TreeCall → Type 0
CollectSpec r = (o : CollectObject) × Run observed Allows new_object r o
