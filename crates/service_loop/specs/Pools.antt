-- what a server does to several pools, each with a service, a persister and connections of its own
use Rattle.std.specs.Prelude.{◌≡◌, ℕ, Bool, List, [], ◌∷◌}
use Rattle.model_asked.specs.Replies.{ShownReply}
use Rattle.model_asked.specs.Requests.{Request}
use Rattle.model_pool.specs.slots.SlotsState.{SlotsState}
use Rattle.service_loop.specs.Attendance.{WasAttended}
use Rattle.service_loop.specs.Sendings.{hosted}
use Rattle.service_loop.specs.declared.pools.HostedPool.{HostedPool}

-- each of these is in this relation to the one at its place there, and there are as many
abbrev pub EachTo : {A : Type 0} → (A → A → Type 0) → List A → List A → Type 0
EachTo R [] [] = Unit {0}
EachTo R [] (y ∷ ys) = ⊥
EachTo R (x ∷ xs) [] = ⊥
EachTo R (x ∷ xs) (y ∷ ys) = R x y × EachTo R xs ys

-- a pool has the name, the world and the grace time that it had, and nothing was done to its service, its persister and the table of stays
pub record IsSamePool {D K L : Type 0} (p q : HostedPool D K L) : Type 0 where
  pub name : q.name ≡ p.name
  pub manner : q.manner ≡ p.manner
  pub grace : q.grace ≡ p.grace
  pub persister : q.persister ≡ p.persister
  pub service : q.service ≡ p.service

-- and so has each
abbrev pub AreSamePools : {D K L : Type 0} → List (HostedPool D K L) → List (HostedPool D K L) → Type 0
AreSamePools {D = D} {K = K} {L = L} ps qs = EachTo (IsSamePool {D = D} {K = K} {L = L}) ps qs

module _ {D K L : Type 0} (may : D → Request → ShownReply → D → Type 0) (prefetches : K → D → List ℕ → K → D → Type 0) (persists waits : K → D → K → D → Type 0) (shares : K → Bool) (holds : K → D → SlotsState ℕ) where
  -- A pool keeps its name, its world and its grace time, and nothing else was done to its service, its persister and the table of stays than a server
  -- of this pool alone does (`host`)
  pub record PoolWasAttended (p q : HostedPool D K L) : Type 0 where
    pub name : q.name ≡ p.name
    pub manner : q.manner ≡ p.manner
    pub grace : q.grace ≡ p.grace
    pub attended : WasAttended hosted p.manner may prefetches persists waits shares holds p.grace p.persister p.service q.persister q.service

  -- and so was each
  abbrev pub PoolsWereAttended : List (HostedPool D K L) → List (HostedPool D K L) → Type 0
  PoolsWereAttended ps qs = EachTo PoolWasAttended ps qs
