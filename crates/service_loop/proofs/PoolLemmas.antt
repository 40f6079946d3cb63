-- pools of a server, each at its place
use Rattle.std.proofs.Common.{ℕ, zero, suc, Bool, List, [], ◌∷◌, Option, set, get_or, refl, subst, ◌∙◌}
use Rattle.model_asked.specs.Replies.{ShownReply}
use Rattle.model_asked.specs.Requests.{Request}
use Rattle.model_pool.specs.slots.SlotsState.{SlotsState}
use Rattle.service_loop.specs.Attendance.{WasAttended}
use Rattle.service_loop.specs.Sendings.{hosted}
use Rattle.service_loop.specs.Pools.{EachTo, IsSamePool, AreSamePools, PoolWasAttended, PoolsWereAttended}
use Rattle.service_loop.specs.declared.pools.HostedPool.{HostedPool}
use Rattle.service_loop.proofs.AttendanceLemmas.{attended_more, attended_none}

module _ {A : Type 0} (R : A → A → Type 0) where
  -- each is in a relation to itself
  pub each_same : ((x : A) → R x x) → (xs : List A) → EachTo R xs xs
  each_same same [] = tt
  each_same same (x ∷ xs) = (same x, each_same same xs)

  -- one of them is changed
  pub each_set : ((x : A) → R x x) → (xs : List A) (at : ℕ) (d y : A) → R (get_or xs at d) y → EachTo R xs (set xs at y)
  each_set same [] at d y h = tt
  each_set same (x ∷ xs) zero d y h = (h, each_same same xs)
  each_set same (x ∷ xs) (suc at) d y h = (same x, each_set same xs at d y h)

  -- and then each again
  pub each_then : ((x y z : A) → R x y → R y z → R x z) → (xs ys zs : List A) → EachTo R xs ys → EachTo R ys zs → EachTo R xs zs
  each_then then [] [] [] h g = tt
  each_then then [] [] (z ∷ zs) h g = g
  each_then then [] (y ∷ ys) zs h g = absurd h
  each_then then (x ∷ xs) [] zs h g = absurd h
  each_then then (x ∷ xs) (y ∷ ys) [] h g = g
  each_then then (x ∷ xs) (y ∷ ys) (z ∷ zs) h g = (then x y z h.0 g.0, each_then then xs ys zs h.1 g.1)

-- one relation holds where another does
pub each_so : {A : Type 0} (R S : A → A → Type 0) → ((x y : A) → R x y → S x y) → (xs ys : List A) → EachTo R xs ys → EachTo S xs ys
each_so R S so [] [] h = tt
each_so R S so [] (y ∷ ys) h = h
each_so R S so (x ∷ xs) [] h = h
each_so R S so (x ∷ xs) (y ∷ ys) h = (so x y h.0, each_so R S so xs ys h.1)

module _ {D K L : Type 0} where
  same_pool : (p : HostedPool D K L) → IsSamePool p p
  same_pool p = record { name = refl; manner = refl; grace = refl; persister = refl; service = refl }

  same_then : (p q r : HostedPool D K L) → IsSamePool p q → IsSamePool q r → IsSamePool p r
  same_then p q r h g = record {
    name = g.name ∙ h.name;
    manner = g.manner ∙ h.manner;
    grace = g.grace ∙ h.grace;
    persister = g.persister ∙ h.persister;
    service = g.service ∙ h.service;
  }

  -- nothing is done to any
  pub pools_same : (ps : List (HostedPool D K L)) → AreSamePools ps ps
  pools_same ps = each_same IsSamePool same_pool ps

  -- nothing is done to one, at its place
  pub pools_same_set : (ps : List (HostedPool D K L)) (at : ℕ) (d q : HostedPool D K L) → IsSamePool (get_or ps at d) q → AreSamePools ps (set ps at q)
  pools_same_set ps at d q h = each_set IsSamePool same_pool ps at d q h

  -- nor after that
  pub pools_same_then : (ps qs rs : List (HostedPool D K L)) → AreSamePools ps qs → AreSamePools qs rs → AreSamePools ps rs
  pools_same_then ps qs rs h g = each_then IsSamePool same_then ps qs rs h g

module _ {D K L : Type 0} (may : D → Request → ShownReply → D → Type 0) (prefetches : K → D → List ℕ → K → D → Type 0) (persists waits : K → D → K → D → Type 0) (shares : K → Bool) (holds : K → D → SlotsState ℕ) where
  -- a pool to which nothing was done was attended
  pub same_attended : (p q : HostedPool D K L) → IsSamePool p q → PoolWasAttended may prefetches persists waits shares holds p q
  same_attended p q s = record {
    name = s.name;
    manner = s.manner;
    grace = s.grace;
    attended = rw (s.persister, s.service) (attended_none hosted p.manner may prefetches persists waits shares holds p.grace p.persister p.service);
  }

  attended_same : (p : HostedPool D K L) → PoolWasAttended may prefetches persists waits shares holds p p
  attended_same p = same_attended p p (same_pool p)

  attended_twice : (p q r : HostedPool D K L) → PoolWasAttended may prefetches persists waits shares holds p q → PoolWasAttended may prefetches persists waits shares holds q r → PoolWasAttended may prefetches persists waits shares holds p r
  attended_twice p q r h g = record {
    name = g.name ∙ h.name;
    manner = g.manner ∙ h.manner;
    grace = g.grace ∙ h.grace;
    attended = attended_more hosted p.manner may prefetches persists waits shares holds p.grace q.manner h.manner p.persister q.persister r.persister p.service q.service r.service
        h.attended (subst (λ (o : Option ℕ). WasAttended hosted q.manner may prefetches persists waits shares holds o q.persister q.service r.persister r.service) h.grace g.attended);
  }

  -- nothing is done to any
  pub pools_attended_none : (ps : List (HostedPool D K L)) → PoolsWereAttended may prefetches persists waits shares holds ps ps
  pools_attended_none ps = each_same (PoolWasAttended may prefetches persists waits shares holds) attended_same ps

  pub pools_attended_same : (ps qs : List (HostedPool D K L)) → AreSamePools ps qs → PoolsWereAttended may prefetches persists waits shares holds ps qs
  pools_attended_same ps qs h = each_so IsSamePool (PoolWasAttended may prefetches persists waits shares holds) same_attended ps qs h

  -- one is attended, at its place
  pub pools_attended_set : (ps : List (HostedPool D K L)) (at : ℕ) (d q : HostedPool D K L) → PoolWasAttended may prefetches persists waits shares holds (get_or ps at d) q → PoolsWereAttended may prefetches persists waits shares holds ps (set ps at q)
  pools_attended_set ps at d q h = each_set (PoolWasAttended may prefetches persists waits shares holds) attended_same ps at d q h

  -- they are attended one after another
  pub pools_attended_then : (ps qs rs : List (HostedPool D K L)) → PoolsWereAttended may prefetches persists waits shares holds ps qs → PoolsWereAttended may prefetches persists waits shares holds qs rs → PoolsWereAttended may prefetches persists waits shares holds ps rs
  pools_attended_then ps qs rs h g = each_then (PoolWasAttended may prefetches persists waits shares holds) attended_twice ps qs rs h g

  -- nothing is done to them, and then they are attended
  pub pools_same_attended : (ps qs rs : List (HostedPool D K L)) → AreSamePools ps qs → PoolsWereAttended may prefetches persists waits shares holds qs rs → PoolsWereAttended may prefetches persists waits shares holds ps rs
  pools_same_attended ps qs rs h g = pools_attended_then ps qs rs (pools_attended_same ps qs h) g

  -- they are attended, and then nothing is done to them
  pub pools_attended_before : (ps qs rs : List (HostedPool D K L)) → PoolsWereAttended may prefetches persists waits shares holds ps qs → AreSamePools qs rs → PoolsWereAttended may prefetches persists waits shares holds ps rs
  pools_attended_before ps qs rs h g = pools_attended_then ps qs rs h (pools_attended_same qs rs g)
