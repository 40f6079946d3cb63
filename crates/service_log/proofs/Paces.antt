-- How far a replica gets by steps, of which each is passed by an entry or told why none was applied.
use Rattle.std.proofs.Common.{◌≡◌, ◌<◌, ◌≤◌, Bool, not, true, false, ℕ, ◌+◌, ◌-◌, ◌*◌, List, ◌⊎◌, inl, inr, refl, sym, subst, arith, Result, Ok}
use mathlib.Core.Bool.{false≢true}
use Rattle.service_log.specs.declared.replica.Step.{Step}
use Rattle.service_log.specs.declared.replica.Step.TheVariants.{Nothing, Answered, Passed}
use Rattle.service_log.specs.declared.serve_fault.Cause.{Cause}
use Rattle.service_log.specs.declared.store.TheConstants.{MOST_PLACES}
use Rattle.service_log.specs.Places.{Contradicts, IsTaken, Same}
use Rattle.service_log.specs.Replicas.{IsAnswered, OneMore}
use Rattle.service_log.specs.ReplicaState.{ReplicaState}

-- of so many steps from a place on at least a third applied an entry, but for two: an offer that finds its place taken, and a read that
-- finds nothing behind it
pub record Pace {M : Type 0} (stands : ℕ → List ℕ → Type 0) (from steps : ℕ) (r : ReplicaState M) : Type 0 where
  pub most : steps + 3 * from ≤ 3 * r.place + 2
  pub offers : r.behind ≡ false → steps + 3 * from ≤ 3 * r.place + 1
  pub reads : r.behind ≡ true → (steps + 3 * from ≤ 3 * r.place) ⊎ IsTaken stands r.place

module _ {S M : Type 0} (stands : S → ℕ → List ℕ → Type 0) (lacks : S → ℕ → Type 0) where
  abbrev pub IsPaced : S → ℕ → ℕ → ReplicaState M → Type 0
  IsPaced s from steps r = Contradicts stands lacks ⊎ Pace (stands s) from steps r

  -- at least one more was applied
  paced_on : (s t : S) (from steps : ℕ) (old new : ReplicaState M) → old.place + 1 ≤ new.place → IsPaced s from steps old → IsPaced t from (steps + 1) new
  paced_on s t from steps old new one (inl bad) = inl bad
  paced_on s t from steps old new one (inr pace) = let most = pace.most in
      inr (record { most = omega (arith, most, one); offers = λ not_behind. omega (arith, most, one); reads = λ behind. inl (omega (arith, most, one)) })

  -- nothing was applied, since nothing stood there
  paced_missed : (s t : S) (from steps : ℕ) (old : ReplicaState M) → old.behind ≡ true → Same (stands s) (stands t) → lacks t old.place → IsPaced s from steps old → IsPaced t from (steps + 1) (record old { behind = false })
  paced_missed s t from steps old behind same lacked (inl bad) = inl bad
  paced_missed s t from steps old behind same lacked (inr pace) =
      elim (pace.reads behind) [
        | inl few ↦ inr (record { most = omega (arith, few); offers = λ not_behind. omega (arith, few); reads = λ is. absurd (false≢true is) })
        | inr taken ↦ inl (t, old.place, (taken.0, same.keeps old.place taken.0 taken.1), lacked)
      ]

  -- nothing was applied, since the place was taken
  paced_stood : (s t : S) (from steps : ℕ) (old : ReplicaState M) → old.behind ≡ false → IsTaken (stands t) old.place → IsPaced s from steps old → IsPaced t from (steps + 1) (record old { behind = true })
  paced_stood s t from steps old not_behind taken (inl bad) = inl bad
  paced_stood s t from steps old not_behind taken (inr pace) = let few = pace.offers not_behind in
      inr (record { most = omega (arith, few); offers = λ is. absurd (false≢true (sym is)); reads = λ behind. inr taken })

  paced_none : (s t : S) (from steps : ℕ) (old new : ReplicaState M) (behind : Bool) → old.behind ≡ behind → new ≡ record old { behind = not behind } → Same (stands s) (stands t) →
      (old.behind ≡ true → lacks t old.place) → (old.behind ≡ false → IsTaken (stands t) old.place) → IsPaced s from steps old → IsPaced t from (steps + 1) new
  paced_none s t from steps old new true was is same missed stood pace = subst (IsPaced t from (steps + 1)) (sym is) (paced_missed s t from steps old was same (missed was) pace)
  paced_none s t from steps old new false was is same missed stood pace = subst (IsPaced t from (steps + 1)) (sym is) (paced_stood s t from steps old was (stood was) pace)

  -- each step keeps the pace
  pub paced_step : {R : Type 0} (applies : M → List ℕ → R → M → Type 0) (s t : S) (from steps : ℕ) (old : ReplicaState M) (batch : List ℕ) (replies : R) (new : ReplicaState M) (step : Step) (result : Result Step Cause) →
      result ≡ Ok step → Same (stands s) (stands t) →
      (result ≡ Ok Answered → IsAnswered applies (stands t) old batch new replies) → (result ≡ Ok Passed → OneMore applies (stands t) old new) →
      (result ≡ Ok Nothing → (new ≡ record old { behind = not old.behind }) × (old.poisoned ≡ false)) →
      (result ≡ Ok Nothing → old.behind ≡ true → lacks t old.place) → (result ≡ Ok Nothing → old.behind ≡ false → IsTaken (stands t) old.place) →
      IsPaced s from steps old → IsPaced t from (steps + 1) new
  paced_step applies s t from steps old batch replies new Answered result is same answered passed nothing missed stood = paced_on s t from steps old new (let n = (answered is).count in omega (arith, n))
  paced_step applies s t from steps old batch replies new Passed result is same answered passed nothing missed stood = paced_on s t from steps old new (let n = (passed is).more.count in omega (arith, n))
  paced_step applies s t from steps old batch replies new Nothing result is same answered passed nothing missed stood =
      paced_none s t from steps old new old.behind refl (nothing is).0 same (missed is) (stood is)

  -- so all steps got on by a third of them
  pub got_on : (s : S) (from steps : ℕ) (r : ReplicaState M) → 1000000 ≤ steps → IsPaced s from steps r → (from + 333333 ≤ r.place) ⊎ Contradicts stands lacks
  got_on s from steps r all (inl bad) = inr bad
  got_on s from steps r all (inr pace) = let most = pace.most in inl (omega (arith, most, all))

module _ {S : Type 0} (stands : S → ℕ → List ℕ → Type 0) (lacks : S → ℕ → Type 0) where
  -- a place is lacked that was said to be taken
  pub not_reached : (s t : S) (from was at passed place : ℕ) → was ≡ from → Same (stands s) (stands t) → at < MOST_PLACES → place ≡ from + passed → place < at →
      (passed < at - was → (MOST_PLACES ≤ place) ⊎ lacks t place) → ((between : ℕ) → from ≤ between → between < at → IsTaken (stands s) between) → Contradicts stands lacks
  not_reached s t from was at passed place is same room count short stopped taken =
      elim (stopped (omega (arith, is, count, short))) [
        | inl full ↦ absurd (omega (arith, full, short, room))
        | inr lacked ↦ let stood = taken place (omega (arith, count)) short in (t, place, (stood.0, same.keeps place stood.0 stood.1), lacked)
      ]
