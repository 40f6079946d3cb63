-- what a seat of a pool knows, and how a call goes on by its accesses
use Rattle.std.specs.Prelude.{◌≡◌, ◌≢◌, ◌≤◌, ◌+◌, ◌==◌, ℕ, zero, suc, List, [], ◌∷◌, ◌++◌, true, false, if◌then◌else◌}
use Rattle.words_pool.specs.declared.pool_view.CallStage.{CallStage}
use Rattle.words_pool.specs.declared.pool_view.CallStage.TheVariants.{AtRest, Seeking, Holding, Ended}
use Rattle.words_pool.specs.declared.pool_view.Call.{Call}
use Rattle.words_pool.specs.declared.pool_view.PoolView.{PoolView}
use Rattle.words_pool.specs.Tally.{one_if}

-- a call that has not begun
abbrev pub at_rest : Call
at_rest =
    record {
      stage = AtRest;
      place = 0;
      met = [];
      met_aside = [];
      accesses = 0;
      hinted = false;
      sighted = false;
      lost = 0;
      came = 0;
      took = 0;
      went = 0;
      crowds = [];
    }

-- it comes to the first place, at this moment, with what it met and lost at a hint
abbrev pub coming : ℕ → Call → Call
coming moment c = record at_rest { stage = Seeking; met_aside = c.met_aside; accesses = c.accesses; lost = c.lost; came = moment }

-- one access more, which changes nothing else
abbrev pub spent : Call → Call
spent c = record c { accesses = suc c.accesses }

-- one access more, which met this place of a hint held: it has then lost so many races
abbrev pub passing_aside : ℕ → ℕ → Call → Call
passing_aside lost place c = record c { met_aside = place ∷ c.met_aside; accesses = suc c.accesses; sighted = false; lost = lost }

-- a look that found its place free
abbrev pub sighting : Call → Call
sighting c = record c { accesses = suc c.accesses; sighted = true }

-- an access that met its place held: it goes on to the next, having lost so many races
abbrev pub passing : ℕ → Call → Call
passing lost c = record c { stage = Seeking; place = suc c.place; met = c.place ∷ c.met; accesses = suc c.accesses; sighted = false; lost = lost }

-- an access that took its place, at this moment: with how many competed at each moment till then
abbrev pub taking : ℕ → List ℕ → Call → Call
taking moment crowds c = record c { stage = Holding; accesses = suc c.accesses; sighted = false; took = moment; went = 0; crowds = crowds }

-- an access of a call at rest that took this place, at this moment, with what it met and lost at places of hints before
abbrev pub taking_hint : ℕ → ℕ → Call → Call
taking_hint place moment c =
    record at_rest { stage = Holding; place = place; met_aside = c.met_aside; accesses = suc c.accesses; hinted = true; lost = c.lost; came = moment; took = moment }

-- the access that gave its place back, at this moment
abbrev pub going : ℕ → Call → Call
going moment c = record c { stage = Ended; accesses = suc c.accesses; sighted = false; went = moment }

-- a look at its place found this
abbrev pub looked : ℕ → Call → Call
looked found c = if found == 0 then sighting c else passing c.lost c

-- the races that it has lost where a swap meets its place held: one more where the access before was a look that found it free
abbrev pub races : Call → ℕ
races c = c.lost + one_if c.sighted

-- a swap of 1 into its place found this
abbrev pub swapped : ℕ → List ℕ → ℕ → Call → Call
swapped moment crowds found c = if found == 0 then taking moment crowds c else passing (races c) c

-- a look at this place of a hint by a call at rest found this
abbrev pub looked_aside : ℕ → ℕ → Call → Call
looked_aside place found c = if found == 0 then sighting c else passing_aside c.lost place c

-- a swap of 1 into this place by a call at rest found this
abbrev pub swapped_hint : ℕ → ℕ → ℕ → Call → Call
swapped_hint place moment found c = if found == 0 then taking_hint place moment c else passing_aside (races c) place c

-- one access more, which met this place held
abbrev pub meeting : ℕ → Call → Call
meeting place c = record c { met = place ∷ c.met; accesses = suc c.accesses }

-- a look at this place, when the pool ends, found this
abbrev pub read_at : ℕ → ℕ → Call → Call
read_at place found c = if found == 0 then spent c else meeting place c

abbrev pub view_of : List Call → List Call → PoolView
view_of calls past = record { calls = calls; past = past }

-- the view of a seat that has no call
abbrev pub no_call : PoolView
no_call = view_of [] []

-- the view of a seat that has the calls of two
abbrev pub united : PoolView → PoolView → PoolView
united v w = view_of (v.calls ++ w.calls) (v.past ++ w.past)

-- the view of a seat with one call
abbrev pub lone : Call → List Call → PoolView
lone c past = view_of (c ∷ []) past

-- the view of a seat whose call has not begun
abbrev pub resting : List Call → PoolView
resting past = lone at_rest past

-- the first of some calls, or one that has not begun
abbrev pub first_of : List Call → Call
first_of [] = at_rest
first_of (c ∷ cs) = c

-- the call of a seat, and those that it has ended
abbrev pub call_of : PoolView → Call
call_of v = first_of v.calls

-- the same of the view of a badge, where it has one
abbrev pub call_in : List PoolView → Call
call_in [] = at_rest
call_in (v ∷ vs) = call_of v

abbrev pub past_in : List PoolView → List Call
past_in [] = []
past_in (v ∷ vs) = v.past

-- so many places from the first on, the newest first
abbrev pub first_places : ℕ → List ℕ
first_places zero = []
first_places (suc count) = count ∷ first_places count

-- so many places from this one on, the newest first
abbrev pub places_from : ℕ → ℕ → List ℕ
places_from first zero = []
places_from first (suc count) = (first + count) ∷ places_from first count

-- the view of a seat with one call, of this stage, at this place: its walk has met all places below held
pub record IsAt (stage : CallStage) (place : ℕ) (v : PoolView) : Type 0 where
  pub view_is : v ≡ lone (call_of v) v.past
  pub stage_is : (call_of v).stage ≡ stage
  pub place_is : (call_of v).place ≡ place
  pub met_are : (call_of v).met ≡ first_places place
  pub walked : (call_of v).hinted ≡ false

abbrev pub IsSeeking : ℕ → PoolView → Type 0
IsSeeking = IsAt Seeking

abbrev pub IsHolding : ℕ → PoolView → Type 0
IsHolding = IsAt Holding

-- the view of a seat with one call, at rest, which has met so many places from the first on held, by hints
pub record IsAside (first count : ℕ) (v : PoolView) : Type 0 where
  pub view_is : v ≡ lone (call_of v) v.past
  pub stage_is : (call_of v).stage ≡ AtRest
  pub met_are : (call_of v).met_aside ≡ places_from first count

-- a seat's call has looked at this place, and found this: where it was held it stands at the next
abbrev pub HasLooked : ℕ → ℕ → PoolView → Type 0
HasLooked found place v =
    (found ≡ 0 → IsSeeking place v × ((call_of v).sighted ≡ true)) × (found ≢ 0 → IsSeeking (suc place) v × ((call_of v).sighted ≡ false))

-- a seat's call has swapped 1 into this place, and found this: where it was held it stands at the next
abbrev pub HasSwapped : ℕ → ℕ → PoolView → Type 0
HasSwapped found place v = (found ≡ 0 → IsHolding place v) × (found ≢ 0 → IsSeeking (suc place) v × ((call_of v).sighted ≡ false))

-- a call made at most so many accesses, or one more where it lost a race
abbrev pub IsWithin : ℕ → Call → Type 0
IsWithin most c = (c.accesses ≤ most + 1) × (c.lost ≡ 0 → c.accesses ≤ most)
