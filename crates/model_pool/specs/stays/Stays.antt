-- who keeps each stay, what changes it, and which stays are due
use Rattle.std.specs.Prelude.{◌≡◌, ◌≢◌, ◌==◌, if◌then◌else◌, ◌⊎◌, ◌+◌, ◌<◌, nat_lt, not, filter, map, ℕ, Bool, true, false, ◌&&◌, List, [], ◌∷◌, ◌++◌}
use Rattle.model_pool.specs.declared.stays.keeper.Keeper.{Keeper}
use Rattle.model_pool.specs.declared.stays.keeper.Keeper.TheVariants as keeper
use Rattle.model_pool.specs.declared.stays.kept_stay.KeptStay.{KeptStay}

-- What changes who keeps a stay. `enter` of an identity was said by a keeper, and accepted or refused since the identity competes; `leave` of an
-- identity was accepted; a keeper ended at a tick; a keeper said `quit`
pub data Act : Type 0 where
  Entered : ℕ → ℕ → Act
  Left : ℕ → Act
  Ended : ℕ → ℕ → Act
  Quit : ℕ → Act

-- who keeps a stay after a keeper ended at a tick
abbrev pub after_end : ℕ → ℕ → Keeper → Keeper
after_end c tick (keeper.Open a) = if a == c then keeper.Gone tick else keeper.Open a
after_end c tick (keeper.Gone since) = keeper.Gone since
after_end c tick keeper.Quit = keeper.Quit

-- and after it said `quit`
abbrev pub after_quit : ℕ → Keeper → Keeper
after_quit c (keeper.Open a) = if a == c then keeper.Quit else keeper.Open a
after_quit c (keeper.Gone since) = keeper.Gone since
after_quit c keeper.Quit = keeper.Quit

abbrev pub is_kept_by : ℕ → Keeper → Bool
is_kept_by c (keeper.Open a) = a == c
is_kept_by c (keeper.Gone since) = false
is_kept_by c keeper.Quit = false

-- it has not ended
abbrev pub is_open : Keeper → Bool
is_open (keeper.Open a) = true
is_open (keeper.Gone since) = false
is_open keeper.Quit = false

-- the same of a stay
abbrev pub ended_by : ℕ → ℕ → KeptStay → KeptStay
ended_by c tick s = record s { keeper = after_end c tick s.keeper }

abbrev pub quit_by : ℕ → KeptStay → KeptStay
quit_by c s = record s { keeper = after_quit c s.keeper }

-- the stay of an identity that a keeper keeps, and of one that nobody keeps since a tick
abbrev pub open_by : ℕ → ℕ → KeptStay
open_by id c = record { identity = id; keeper = keeper.Open c }

abbrev pub gone_at : ℕ → ℕ → KeptStay
gone_at tick id = record { identity = id; keeper = keeper.Gone tick }

-- the stays of all other identities
abbrev pub without : ℕ → List KeptStay → List KeptStay
without id stays = filter (λ s. not (s.identity == id)) stays

-- the stays after an act, and after acts
abbrev pub after_act : List KeptStay → Act → List KeptStay
after_act stays (Entered id c) = without id stays ++ open_by id c ∷ []
after_act stays (Left id) = without id stays
after_act stays (Ended c tick) = map (ended_by c tick) stays
after_act stays (Quit c) = map (quit_by c) stays

abbrev pub after_acts : List KeptStay → List Act → List KeptStay
after_acts stays [] = stays
after_acts stays (act ∷ acts) = after_acts (after_act stays act) acts

-- nobody kept it for more than so many ticks, or its keeper said `quit`
abbrev pub is_due : ℕ → ℕ → Keeper → Bool
is_due grace tick (keeper.Open c) = false
is_due grace tick (keeper.Gone since) = nat_lt (since + grace) tick
is_due grace tick keeper.Quit = true

abbrev pub IsDue : ℕ → ℕ → Keeper → Type 0
IsDue grace tick k = is_due grace tick k ≡ true

-- the identities whose stays are due
abbrev pub all_due : ℕ → ℕ → List KeptStay → List ℕ
all_due grace tick [] = []
all_due grace tick (s ∷ ss) = if is_due grace tick s.keeper then s.identity ∷ all_due grace tick ss else all_due grace tick ss

-- whether a keeper keeps any stay
abbrev pub keeps_any : ℕ → List KeptStay → Bool
keeps_any c [] = false
keeps_any c (s ∷ ss) = if is_kept_by c s.keeper then true else keeps_any c ss

-- whether any keeper keeps the stay of an identity
abbrev pub is_kept : ℕ → List KeptStay → Bool
is_kept id [] = false
is_kept id (s ∷ ss) = if s.identity == id && is_open s.keeper then true else is_kept id ss

-- a stay is among these
abbrev pub Has : KeptStay → List KeptStay → Type 0
Has s [] = ⊥
Has s (x ∷ xs) = (x ≡ s) ⊎ Has s xs

-- no keeper came to keep the stay of an identity
abbrev pub NoneEntered : ℕ → List Act → Type 0
NoneEntered id [] = Unit {0}
NoneEntered id (Entered i c ∷ acts) = (i ≢ id) × NoneEntered id acts
NoneEntered id (Left i ∷ acts) = NoneEntered id acts
NoneEntered id (Ended c tick ∷ acts) = NoneEntered id acts
NoneEntered id (Quit c ∷ acts) = NoneEntered id acts

-- this act is the end of a keeper: by `quit`, or at a tick that is more than the grace time ago
abbrev pub EndsLongAgo : ℕ → ℕ → ℕ → Act → Type 0
EndsLongAgo grace tick c (Entered i d) = ⊥
EndsLongAgo grace tick c (Left i) = ⊥
EndsLongAgo grace tick c (Ended d since) = (d ≡ c) × (since + grace < tick)
EndsLongAgo grace tick c (Quit d) = d ≡ c

-- a keeper that kept the stay of an identity has ended among these acts, long ago, and no keeper has kept it since
pub record HasEnded (grace tick : ℕ) (first : List KeptStay) (acts : List Act) (id : ℕ) : Type 0 where
  pub before : List Act
  pub connection : ℕ
  pub act : Act
  pub later : List Act
  pub parts : acts ≡ before ++ act ∷ later
  pub kept : Has (open_by id connection) (after_acts first before)
  pub long : EndsLongAgo grace tick connection act
  pub none : NoneEntered id later

-- so it is, or nobody kept the stay from the first, and no keeper has kept it since
abbrev pub IsGraced : ℕ → ℕ → List KeptStay → List Act → KeptStay → Type 0
IsGraced grace tick first acts s = HasEnded grace tick first acts s.identity ⊎ (Has s first × IsDue grace tick s.keeper × NoneEntered s.identity acts)
