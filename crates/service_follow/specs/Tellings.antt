-- the entries of a compaction that a front end offers
use Rattle.std.specs.Prelude.{◌≡◌, ◌⊎◌, ◌<◌, ◌≤◌, ◌^◌, codes, ℕ, false, Option, Some, List, [], ◌∷◌, ◌++◌, length}
use Rattle.service_log.specs.ReplicaState.{ReplicaState}
use Rattle.service_log.specs.Replicas.{HasAppliedFrom}
use Rattle.service_follow.specs.Batches.{head_of, hex_digits}
use Rattle.service_follow.specs.Desks.{is_lines}
use Rattle.service_follow.specs.FollowState.{FollowState}
use Rattle.service_follow.specs.Hosted.{HasMovedOn}
use Rattle.service_follow.specs.Kept.{token_of}
use Rattle.service_follow.specs.Marks.{entries_in, kept_in, mark_of, next_in}
use Rattle.service_follow.specs.Stays.{StayApplies, since_compaction, start_of, under_way}
use Rattle.service_follow.specs.StayState.{StayState}
use Rattle.service_follow.specs.Terms.{told_text}
use Rattle.service_follow.specs.declared.compaction.Due.{Due}
use Rattle.service_follow.specs.declared.gathering.Gathering.{Gathering}
use Rattle.service_follow.specs.declared.hall_terms.ToldTerms.{ToldTerms}
use Rattle.service_follow.specs.declared.front_end_stay.FrontEndStay.{FrontEndStay}
use Rattle.service_follow.specs.declared.marks.Mark.TheVariants.{Begins, GoesOn, Ends}

-- the entry that begins, which tells the terms of the hall where it has some
abbrev pub first_entry : List ℕ → ℕ → Option ToldTerms → List ℕ
first_entry token count told = head_of token count ++ (codes " compaction" ++ (told_text told ++ 10 ∷ []))

-- an entry of lines, behind the one with this token and this count
abbrev pub more_entry : List ℕ → ℕ → List ℕ → List ℕ → List ℕ
more_entry token count before lines = head_of token count ++ (codes " more behind " ++ (before ++ 10 ∷ lines))

-- a stay in 64 bytes
abbrev pub stay_text : FrontEndStay → List ℕ
stay_text stay = hex_digits 16 stay.identity ++ (hex_digits 16 stay.last ++ stay.token)

abbrev pub stay_texts : List FrontEndStay → List ℕ
stay_texts [] = []
stay_texts (stay ∷ kept) = stay_text stay ++ stay_texts kept

-- a number between spaces
abbrev pub number_then : ℕ → List ℕ → List ℕ
number_then n rest = hex_digits 16 n ++ 32 ∷ rest

-- the entry that ends: how many entries were applied, and who keeps each stay
abbrev pub last_entry : List ℕ → ℕ → List ℕ → ℕ → List FrontEndStay → List ℕ
last_entry token count before entries kept =
    head_of token count ++ (codes " ends behind " ++ (before ++ 32 ∷ number_then entries (number_then (length kept) (stay_texts kept ++ 10 ∷ []))))

-- an entry is one of a compaction of the front end of this token
pub record IsTelling (token entry : List ℕ) : Type 0 where
  pub marked : is_lines (mark_of entry) ≡ false
  pub own : token_of entry ≡ token

-- a compaction is due where the history has so many events, or so many entries were applied since the last one
abbrev pub IsDue : Due → StayState → Type 0
IsDue due w = (due.events ≤ length w.hall.history) ⊎ (due.entries ≤ since_compaction w)

-- where a hall is so: an entry begins a compaction that is due
pub record BeginsDue (due : Due) (token : List ℕ) (w : StayState) (entry : List ℕ) : Type 0 where
  pub count : ℕ
  pub terms : Option ToldTerms
  pub is : entry ≡ first_entry token count terms
  pub due_is : IsDue due w

-- one of lines stands behind the entry of a compaction that was read last
pub record GoesOnBehind (token : List ℕ) (w : StayState) (entry : List ℕ) : Type 0 where
  pub count : ℕ
  pub before : List ℕ
  pub lines : List ℕ
  pub is : entry ≡ more_entry token count before lines
  pub behind : under_way w.gathered ≡ Some before

-- and one ends it: it tells how many entries were applied there, and who keeps each stay there
pub record EndsBehind (token : List ℕ) (w : StayState) (entry : List ℕ) : Type 0 where
  pub count : ℕ
  pub before : List ℕ
  pub is : entry ≡ last_entry token count before w.entries w.kept
  pub behind : under_way w.gathered ≡ Some before

abbrev pub IsTold : Due → List ℕ → StayState → List ℕ → Type 0
IsTold due token w entry = BeginsDue due token w entry ⊎ (GoesOnBehind token w entry ⊎ EndsBehind token w entry)

-- At this place of a log an entry of a compaction stands as the front end of this token offers it: to the hall there all entries before it were
-- applied, and no others, from the first or from a later place on
pub record IsToldAt {S : Type 0} (stands : S → ℕ → List ℕ → Type 0) (due : Due) (token : List ℕ) (log : FollowState S) (place : ℕ) (entry : List ℕ) : Type 0 where
  pub telling : IsTelling token entry
  pub there : ReplicaState StayState
  pub applied : HasAppliedFrom StayApplies (stands log.store) log.from (start_of log.config log.from) there
  pub place_is : there.place ≡ place
  pub told : IsTold due token there.machine entry

-- what stands new in a log is entries of compactions of the front end of this token
abbrev pub TellsAlone : {S : Type 0} → (S → ℕ → List ℕ → Type 0) → Due → List ℕ → FollowState S → FollowState S → Type 0
TellsAlone stands due token old new = (place : ℕ) (entry : List ℕ) → stands new.store place entry → stands old.store place entry ⊎ IsToldAt stands due token new place entry

-- its numbers fit into 64 bits, and its token has 32 bytes
pub record IsStay (stay : FrontEndStay) : Type 0 where
  pub identity : stay.identity < 2 ^ 64
  pub last : stay.last < 2 ^ 64
  pub long : length stay.token ≡ 32

abbrev pub AreStays : List FrontEndStay → Type 0
AreStays [] = Unit {0}
AreStays (stay ∷ kept) = IsStay stay × AreStays kept

-- What is told is read back: which entry it is, that it stands behind the entry that it names, and in the last one how many entries were applied
-- and who keeps each stay
pub record IsReadBack (token : List ℕ) (count : ℕ) (part : Gathering) (lines : List ℕ) (entries : ℕ) (kept : List FrontEndStay) : Type 0 where
  pub first : (told : Option ToldTerms) → mark_of (first_entry token count told) ≡ Begins
  pub more : mark_of (more_entry token count part.head lines) ≡ GoesOn
  pub last : mark_of (last_entry token count part.head entries kept) ≡ Ends
  pub goes_on : next_in (Some part) (more_entry token count part.head lines) ≡ Some part
  pub ends : next_in (Some part) (last_entry token count part.head entries kept) ≡ Some part
  pub many : entries_in (last_entry token count part.head entries kept) ≡ entries
  pub stays : kept_in (last_entry token count part.head entries kept) ≡ kept

-- A hall that follows a log went on, and what stands new in the log is entries of compactions of this front end, each as it is due at its place. The
-- front end has its token still, and the same is due
pub record HasToldAlone {S : Type 0} (stands : S → ℕ → List ℕ → Type 0) (due due' : Due) (token token' : List ℕ) (old new : FollowState S) : Type 0 where
  pub moved : HasMovedOn stands old new
  pub alone : TellsAlone stands due token old new
  pub token_is : token' ≡ token
  pub due_is : due' ≡ due
