-- what is kept of the renaming object
use Rattle.std.specs.Prelude.{◌≡◌, ℕ, ◌<◌, ◌≤◌, ◌==◌, if◌then◌else◌, Bool, false, List, length, Option, Some, None, is_some, option_and_then, option_map, slice_index}
use Rattle.model_steps.specs.declared.participant.Participant.{Participant}
use Rattle.model_steps.specs.Participant.{AreDistinct, program_of}
use Rattle.model_renaming.specs.RenameObject.{RenameTerms, RenameObject, new_object, after_step}
use Rattle.model_renaming.specs.declared.reply.Reply.TheVariants as step
use Rattle.text_checker.specs.declared.judges.moments.Moments.{Moments}
use Rattle.text_checker.specs.declared.judges.standing.Standing.{Standing}
use Rattle.text_checker.specs.declared.judges.standing.Turn.{Turn}
use Rattle.text_checker.specs.declared.judges.names.Names.{Names}
use Rattle.text_checker.specs.judges.Moments.{HoldsMoments}

abbrev pub place_of : Option Standing → Option ℕ
place_of standing = option_and_then (λ s. s.place) standing

abbrev pub name_of : Option Standing → Option ℕ
name_of standing = option_and_then (λ s. s.name) standing

abbrev pub spent_of : Option Standing → Bool
spent_of None = false
spent_of (Some s) = s.spent

abbrev pub turn_of : Option Standing → Option Turn
turn_of standing = option_map (λ s. s.turn) standing

abbrev pub count_of : Option Turn → ℕ
count_of None = 0
count_of (Some t) = t.count

abbrev pub since_of : Option Turn → ℕ
since_of None = 0
since_of (Some t) = t.since

-- what a row says of a seat
abbrev pub number_reported : ℕ → Option ℕ
number_reported n = if n == 0 then None else Some n

-- what a row says of an identity
abbrev pub reported_in : List ℕ → Option Turn → Option ℕ
reported_in row None = None
reported_in row (Some t) = number_reported (slice_index row t.seat)

-- whether what may be held is this number
abbrev pub is_held : ℕ → Option ℕ → Bool
is_held n None = false
is_held n (Some m) = m == n

-- the participants are those that have begun, with what they have
pub record HoldsPeople (ps : List (Participant Standing)) (o : RenameObject) : Type 0 where
  pub many : o.many ≡ length ps
  pub begun : (q : ℕ) → o.begun q ≡ is_some (program_of q ps)
  pub place : (q : ℕ) → o.place q ≡ place_of (program_of q ps)
  pub name : (q : ℕ) → o.name q ≡ name_of (program_of q ps)
  pub spent : (q : ℕ) → o.spent q ≡ spent_of (program_of q ps)
  pub apart : AreDistinct ps

-- someone has this seat
pub record IsTaken (turns : ℕ → Option Turn) (seat : ℕ) : Type 0 where
  pub who : ℕ
  pub turn : Turn
  pub is : turns who ≡ Some turn
  pub at : turn.seat ≡ seat

-- a proposal stands in each moment from its own on
pub record Stands (rows : ℕ → List ℕ) (last : ℕ) (t : Turn) : Type 0 where
  pub since : t.since ≤ last
  pub positive : 1 ≤ t.number
  pub small : t.number < 128
  pub in_each : (i : ℕ) → t.since ≤ i → i ≤ last → slice_index (rows i) t.seat ≡ t.number

-- who has begun has a seat of its own among the first so many, and the rows are the moments
pub record HoldsTurns (turns : ℕ → Option Turn) (many limit : ℕ) (m : Moments) (last : ℕ) (moment : ℕ → ℕ → Option ℕ) (counts sinces : ℕ → ℕ) : Type 0 where
  pub rows : ℕ → List ℕ
  pub held : HoldsMoments m last rows
  pub count : (q : ℕ) → counts q ≡ count_of (turns q)
  pub since : (q : ℕ) → sinces q ≡ since_of (turns q)
  pub few : (q : ℕ) → counts q ≤ limit
  pub apart : (p q : ℕ) (t u : Turn) → turns p ≡ Some t → turns q ≡ Some u → t.seat ≡ u.seat → p ≡ q
  pub seated : (q : ℕ) (t : Turn) → turns q ≡ Some t → t.seat < many
  pub taken : (seat : ℕ) → seat < many → IsTaken turns seat
  pub shown : (i : ℕ) → i ≤ last → (q : ℕ) → moment i q ≡ reported_in (rows i) (turns q)
  pub unused : (i : ℕ) → i ≤ last → (seat : ℕ) → many ≤ seat → slice_index (rows i) seat ≡ 0
  pub small : (i : ℕ) → i ≤ last → (seat : ℕ) → slice_index (rows i) seat < 128
  pub stands : (q : ℕ) (t : Turn) → turns q ≡ Some t → 1 ≤ t.count → Stands rows last t

-- by identity, where each participant is in its rounds
abbrev pub turns_in : List (Participant Standing) → ℕ → Option Turn
turns_in ps q = turn_of (program_of q ps)

-- what is kept is of this object
pub record HoldsNames (terms : RenameTerms) (s : Names) (o : RenameObject) : Type 0 where
  pub people : HoldsPeople s.participants o
  pub turns : HoldsTurns (turns_in s.participants) (length s.participants) terms.limit s.moments o.last o.moment o.count o.since
  pub most_is : s.most ≡ terms.most
  pub limit_is : s.limit ≡ terms.limit
  pub fits : terms.most ≤ 64
  pub low : 1 ≤ terms.limit
  pub few : terms.limit ≤ 1000000
  pub room : length s.participants ≤ terms.most

-- this holds of any object that what is kept is of
abbrev pub OfNames : Names → (RenameTerms → RenameObject → Type 0) → Type 0
OfNames s P = (terms : RenameTerms) (o : RenameObject) → HoldsNames terms s o → P terms o

-- nobody has begun, where the sizes are in range
abbrev pub HoldsNone : ℕ → ℕ → Names → Type 0
HoldsNone most limit s =
    (terms : RenameTerms) → terms.most ≡ most → terms.limit ≡ limit → most ≤ 64 → 1 ≤ limit → limit ≤ 1000000 → HoldsNames terms s new_object

-- the object after an identity has proposed a number
abbrev pub proposed_by : ℕ → ℕ → RenameObject → RenameObject
proposed_by id number o = after_step o id (step.Proposed number)
