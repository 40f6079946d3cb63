-- the renaming object, which may give any name that the moments allow (the problem: Attiya et al. 1990; proposals in rounds,
-- and their limit: this project's profile)
use Rattle.std.specs.Prelude.{◌≡◌, ◌≢◌, ℕ, ◌+◌, ◌-◌, ◌*◌, ◌<◌, ◌≤◌, Bool, true, false, not, ◌==◌, nat_le, if◌then◌else◌, is_some, ◌⊎◌, List, Option, Some, None, Ok, Err}
use Rattle.model_steps.specs.SetAt.{set_at}
use Rattle.model_steps.specs.Runs.{Run}
use Rattle.model_steps.specs.Calls.{Call}
use Rattle.model_steps.specs.Calls.Call.{Began, Stepped}
use Rattle.model_steps.specs.World.{done_unless}
use Rattle.model_steps.specs.declared.refusal.Refusal.{Refusal}
use Rattle.model_steps.specs.declared.refusal.Refusal.TheVariants.{ZeroIdentity, AlreadyBegun, Full, NotBegun, Finished, Spent as IsSpent, NoMemory}
use Rattle.model_snapshot.specs.Snapshot.{no_values, IsMoment}
use Rattle.model_renaming.specs.Reply.{StepReply}
use Rattle.model_renaming.specs.declared.reply.Reply.TheVariants.{Quiet, Placed, Proposed, Saw, Named, Spent}

-- the most participants, the most proposals of each, and whether a step may lack memory
pub record RenameTerms : Type 0 where
  pub most : ℕ
  pub limit : ℕ
  pub grows : Bool

-- the identities that have begun, with their places and names, and those that are spent. Moments are maps from identity
-- to proposal, with numbers from 0 to the last. Of each identity the object has the moment of its last proposal, and
-- the number of its proposals
pub record RenameObject : Type 0 where
  pub begun : ℕ → Bool
  pub many : ℕ
  pub place : ℕ → Option ℕ
  pub name : ℕ → Option ℕ
  pub spent : ℕ → Bool
  pub last : ℕ
  pub moment : ℕ → ℕ → Option ℕ
  pub since : ℕ → ℕ
  pub count : ℕ → ℕ

-- nobody has begun
abbrev pub new_object : RenameObject
new_object = record {
  begun = λ p. false;
  many = 0;
  place = λ p. None;
  name = λ p. None;
  spent = λ p. false;
  last = 0;
  moment = λ i. no_values;
  since = λ p. 0;
  count = λ p. 0;
}

-- why `begin` is refused: the first of these that holds
abbrev pub no_begin : RenameTerms → RenameObject → ℕ → Option Refusal
no_begin terms o p =
    if p == 0 then Some ZeroIdentity
    else if o.begun p then Some AlreadyBegun
    else if nat_le terms.most o.many then Some Full
    else None

-- why `step` is refused: the first of these that holds
abbrev pub no_step : RenameObject → ℕ → Option Refusal
no_step o p =
    if not (o.begun p) then Some NotBegun
    else if is_some (o.name p) then Some Finished
    else if o.spent p then Some IsSpent
    else None

-- in this moment another identity proposes n
pub record IsContested (moment : ℕ → Option ℕ) (p n : ℕ) : Type 0 where
  pub other : ℕ
  pub not_own : other ≢ p
  pub proposes : moment other ≡ Some n

-- in this moment another identity proposes what p proposes
pub record IsConflict (moment : ℕ → Option ℕ) (p : ℕ) : Type 0 where
  pub number : ℕ
  pub own : moment p ≡ Some number
  pub contested : IsContested moment p number

-- in this moment p proposes n, and no other does
pub record IsSole (moment : ℕ → Option ℕ) (p n : ℕ) : Type 0 where
  pub own : moment p ≡ Some n
  pub alone : (q : ℕ) → q ≢ p → moment q ≢ Some n

-- a moment from p's last proposal on
pub record IsRecent (o : RenameObject) (p i : ℕ) : Type 0 where
  pub no_earlier : o.since p ≤ i
  pub no_later : i ≤ o.last

-- p has no place, and no one has this one
pub record IsFreePlace (o : RenameObject) (p place : ℕ) : Type 0 where
  pub first : o.place p ≡ None
  pub free : (q : ℕ) → o.place q ≢ Some place

-- n is from 1 to 2b - 1, where b have begun, and p has a proposal left
pub record MayPropose (terms : RenameTerms) (o : RenameObject) (p n : ℕ) : Type 0 where
  pub positive : 1 ≤ n
  pub small : n ≤ 2 * o.many - 1
  pub rounds : o.count p < terms.limit

-- in some moment from p's last proposal on another proposes the same
pub record HasConflict (o : RenameObject) (p : ℕ) : Type 0 where
  pub index : ℕ
  pub recent : IsRecent o p index
  pub conflict : IsConflict (o.moment index) p

-- the view is a moment from p's last proposal on, in which another proposes the same
pub record ShowsConflict (o : RenameObject) (p : ℕ) (view : List (ℕ × ℕ)) : Type 0 where
  pub index : ℕ
  pub recent : IsRecent o p index
  pub is : IsMoment view (o.moment index)
  pub conflict : IsConflict (o.moment index) p

-- the view is a moment from p's last proposal on, in which p proposes n and no other does
pub record ShowsSole (o : RenameObject) (p n : ℕ) (view : List (ℕ × ℕ)) : Type 0 where
  pub index : ℕ
  pub recent : IsRecent o p index
  pub is : IsMoment view (o.moment index)
  pub sole : IsSole (o.moment index) p n

-- n is nobody's name, and at most 2b - 1
pub record IsFreeName (o : RenameObject) (n : ℕ) : Type 0 where
  pub small : n ≤ 2 * o.many - 1
  pub free : (q : ℕ) → o.name q ≢ Some n

-- what an accepted step may answer
abbrev pub AllowsStep : RenameTerms → RenameObject → ℕ → StepReply → Type 0
AllowsStep terms o p Quiet = Unit {0}
AllowsStep terms o p (Placed place) = IsFreePlace o p place
AllowsStep terms o p (Proposed n) = MayPropose terms o p n
AllowsStep terms o p (Saw view) = (1 ≤ o.count p) × (o.count p < terms.limit) × ShowsConflict o p view
AllowsStep terms o p (Named n view) = (1 ≤ o.count p) × ShowsSole o p n view × IsFreeName o n
AllowsStep terms o p Spent = (o.count p ≡ terms.limit) × HasConflict o p

-- a step may fail with `NoMemory` if no other refusal is due, and its participant has no place yet
pub record MayLack (terms : RenameTerms) (o : RenameObject) (p : ℕ) (why : Refusal) : Type 0 where
  pub is : why ≡ NoMemory
  pub grows : terms.grows ≡ true
  pub none_due : no_step o p ≡ None
  pub unplaced : o.place p ≡ None

-- the reply is one that the object may give to the call
abbrev pub Allows : RenameTerms → RenameObject → Call StepReply → Type 0
Allows terms o (Began p reply) = reply ≡ done_unless (no_begin terms o p)
Allows terms o (Stepped p (Ok reply)) = (no_step o p ≡ None) × AllowsStep terms o p reply
Allows terms o (Stepped p (Err why)) = (no_step o p ≡ Some why) ⊎ MayLack terms o p why

-- the object after an accepted step. A proposal makes a new moment: the last one, with it
abbrev pub after_step : RenameObject → ℕ → StepReply → RenameObject
after_step o p Quiet = o
after_step o p (Placed place) = record o { place = set_at o.place p (Some place) }
after_step o p (Proposed n) = record o {
  last = o.last + 1;
  moment = set_at o.moment (o.last + 1) (set_at (o.moment o.last) p (Some n));
  since = set_at o.since p (o.last + 1);
  count = set_at o.count p (o.count p + 1);
}
after_step o p (Saw view) = o
after_step o p (Named n view) = record o { name = set_at o.name p (Some n) }
after_step o p Spent = record o { spent = set_at o.spent p true }

-- the object after a call. A refusal changes nothing
abbrev pub after : RenameObject → Call StepReply → RenameObject
after o (Began p (Ok done)) = record o { begun = set_at o.begun p true; many = o.many + 1 }
after o (Began p (Err why)) = o
after o (Stepped p (Ok reply)) = after_step o p reply
after o (Stepped p (Err why)) = o

-- the new object may answer these calls so, in order, and is then in that state
abbrev pub IsRun : RenameTerms → List (Call StepReply) → RenameObject → Type 0
IsRun terms r o = Run after (Allows terms) new_object r o

-- this participant has the name n, or none has
abbrev pub IsOwner : RenameObject → ℕ → Option ℕ → Type 0
IsOwner o n None = (p : ℕ) → o.name p ≢ Some n
IsOwner o n (Some p) = o.name p ≡ Some n
