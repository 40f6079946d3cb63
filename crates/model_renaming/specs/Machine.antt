-- renaming as a machine, and properties of a world after its calls
use Rattle.std.specs.Prelude.{◌≡◌, ℕ, ◌+◌, ◌*◌, ◌≤◌, true, if◌then◌else◌, ◌⊎◌, List, Option, Some, None, Err, IsOk}
use Rattle.model_steps.specs.declared.refusal.Refusal.TheVariants.{NoMemory}
use Rattle.model_steps.specs.World.{begin_refusal, done_unless}
use Rattle.model_steps.specs.Calls.{Call, lacked_memory}
use Rattle.model_steps.specs.Calls.Call.{Began, Stepped}
use Rattle.model_steps.specs.Machine.{Machine, Reaches, OnEveryHistory}
use Rattle.model_steps.specs.Runs.{AnswersAsDue}
use Rattle.model_snapshot.specs.declared.client.Client.{Client}
use Rattle.model_snapshot.specs.Snapshot.{SnapBounds, IsMoment, bounds_over}
use Rattle.model_snapshot.specs.SnapWorld.{IsAccessFor}
use Rattle.model_asked.specs.declared.kind.WorldKind.{WorldKind}
use Rattle.model_renaming.specs.Reply.{StepReply}
use Rattle.model_asked.specs.Config.{is_tree}
use Rattle.model_renaming.specs.Locality.{client_of, round_of, access_of}
use Rattle.model_renaming.specs.Law.{RenameSpec}
use Rattle.model_snapshot.specs.Places.{KnownPlaces}
use Rattle.model_renaming.specs.RenameObject.{RenameTerms, RenameObject, IsRun, IsOwner, Allows, after, new_object}
use Rattle.model_renaming.specs.RenameState.{RenameState}
use Rattle.model_renaming.specs.RenameWorld.{fresh_world, after_rename_begin, step_refusal, rename_answer, after_rename_step, may_lack, LacksMemory}

module _ {S R V U K : Type 0} (W : KnownPlaces S R V U K) where
  -- the world after a call. A step that fails with `NoMemory` changes nothing
  abbrev pub next : RenameState S U K → Call StepReply → RenameState S U K
  next w (Began id reply) = after_rename_begin W w id
  next w (Stepped id reply) = if lacked_memory reply then w else after_rename_step W w id

  -- the reply is the due one, or `NoMemory` at a step that may lack memory and for which no other refusal is due
  abbrev pub IsReply : RenameState S U K → Call StepReply → Type 0
  IsReply w (Began id reply) = reply ≡ done_unless (begin_refusal w.snap id)
  IsReply w (Stepped id reply) =
      (reply ≡ rename_answer W w id)
      ⊎ ((reply ≡ Err NoMemory) × LacksMemory W w id)

  -- no participant has begun, and nothing was written. There is room for `most` participants, each with at most `limit`
  -- proposals
  pub record IsFresh (most limit : ℕ) (w : RenameState S U K) : Type 0 where
    pub first : S
    pub new : W.ties.IsNew first
    pub room : W.most_of first ≡ most
    pub is : w ≡ fresh_world first most limit

  -- a call keeps the most participants and the round limit
  abbrev pub KeepsSizes : RenameState S U K → Call StepReply → Type 0
  KeepsSizes w h = ((next w h).snap.most ≡ w.snap.most) × ((next w h).limit ≡ w.limit)

  -- a world over this memory and with this round limit, in which nobody has begun
  abbrev pub fresh_over : S × ℕ → RenameState S U K
  fresh_over first = fresh_world first.0 (W.most_of first.0) first.1

  -- nothing was written in the memory, and the round limit is in its range
  pub record IsRenameStart (first : S × ℕ) : Type 0 where
    pub new : W.ties.IsNew first.0
    pub low : 1 ≤ first.1
    pub high : first.1 ≤ 1000000

  -- the law's numbers for places that serve this kind of world: the most participants and the round limit, and whether a
  -- step may lack memory
  abbrev pub terms_of : WorldKind → S × ℕ → RenameTerms
  terms_of kind first = record { most = W.most_of first.0; limit = first.1; grows = is_tree kind }

  -- if b have begun, a scan makes at most b + 1 collects, each of as many reads as a walk over the segments makes
  abbrev pub bounds_for : S × ℕ → SnapBounds
  bounds_for first = bounds_over W first.0 (λ b. (b + 1) * W.ties.reads (W.most_of first.0) b)

  module _ (kind : WorldKind) where
    -- renaming over these places, and what it keeps
    abbrev pub renaming : Machine (S × ℕ) (RenameState S U K) (Call StepReply)
    renaming = record {
      MayStart = IsRenameStart;
      first = fresh_over;
      next = next;
      IsReply = IsReply;
      Spec = λ first r. RenameSpec (terms_of kind first) (bounds_for first) r;
      RefusesAsDue = λ first r. AnswersAsDue after (Allows (terms_of kind first)) new_object r;
    }

    -- every list of calls that leads to this world satisfies the specification within these bounds, which depend on the
    -- most participants
    abbrev pub SatisfiesSpecWithin : (ℕ → SnapBounds) → RenameState S U K → Type 0
    SatisfiesSpecWithin bounds w = OnEveryHistory renaming (λ first r. RenameSpec (terms_of kind first) (bounds (W.most_of first.0)) r) w

    -- of the object that may answer every list of calls that leads to this world
    abbrev pub InObject : (RenameObject → Type 0) → RenameState S U K → Type 0
    InObject Holds w = OnEveryHistory renaming (λ first r. (o : RenameObject) → IsRun (terms_of kind first) r o → Holds o) w

    -- what is answered of names agrees with the replies: the name of an identity, the owner of a name, the last moment
    abbrev pub IsName : RenameState S U K → ℕ → Option ℕ → Type 0
    IsName w p name = InObject (λ o. name ≡ o.name p) w

    abbrev pub IsOwnerOf : RenameState S U K → ℕ → Option ℕ → Type 0
    IsOwnerOf w n owner = InObject (λ o. IsOwner o n owner) w

    abbrev pub IsLastMoment : RenameState S U K → List (ℕ × ℕ) → Type 0
    IsLastMoment w view = InObject (λ o. IsMoment view (o.moment o.last)) w

    -- after every list of calls, p's step may want memory only where this holds
    abbrev pub LacksOnly : RenameState S U K → ℕ → Type 0 → Type 0
    LacksOnly w p Holds = OnEveryHistory renaming (λ first r. may_lack W w p ≡ true → Holds) w

    -- p's next access is one for what it has to do
    abbrev pub MakesOwnAccess : RenameState S U K → ℕ → Type 0
    MakesOwnAccess w p = OnEveryHistory renaming (λ first r. (c : Client U K) → client_of p w ≡ Some c → IsAccessFor W w.snap.memory c c.pending (access_of W c)) w

    -- p's step is answered where its round does not refuse it
    abbrev pub AnswersUnrefused : RenameState S U K → ℕ → Type 0
    AnswersUnrefused w p = OnEveryHistory renaming (λ first r. step_refusal w p ≡ None → IsOk (rename_answer W w p)) w

    -- after every two lists of calls, where worlds are of one size, p would begin as the same
    abbrev pub BeginsTheSame : ℕ → Type 0
    BeginsTheSame p = (w x : RenameState S U K) (first other : S × ℕ) (r s : List (Call StepReply)) → Reaches renaming first w r → Reaches renaming other x s → w.snap.most ≡ x.snap.most →
        begin_refusal w.snap p ≡ None → begin_refusal x.snap p ≡ None → (client_of p (after_rename_begin W w p) ≡ client_of p (after_rename_begin W x p)) × (round_of p (after_rename_begin W w p) ≡ round_of p (after_rename_begin W x p))
