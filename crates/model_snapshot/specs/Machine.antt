-- a snapshot object as a machine, and properties of it after its calls
use Rattle.std.specs.Prelude.{◌≡◌, ℕ, List, length, Some, Result, Ok, Contains}
use Rattle.model_steps.specs.Distinct.{AreDistinct}
use Rattle.model_steps.specs.Machine.{Machine, Reaches, OnEveryHistory, Extends}
use Rattle.model_steps.specs.Participant.{program_of}
use Rattle.model_steps.specs.Runs.{AnswersAsDue}
use Rattle.model_snapshot.specs.declared.client.Client.{Client}
use Rattle.model_steps.specs.declared.refusal.Refusal.{Refusal}
use Rattle.model_snapshot.specs.declared.client.SnapReply.{SnapReply}
use Rattle.model_snapshot.specs.declared.client.SnapReply.TheVariants.{Placed}
use Rattle.model_snapshot.specs.Places.{KnownPlaces, BoundsScans}
use Rattle.model_snapshot.specs.SnapWorld.{SnapState, place_in, ways_of, beginner_at, clients_over, snap_answer, after_snap_step, IsAccessFor}
use Rattle.model_snapshot.specs.SnapCalls.{SnapCall, fresh_over, next, IsReply}
use Rattle.model_snapshot.specs.SnapCalls.SnapCall.{Stepped}
use Rattle.model_snapshot.specs.Snapshot.{SnapBounds, SnapshotSpec, bounds_over, observed, Allows, new_object}

module _ {S R V U K : Type 0} (t : KnownPlaces S R V U K) where
  -- if nothing was written at first, this holds within all bounds that leave room for as many collects as there may be
  abbrev pub WithinBounds : S → (SnapBounds → Type 0) → Type 0
  WithinBounds first Holds = t.ties.IsNew first → (scanning : ℕ → ℕ) → BoundsScans t (t.most_of first) scanning → Holds (bounds_over t first scanning)

  -- a snapshot object over any memory, and what it keeps
  abbrev pub snapshot : Machine S (SnapState S U K) SnapCall
  snapshot = record {
    MayStart = λ first. Unit {0};
    first = fresh_over t;
    next = next t;
    IsReply = IsReply t;
    Spec = λ first r. WithinBounds first (λ bounds. SnapshotSpec bounds r);
    RefusesAsDue = λ first r. WithinBounds first (λ bounds. AnswersAsDue observed (Allows bounds) new_object r);
  }

  -- this holds of every list of calls that leads to this object from places in which nothing was written
  abbrev pub OnEveryHistoryFromNew : (S → List SnapCall → Type 0) → SnapState S U K → Type 0
  OnEveryHistoryFromNew Holds w = OnEveryHistory snapshot (λ first r. t.ties.IsNew first → Holds first r) w

  -- every list of calls that leads to this object from a fresh one over this memory satisfies the specification within
  -- these bounds
  abbrev pub SatisfiesSpecFrom : S → SnapBounds → SnapState S U K → Type 0
  SatisfiesSpecFrom first bounds w = (r : List SnapCall) → Reaches snapshot first w r → SnapshotSpec bounds r

  -- the next access of p is one for what p has to do
  abbrev pub MakesOwnAccess : SnapState S U K → ℕ → Type 0
  MakesOwnAccess w p = OnEveryHistoryFromNew (λ first r. (c : Client U K) → program_of p w.participants ≡ Some c → IsAccessFor t w.memory c c.pending ((clients_over t).next c)) w

  -- p would begin in the same state in any two objects over places of one size, after any calls
  abbrev pub BeginsTheSame : ℕ → Type 0
  BeginsTheSame p = (first other : S) (w x : SnapState S U K) (r s : List SnapCall) → t.ties.IsNew first → t.ties.IsNew other → t.most_of first ≡ t.most_of other →
      Reaches snapshot first w r → Reaches snapshot other x s → beginner_at t w p ≡ beginner_at t x p

  -- no two participants have one place
  abbrev pub HasDistinctPlaces : SnapState S U K → Type 0
  HasDistinctPlaces w = OnEveryHistoryFromNew (λ first r. AreDistinct (place_in t w)) w

  -- the memory agrees with the ways of the participants that have begun
  abbrev pub IsConsistentAfter : SnapState S U K → Type 0
  IsConsistentAfter w = OnEveryHistoryFromNew (λ first r. t.ties.IsConsistent w.memory (length w.participants) (ways_of w.participants)) w

  -- if a step of p has returned a place, p has that place
  abbrev pub KeepsReported : SnapState S U K → ℕ → Type 0
  KeepsReported w p = OnEveryHistoryFromNew (λ first r. (place : ℕ) → Contains r (Stepped p (Ok (Placed place))) → place_in t w p ≡ Some place) w

  -- a step of p that returns its due reply, and leaves its due state, extends the history
  abbrev pub StepExtends : SnapState S U K → ℕ → Type 0
  StepExtends w p = (new : SnapState S U K) (reply : Result SnapReply Refusal) → new ≡ after_snap_step t w p → reply ≡ snap_answer t w p → Extends snapshot w new (Stepped p reply)
