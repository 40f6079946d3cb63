-- a participant of a snapshot object from outside: whether something of it is pending, and how many updates it was
-- asked for
use Rattle.std.specs.Prelude.{◌≡◌, ◌≢◌, ℕ, ◌+◌, Bool, true, false, not, is_some, ◌<◌, ◌≤◌, length, Some, None, Ok, Err}
use Rattle.model_steps.specs.declared.participant.Participant.{Participant}
use Rattle.model_steps.specs.declared.refusal.Refusal.TheVariants.{AlreadyBegun, Finished, Spent}
use Rattle.model_steps.specs.Participant.{participant_of}
use Rattle.model_steps.specs.World.{begin_refusal}
use Rattle.model_snapshot.specs.declared.client.Client.{Client}
use Rattle.model_snapshot.specs.declared.client.SnapReply.{SnapReply}
use Rattle.model_snapshot.specs.declared.client.SnapReply.TheVariants.{Quiet}
use Rattle.model_snapshot.specs.Client.{is_idle}
use Rattle.model_snapshot.specs.Places.{KnownPlaces}
use Rattle.model_snapshot.specs.SnapWorld.{SnapState, after_snap_begin, scan_refusal, update_refusal, after_scan, after_update, snap_answer, after_snap_step}

abbrev pub is_quiet : SnapReply → Bool
is_quiet Quiet = true
is_quiet s = false

-- p takes part, something of it is pending or not, and it was asked for this many updates
pub record StandsAt {S U K : Type 0} (w : SnapState S U K) (p : ℕ) (idle : Bool) (updates : ℕ) : Type 0 where
  pub who : Participant (Client U K)
  pub is : participant_of p w.participants ≡ Some who
  pub goes : who.ended ≡ false
  pub idle_is : is_idle who.program.pending ≡ idle
  pub updates_is : who.program.updates ≡ updates

-- p is in this state in the new object, which is as large as the old one. No other participant has changed
pub record ComesTo {S U K : Type 0} (w new : SnapState S U K) (p : ℕ) (idle : Bool) (updates : ℕ) : Type 0 where
  pub stands : StandsAt new p idle updates
  pub others : (q : ℕ) → q ≢ p → participant_of q new.participants ≡ participant_of q w.participants
  pub most : new.most ≡ w.most
  pub many : length new.participants ≡ length w.participants

-- p begins on this object. It has nothing pending if and only if it has its place at once, and no other participant
-- changes
pub record HasBegun {S R V U K : Type 0} (t : KnownPlaces S R V U K) (w : SnapState S U K) (p : ℕ) : Type 0 where
  pub stands : StandsAt (after_snap_begin t w p) p (is_some (t.place_of (t.walker_from (length w.participants) p))) 0
  pub others : (q : ℕ) → q ≢ p → participant_of q (after_snap_begin t w p).participants ≡ participant_of q w.participants
  pub many : length (after_snap_begin t w p).participants ≡ length w.participants + 1

-- the replies to p while nothing of it is pending. A scan is accepted, and an update unless 1,000,000 were asked for
pub record GoesIdle {S R V U K : Type 0} (t : KnownPlaces S R V U K) (w : SnapState S U K) (p updates : ℕ) : Type 0 where
  pub scan : scan_refusal w p ≡ None
  pub scans : ComesTo w (after_scan w p) p false updates
  pub update : updates < 1000000 → update_refusal w p ≡ None
  pub more : updates < 1000000 → (value : ℕ) → ComesTo w (after_update w p value) p false (updates + 1)
  pub spent : 1000000 ≤ updates → update_refusal w p ≡ Some Spent
  pub finished : snap_answer t w p ≡ Err Finished

-- the replies to p while something of it is pending. A step is accepted, and leaves nothing pending if and only if its
-- reply is not quiet
pub record GoesBusy {S R V U K : Type 0} (t : KnownPlaces S R V U K) (w : SnapState S U K) (p updates : ℕ) : Type 0 where
  pub scan : scan_refusal w p ≡ Some AlreadyBegun
  pub update : update_refusal w p ≡ Some AlreadyBegun
  pub reply : SnapReply
  pub answer : snap_answer t w p ≡ Ok reply
  pub comes : ComesTo w (after_snap_step t w p) p (not (is_quiet reply)) updates

module _ {S R V U K : Type 0} (t : KnownPlaces S R V U K) (w : SnapState S U K) (p : ℕ) where
  abbrev pub BeginsSo : Type 0
  BeginsSo = begin_refusal w p ≡ None → HasBegun t w p

  abbrev pub GoesSoIdle : Type 0
  GoesSoIdle = (n : ℕ) → StandsAt w p true n → GoesIdle t w p n

  abbrev pub GoesSoBusy : Type 0
  GoesSoBusy = (n : ℕ) → StandsAt w p false n → GoesBusy t w p n
