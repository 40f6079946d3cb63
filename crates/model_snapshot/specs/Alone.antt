-- how soon one ends what it does while no other steps (this project's profile)
use Rattle.std.specs.Prelude.{◌≡◌, ◌≢◌, ◌≤◌, ℕ, zero, suc, ◌+◌, ◌-◌, ◌*◌, false, ◌⊎◌, Ok}
use Rattle.model_steps.specs.Participant.{participant_of}
use Rattle.model_snapshot.specs.declared.client.SnapReply.{SnapReply}
use Rattle.model_snapshot.specs.Places.{KnownPlaces}
use Rattle.model_snapshot.specs.Machine.{OnEveryHistoryFromNew}
use Rattle.model_snapshot.specs.Snapshot.{SnapObject, SnapBounds, SnapshotSpec}
use Rattle.model_snapshot.specs.Snapshot.Task.{Absent, Scanning, Updating}
use Rattle.model_snapshot.specs.SnapWorld.{SnapState, snap_answer, after_snap_step}
use Rattle.model_snapshot.specs.Standing.{is_quiet}

module _ {S R V U K : Type 0} (t : KnownPlaces S R V U K) where
  -- the next step of p ends what it does: its reply is not quiet
  abbrev pub IsLastStep : SnapState S U K → ℕ → Type 0
  IsLastStep w p = (reply : SnapReply) × (snap_answer t w p ≡ Ok reply) × (is_quiet reply ≡ false)

  -- p ends what it does within its next n steps, if no other participant steps
  abbrev pub EndsAlone : SnapState S U K → ℕ → ℕ → Type 0
  EndsAlone w p zero = ⊥
  EndsAlone w p (suc n) = IsLastStep w p ⊎ EndsAlone (after_snap_step t w p) p n

  -- the most reads of one collect
  abbrev pub most_reads : SnapState S U K → ℕ
  most_reads w = t.ties.reads w.most w.most

  -- In a solo run a scan that has read nothing makes two collects. Any other scan has at most one read less than three
  -- collects left. An update writes once after its scan. If a participant has begun, a collect has a read
  pub record EndsSoon (w : SnapState S U K) (o : SnapObject) (p : ℕ) : Type 0 where
    pub some : o.task p ≢ Absent → 1 ≤ most_reads w
    pub new_scan : o.task p ≡ Scanning → o.steps p ≡ 0 → EndsAlone w p (2 * most_reads w)
    pub scan : o.task p ≡ Scanning → EndsAlone w p (3 * most_reads w - 1)
    pub new_update : (value : ℕ) → o.task p ≡ Updating value → o.steps p ≡ 0 → EndsAlone w p (2 * most_reads w + 1)
    pub update : (value : ℕ) → o.task p ≡ Updating value → EndsAlone w p (3 * most_reads w)

  -- after every list of calls
  abbrev pub EndsSoonAlone : SnapState S U K → ℕ → Type 0
  EndsSoonAlone w p = OnEveryHistoryFromNew t (λ first r. (bounds : SnapBounds) (law : SnapshotSpec bounds r) → EndsSoon w law.0 p) w

  -- steps of others that write nothing do not change how soon p ends
  abbrev pub EndsAlike : SnapState S U K → SnapState S U K → ℕ → Type 0
  EndsAlike w other p = other.memory ≡ w.memory → participant_of p other.participants ≡ participant_of p w.participants →
      (n : ℕ) → EndsAlone w p n → EndsAlone other p n
