-- the calls of a snapshot object with their replies, and the machine that they run on
use Rattle.std.specs.Prelude.{◌≡◌, ℕ, true, if◌then◌else◌, ◌⊎◌, [], Result, Err}
use Rattle.model_steps.specs.declared.refusal.Refusal.{Refusal}
use Rattle.model_steps.specs.declared.refusal.Refusal.TheVariants.{NoMemory}
use Rattle.model_steps.specs.World.{begin_refusal, done_unless}
use Rattle.model_steps.specs.Calls.{lacked_memory}
use Rattle.model_snapshot.specs.declared.client.SnapReply.{SnapReply}
use Rattle.model_snapshot.specs.Places.{KnownPlaces}
use Rattle.model_snapshot.specs.SnapWorld.{SnapState, after_snap_begin, scan_refusal, update_refusal, after_scan, after_update, snap_answer, after_snap_step, may_lack_memory}

-- a call with its reply
pub data SnapCall : Type 0 where
  Began : ℕ → Result (Unit {0}) Refusal → SnapCall
  Updated : ℕ → ℕ → Result (Unit {0}) Refusal → SnapCall
  Scanned : ℕ → Result (Unit {0}) Refusal → SnapCall
  Stepped : ℕ → Result SnapReply Refusal → SnapCall

-- an object over this memory in which nobody has begun
abbrev pub fresh_over : {S R V U K : Type 0} → KnownPlaces S R V U K → S → SnapState S U K
fresh_over t first = record { memory = first; most = t.most_of first; participants = [] }

module _ {S R V U K : Type 0} (t : KnownPlaces S R V U K) where
  -- the object after a call. A step that fails with `NoMemory` changes nothing
  abbrev pub next : SnapState S U K → SnapCall → SnapState S U K
  next w (Began id reply) = after_snap_begin t w id
  next w (Updated id value reply) = after_update w id value
  next w (Scanned id reply) = after_scan w id
  next w (Stepped id reply) = if lacked_memory reply then w else after_snap_step t w id

  -- the reply is the due one, or `NoMemory` at a step that may lack memory
  abbrev pub IsReply : SnapState S U K → SnapCall → Type 0
  IsReply w (Began id reply) = reply ≡ done_unless (begin_refusal w id)
  IsReply w (Updated id value reply) = reply ≡ done_unless (update_refusal w id)
  IsReply w (Scanned id reply) = reply ≡ done_unless (scan_refusal w id)
  IsReply w (Stepped id reply) = (reply ≡ snap_answer t w id) ⊎ ((reply ≡ Err NoMemory) × (may_lack_memory t w id ≡ true))
