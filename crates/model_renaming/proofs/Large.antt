-- no call of a snapshot object but `begin` changes who takes part
use Rattle.std.proofs.Common.{◌≡◌, ℕ, true, false, cond, length, Option, Some, None, refl, ◌∙◌}
use Rattle.model_renaming.proofs.Common.{Participant, Refusal, participant_of, program_of, identities, beginner, resumed, length-with_participant, Client, is_idle, updating, scanning, KnownPlaces}
use Rattle.model_steps.specs.World.{after_step, after_step_by, got_by}
use Rattle.model_steps.proofs.cited.DistinctParticipants.{identities-put}
use Rattle.model_snapshot.specs.SnapWorld.{SnapState, clients_over, asked, after_scan, after_update, scan_refusal, update_refusal, after_snap_step, after_snap_by}

-- the same take part as before, and there is room for as many
pub record IsAsLarge {S U K : Type 0} (w new : SnapState S U K) : Type 0 where
  pub most : new.most ≡ w.most
  pub many : length new.participants ≡ length w.participants
  pub same : identities new.participants ≡ identities w.participants

pub both_large : {S U K : Type 0} (a b c : SnapState S U K) → IsAsLarge a b → IsAsLarge b c → IsAsLarge a c
both_large a b c h k = record { most = k.most ∙ h.most; many = k.many ∙ h.many; same = k.same ∙ h.same }

module _ {S U K : Type 0} (w : SnapState S U K) (p : ℕ) where
  asked_large : (asking : Client U K → Client U K) (c : Option (Client U K)) (why : Option Refusal) → IsAsLarge w (asked w p asking c why)
  asked_large asking None why = record { most = refl; many = refl; same = refl }
  asked_large asking (Some c) None = record { most = refl; many = length-with_participant w.participants (beginner p (asking c)); same = identities-put w.participants (beginner p (asking c)) }
  asked_large asking (Some c) (Some why) = record { most = refl; many = refl; same = refl }

  pub scan_large : IsAsLarge w (after_scan w p)
  scan_large = asked_large scanning (program_of p w.participants) (scan_refusal w p)

  pub update_large : (value : ℕ) → IsAsLarge w (after_update w p value)
  update_large value = asked_large (λ c. updating c value) (program_of p w.participants) (update_refusal w p)

module _ {S R V U K : Type 0} (W : KnownPlaces S R V U K) where
  step_large_by : (w : SnapState S U K) (o : Option (Participant (Client U K))) → IsAsLarge w (after_step_by (clients_over W) W.memory w o)
  step_large_by w None = record { most = refl; many = refl; same = refl }
  step_large_by w (Some v) = elim v.ended as (λ b. IsAsLarge w (after_step_by (clients_over W) W.memory w (Some (record { identity = v.identity; program = v.program; ended = b })))) [
    | true ↦ record { most = refl; many = refl; same = refl }
    | false ↦ record { most = refl; many = length-with_participant w.participants (resumed (clients_over W) v (got_by (clients_over W) W.memory w.memory v)); same = identities-put w.participants (resumed (clients_over W) v (got_by (clients_over W) W.memory w.memory v)) }
  ]

  snap_large_by : (w : SnapState S U K) (p : ℕ) (o : Option (Client U K)) → IsAsLarge w (after_snap_by W w p o)
  snap_large_by w p None = record { most = refl; many = refl; same = refl }
  snap_large_by w p (Some c) = elim (is_idle c.pending) as (λ b. IsAsLarge w (cond b w (after_step (clients_over W) W.memory w p))) [ true ↦ record { most = refl; many = refl; same = refl } | false ↦ step_large_by w (participant_of p w.participants) ]

  pub snap_large : (w : SnapState S U K) (p : ℕ) → IsAsLarge w (after_snap_step W w p)
  snap_large w p = snap_large_by w p (program_of p w.participants)
