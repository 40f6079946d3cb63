-- the calls of a snapshot object
use Rattle.std.proofs.Common.{◌≡◌, ℕ, true, false, cond, Option, Some, None, Result, Err, inl, refl, sym, ap, ◌∙◌, option_map}
use Rattle.model_snapshot.proofs.Common.{Refusal, Finished, program_of, lacked_memory, reply_of, snapshot, Participant, Client, SnapReply, KnownPlaces, is_idle, scanning, updating, SnapCall, next, Began, Updated, Scanned, Stepped}
use Rattle.model_steps.specs.World.{begin_refusal, begun_unless, step_answer, after_step}
use Rattle.model_steps.proofs.cited.StepLemmas.{most_stepped, lacks_none}
use Rattle.model_steps.specs.Machine.{Extends}
use Rattle.model_steps.proofs.cited.MachineLemmas.{call_leads_on}
use Rattle.model_steps.specs.Locality.{Indistinguishable, StandAlike}
use Rattle.model_steps.proofs.cited.LocalityLemmas.{answers_alike, stand_alike}
use Rattle.model_snapshot.specs.SnapWorld.{SnapState, beginner_at, scan_refusal, update_refusal, asked, reported, clients_over, snap_answer, snap_answer_by, after_snap_step, after_snap_by, StaysAlike}

module _ {S R V U K : Type 0} (t : KnownPlaces S R V U K) where
  most_asked : (w : SnapState S U K) (id : ℕ) (asking : Client U K → Client U K) (c : Option (Client U K)) (why : Option Refusal) → (asked w id asking c why).most ≡ w.most
  most_asked w id asking None why = refl
  most_asked w id asking (Some c) None = refl
  most_asked w id asking (Some c) (Some why) = refl

  most_snap : (w : SnapState S U K) (id : ℕ) (o : Option (Client U K)) → (after_snap_by t w id o).most ≡ w.most
  most_snap w id None = refl
  most_snap w id (Some c) = elim (is_idle c.pending) as (λ b. (cond b w (after_step (clients_over t) t.memory w id)).most ≡ w.most) [ true ↦ refl | false ↦ most_stepped (clients_over t) t.memory w id ]

  pub most_kept : (w : SnapState S U K) (h : SnapCall) → (next t w h).most ≡ w.most
  most_kept w (Began id reply) = elim (begin_refusal w id) as (λ o. (begun_unless o w id (beginner_at t w id)).most ≡ w.most) [ None ↦ refl | Some why ↦ refl ]
  most_kept w (Updated id value reply) = most_asked w id (λ c. updating c value) (program_of id w.participants) (update_refusal w id)
  most_kept w (Scanned id reply) = most_asked w id scanning (program_of id w.participants) (scan_refusal w id)
  most_kept w (Stepped id reply) = elim (lacked_memory reply) as (λ b. (cond b w (after_snap_step t w id)).most ≡ w.most) [ true ↦ refl | false ↦ most_snap w id (program_of id w.participants) ]

  snap_lacks_none : (w : SnapState S U K) (id : ℕ) (o : Option (Client U K)) → lacked_memory (snap_answer_by t w id o) ≡ false
  snap_lacks_none w id None = refl
  snap_lacks_none w id (Some c) = elim (is_idle c.pending) as (λ b. lacked_memory (cond b (Err Finished) (reply_of reported (step_answer (clients_over t) t.memory w id))) ≡ false) [ true ↦ refl | false ↦ lacks_none (clients_over t) t.memory reported w id ]

  -- one more step for which no growth was refused
  pub after_stepped : (w new : SnapState S U K) (id : ℕ) (reply : Result SnapReply Refusal) → new ≡ after_snap_step t w id → reply ≡ snap_answer t w id → Extends (snapshot t) w new (Stepped id reply)
  after_stepped w new id reply e is =
      let goes : lacked_memory reply ≡ false = ap lacked_memory is ∙ snap_lacks_none w id (program_of id w.participants) in
      call_leads_on (snapshot t) w new (Stepped id reply) (e ∙ rw goes refl) (inl is)

  -- one who has something to do takes a step of the world
  pub busy_state : (w : SnapState S U K) (id : ℕ) (c : Client U K) → Some c ≡ program_of id w.participants → is_idle c.pending ≡ false → after_snap_step t w id ≡ after_step (clients_over t) t.memory w id
  busy_state w id c h busy = let e = sym h in rw (e, busy) refl

  pub busy_answer : (w : SnapState S U K) (id : ℕ) (c : Client U K) → Some c ≡ program_of id w.participants → is_idle c.pending ≡ false → snap_answer t w id ≡ reply_of reported (step_answer (clients_over t) t.memory w id)
  busy_answer w id c h busy = let e = sym h in rw (e, busy) refl

  answer_by_alike : (w other : SnapState S U K) (p : ℕ) → Indistinguishable (clients_over t) t.memory p w other → (o : Option (Client U K)) → snap_answer_by t w p o ≡ snap_answer_by t other p o
  answer_by_alike w other p alike None = refl
  answer_by_alike w other p alike (Some c) = ap (λ (x : Result SnapReply Refusal). cond (is_idle c.pending) (Err Finished) x) (ap (reply_of reported) (answers_alike (clients_over t) t.memory p w other alike))

  -- what a participant is answered depends on what it sees
  pub snap_alike : (w other : SnapState S U K) (p : ℕ) → Indistinguishable (clients_over t) t.memory p w other → snap_answer t w p ≡ snap_answer t other p
  snap_alike w other p alike =
      let same : program_of p w.participants ≡ program_of p other.participants = ap (option_map (λ (v : Participant (Client U K)). v.program)) alike.participant in
      rw (← same) (answer_by_alike w other p alike (program_of p w.participants))

  stand_by : (w other : SnapState S U K) (p : ℕ) → Indistinguishable (clients_over t) t.memory p w other → (o : Option (Client U K)) → StandAlike p (after_snap_by t w p o) (after_snap_by t other p o)
  stand_by w other p alike None = alike.participant
  stand_by w other p alike (Some c) = elim (is_idle c.pending) as (λ b. StandAlike p (cond b w (after_step (clients_over t) t.memory w p)) (cond b other (after_step (clients_over t) t.memory other p))) [
    | true ↦ alike.participant
    | false ↦ stand_alike (clients_over t) t.memory p w other alike
  ]

  -- where a participant then stands depends on what it sees
  pub stays_alike : (w new : SnapState S U K) (p : ℕ) → new ≡ after_snap_step t w p → StaysAlike t w new p
  stays_alike w new p state other alike =
      let same : program_of p w.participants ≡ program_of p other.participants = ap (option_map (λ (v : Participant (Client U K)). v.program)) alike.participant in
      rw (state, ← same) (stand_by w other p alike (program_of p w.participants))
