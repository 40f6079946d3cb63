-- the calls of a snapshot object, each with what it answers and leaves
use Rattle.std.proofs.Common.{◌≡◌, ◌≢◌, ℕ, true, false, Some, None, Result, Ok, Err, OnErr, inl, inr, refl, sym, ap, ◌∙◌, option_map}
use Rattle.model_snapshot.proofs.WorldCommon.{Pending, Note, Quiet, Read, Refusal, NotBegun, Finished, NoMemory, program_of, lacked_memory, reply_of, snapshot, Participant, Client, SnapReply, KnownPlaces, is_idle, access_for, Began, Updated, Scanned, Stepped}
use Rattle.model_snapshot.specs.declared.client.Pending.TheVariants.{Nothing, Placing}
use Rattle.model_steps.specs.World.{begin_refusal, done_unless, step_answer, after_step}
use Rattle.model_steps.proofs.cited.StepLemmas.{lacks_or_not}
use Rattle.model_snapshot.proofs.cited.SnapWorldLemmas.{after_stepped}
use Rattle.model_steps.specs.Machine.{Extends}
use Rattle.model_steps.proofs.cited.MachineLemmas.{call_leads_on}
use Rattle.model_steps.specs.Locality.{ReadsNext, IsTaken}
use Rattle.model_snapshot.specs.SnapWorld.{SnapState, after_snap_begin, scan_refusal, update_refusal, after_scan, after_update, reported, clients_over, snap_answer, after_snap_step, may_lack_memory}

-- what was accepted was not refused because an allocation failed, and what a refusal keeps is kept
pub no_lack : {X : Type 0} (x : X) → ◌≡◌ {A = Result X Refusal} (Ok x) (Err NoMemory) → ⊥
no_lack x e = cc

pub kept_at : {X : Type 0} (P : Type 0) (result : Result X Refusal) → OnErr result P → result ≡ Err NoMemory → P
kept_at P (Ok x) h e = absurd (cc)
kept_at P (Err why) h e = h

module _ {S R V U K : Type 0} (t : KnownPlaces S R V U K) where
  -- a call that is no step leads on
  pub begun_leads_on : (w new : SnapState S U K) (id : ℕ) (reply : Result (Unit {0}) Refusal) → new ≡ after_snap_begin t w id → reply ≡ done_unless (begin_refusal w id) → Extends (snapshot t) w new (Began id reply)
  begun_leads_on w new id reply = call_leads_on (snapshot t) w new (Began id reply)

  pub updated_leads_on : (w new : SnapState S U K) (id value : ℕ) (reply : Result (Unit {0}) Refusal) → new ≡ after_update w id value → reply ≡ done_unless (update_refusal w id) → Extends (snapshot t) w new (Updated id value reply)
  updated_leads_on w new id value reply = call_leads_on (snapshot t) w new (Updated id value reply)

  pub scanned_leads_on : (w new : SnapState S U K) (id : ℕ) (reply : Result (Unit {0}) Refusal) → new ≡ after_scan w id → reply ≡ done_unless (scan_refusal w id) → Extends (snapshot t) w new (Scanned id reply)
  scanned_leads_on w new id reply = call_leads_on (snapshot t) w new (Scanned id reply)

  -- one more step
  pub after_step_call : (w new : SnapState S U K) (id : ℕ) (reply : Result SnapReply Refusal) →
      (reply ≢ Err NoMemory → new ≡ after_snap_step t w id) → (reply ≢ Err NoMemory → reply ≡ snap_answer t w id) →
      (reply ≡ Err NoMemory → (new ≡ w) × (may_lack_memory t w id ≡ true)) → Extends (snapshot t) w new (Stepped id reply)
  after_step_call w new id reply e is lack = elim (lacks_or_not reply) [
    | inr goes ↦ after_stepped t w new id reply (e goes) (is goes)
    | inl h ↦
        let refused = lack h in
        let lacked : lacked_memory reply ≡ true = rw h refl in
        call_leads_on (snapshot t) w new (Stepped id reply) (refused.0 ∙ rw lacked refl) (inr (h, refused.1))
  ]

  -- one who has something to do takes a step of the world
  busy_state : (w : SnapState S U K) (id : ℕ) (c : Client U K) → Some c ≡ program_of id w.participants → is_idle c.pending ≡ false → after_snap_step t w id ≡ after_step (clients_over t) t.memory w id
  busy_state w id c h busy = let e = sym h in rw (e, busy) refl

  busy_answer : (w : SnapState S U K) (id : ℕ) (c : Client U K) → Some c ≡ program_of id w.participants → is_idle c.pending ≡ false → snap_answer t w id ≡ reply_of reported (step_answer (clients_over t) t.memory w id)
  busy_answer w id c h busy = let e = sym h in rw (e, busy) refl

  -- a step that is answered so
  pub record Step (w : SnapState S U K) (id : ℕ) (new : SnapState S U K) (reply : Result SnapReply Refusal) : Type 0 where
    pub answer : reply ≢ Err NoMemory → reply ≡ snap_answer t w id
    pub state : reply ≢ Err NoMemory → new ≡ after_snap_step t w id

  pub no_step_of_nobody : (w : SnapState S U K) (id : ℕ) → program_of id w.participants ≡ None → Step w id w (Err NotBegun)
  no_step_of_nobody w id e = record { answer = λ goes. rw e refl; state = λ goes. rw e refl }

  pub no_step_of_idle : (w : SnapState S U K) (id : ℕ) (c : Client U K) → program_of id w.participants ≡ Some c → is_idle c.pending ≡ true → Step w id w (Err Finished)
  no_step_of_idle w id c e idle = record { answer = λ goes. rw (e, idle) refl; state = λ goes. rw (e, idle) refl }

  pub record BusyStep (w : SnapState S U K) (id : ℕ) (new : SnapState S U K) (reply : Result SnapReply Refusal) : Type 0 where
    pub step : Step w id new reply
    pub refused : OnErr reply (new ≡ w)
    pub no_memory : reply ≡ Err NoMemory → may_lack_memory t w id ≡ true

  refused_too : (P : Type 0) (result : Result (Note SnapReply) Refusal) → OnErr result P → OnErr (reply_of reported result) P
  refused_too P (Ok note) h = tt
  refused_too P (Err why) h = h

  lacked_too : (result : Result (Note SnapReply) Refusal) → reply_of reported result ≡ Err NoMemory → result ≡ Err NoMemory
  lacked_too (Ok note) h = absurd (cc)
  lacked_too (Err why) h = cc

  -- that of one who has something to do is a step of the world
  pub busy_step : (w : SnapState S U K) (id : ℕ) (c : Client U K) → program_of id w.participants ≡ Some c → is_idle c.pending ≡ false → (new : SnapState S U K) (result : Result (Note SnapReply) Refusal) →
      (result ≢ Err NoMemory → result ≡ step_answer (clients_over t) t.memory w id) → (result ≢ Err NoMemory → new ≡ after_step (clients_over t) t.memory w id) →
      OnErr result (new ≡ w) → (result ≡ Err NoMemory → may_lack_memory t w id ≡ true) → (reply : Result SnapReply Refusal) → reply ≡ reply_of reported result → BusyStep w id new reply
  busy_step w id c e busy new result answer after kept lacks reply is =
      let made : reply ≢ Err NoMemory → result ≢ Err NoMemory = λ goes h. goes (is ∙ ap (reply_of reported) h) in
      record {
        step = record {
          answer = λ goes. is ∙ ap (reply_of reported) (answer (made goes)) ∙ sym (busy_answer w id c (sym e) busy);
          state = λ goes. after (made goes) ∙ sym (busy_state w id c (sym e) busy);
        };
        refused = rw is (refused_too (new ≡ w) result kept);
        no_memory = λ h. lacks (lacked_too result (sym is ∙ h));
      }

  -- one whose next access is a read has something to do
  reads_busy : (c : Client U K) (pending : Pending) (r : R) → access_for t.walker t.place_of t.walks c pending ≡ Read r → is_idle pending ≡ false
  reads_busy c Nothing r h = absurd (cc)
  reads_busy c pending r h = refl

  pub reads_state : (w : SnapState S U K) (id : ℕ) → ReadsNext (clients_over t) w id → after_snap_step t w id ≡ after_step (clients_over t) t.memory w id
  reads_state w id h =
      let here : Some h.0.program ≡ program_of id w.participants = sym (ap (option_map (λ (v : Participant (Client U K)). v.program)) h.2) in
      busy_state w id h.0.program here (reads_busy h.0.program h.0.program.pending h.1 h.3)

  pub reads_answer : (w : SnapState S U K) (id : ℕ) → ReadsNext (clients_over t) w id → step_answer (clients_over t) t.memory w id ≡ Ok Quiet → snap_answer t w id ≡ Ok (reported Quiet)
  reads_answer w id h e =
      let here : Some h.0.program ≡ program_of id w.participants = sym (ap (option_map (λ (v : Participant (Client U K)). v.program)) h.2) in
      busy_answer w id h.0.program here (reads_busy h.0.program h.0.program.pending h.1 h.3) ∙ ap (reply_of reported) e

  -- so has one on its way to its place
  pub way_state : (w : SnapState S U K) (id : ℕ) → IsTaken (λ c. c.pending ≡ Placing) w id → after_snap_step t w id ≡ after_step (clients_over t) t.memory w id
  way_state w id h =
      let here : Some h.0.program ≡ program_of id w.participants = sym (ap (option_map (λ (v : Participant (Client U K)). v.program)) h.1) in
      busy_state w id h.0.program here (ap is_idle h.2)

  pub way_answer : (w : SnapState S U K) (id : ℕ) (note : Note SnapReply) → IsTaken (λ c. c.pending ≡ Placing) w id → step_answer (clients_over t) t.memory w id ≡ Ok note → snap_answer t w id ≡ Ok (reported note)
  way_answer w id note h e =
      let here : Some h.0.program ≡ program_of id w.participants = sym (ap (option_map (λ (v : Participant (Client U K)). v.program)) h.1) in
      busy_answer w id h.0.program here (ap is_idle h.2) ∙ ap (reply_of reported) e
