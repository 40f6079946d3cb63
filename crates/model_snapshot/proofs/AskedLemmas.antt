-- what is asked of a participant, where that is refused and where it is not
use Rattle.std.proofs.Common.{◌≡◌, ℕ, true, false, ◌<◌, ◌≤◌, Option, Some, None, option_map, Result, Err, Ok, refl, sym, ap, ◌∙◌}
use Rattle.std.proofs.lemmas.Bool.{le-ltb, lt-ltb}
use Rattle.std.proofs.lemmas.Option.{none-some}
use Rattle.model_snapshot.proofs.WorldCommon.{Refusal, Spent, NotBegun, Participant, participant_of, program_of, Client, SnapState, is_idle, scanning, updating, after_scan, after_update, scan_refusal, update_refusal, scan_refusal_by, update_refusal_by}
use Rattle.model_steps.specs.declared.refusal.Refusal.TheVariants.{AlreadyBegun}
use Rattle.model_steps.specs.World.{set_answer, set_answer_by, after_asked, done_unless}
use Rattle.model_snapshot.specs.SnapWorld.{asked}

module _ {S U K : Type 0} (w : SnapState S U K) (id : ℕ) where
  not_asked : (asking : Client U K → Client U K) (c : Option (Client U K)) (why : Option Refusal) (refusal : Refusal) → why ≡ Some refusal → w ≡ asked w id asking c why
  not_asked asking None why refusal h = refl
  not_asked asking (Some c) why refusal h = rw h refl

  -- a scan that is refused for this reason
  pub record NoScan (why : Refusal) : Type 0 where
    pub answer : Err why ≡ done_unless (scan_refusal w id)
    pub state : w ≡ after_scan w id

  -- an update that is refused for this reason
  pub record NoUpdate (value : ℕ) (why : Refusal) : Type 0 where
    pub answer : Err why ≡ done_unless (update_refusal w id)
    pub state : w ≡ after_update w id value

  no_scan : (why : Refusal) (c : Option (Client U K)) → program_of id w.participants ≡ c → scan_refusal_by c ≡ Some why → NoScan why
  no_scan why c e h =
      let refused : scan_refusal w id ≡ Some why = rw e h in
      record { answer = ap done_unless (sym refused); state = not_asked scanning (program_of id w.participants) (scan_refusal w id) why refused }

  no_update : (value : ℕ) (why : Refusal) (c : Option (Client U K)) → program_of id w.participants ≡ c → update_refusal_by c ≡ Some why → NoUpdate value why
  no_update value why c e h =
      let refused : update_refusal w id ≡ Some why = rw e h in
      record { answer = ap done_unless (sym refused); state = not_asked (λ c. updating c value) (program_of id w.participants) (update_refusal w id) why refused }

  pub no_scan_of_nobody : program_of id w.participants ≡ None → NoScan NotBegun
  no_scan_of_nobody e = no_scan NotBegun None e refl

  pub no_scan_of_busy : (c : Client U K) → program_of id w.participants ≡ Some c → is_idle c.pending ≡ false → NoScan AlreadyBegun
  no_scan_of_busy c e busy = no_scan AlreadyBegun (Some c) e (rw busy refl)

  pub no_update_of_nobody : (value : ℕ) → program_of id w.participants ≡ None → NoUpdate value NotBegun
  no_update_of_nobody value e = no_update value NotBegun None e refl

  pub no_update_of_busy : (value : ℕ) (c : Client U K) → program_of id w.participants ≡ Some c → is_idle c.pending ≡ false → NoUpdate value AlreadyBegun
  no_update_of_busy value c e busy = no_update value AlreadyBegun (Some c) e (rw busy refl)

  pub no_update_of_spent : (value : ℕ) (c : Client U K) → program_of id w.participants ≡ Some c → is_idle c.pending ≡ true → 1000000 ≤ c.updates → NoUpdate value Spent
  no_update_of_spent value c e idle most = no_update value Spent (Some c) e (rw (idle, le-ltb c.updates 1000000 most) refl)

  -- the request of one who has nothing to do
  pub record Scanned (new : SnapState S U K) (reply : Result (Unit {0}) Refusal) : Type 0 where
    pub answer : reply ≡ done_unless (scan_refusal w id)
    pub state : new ≡ after_scan w id
    pub spares : new.memory ≡ w.memory

  pub record Updated (value : ℕ) (new : SnapState S U K) (reply : Result (Unit {0}) Refusal) : Type 0 where
    pub answer : reply ≡ done_unless (update_refusal w id)
    pub state : new ≡ after_update w id value
    pub spares : new.memory ≡ w.memory

  is_set : (c : Client U K) (o : Option (Participant (Client U K))) → option_map (λ p. p.program) o ≡ Some c → set_answer_by o ≡ Ok tt
  is_set c None e = absurd (none-some c e)
  is_set c (Some p) e = refl

  pub scan_asked : (c : Client U K) → program_of id w.participants ≡ Some c → is_idle c.pending ≡ true → (new : SnapState S U K) (reply : Result (Unit {0}) Refusal) → reply ≡ set_answer w id → new ≡ after_asked scanning w id → Scanned new reply
  scan_asked c e idle new reply is becomes =
      let goes : scan_refusal w id ≡ None = rw (e, idle) refl in
      record { answer = is ∙ is_set c (participant_of id w.participants) e ∙ ap done_unless (sym goes); state = becomes ∙ rw (goes, e) refl; spares = rw (becomes, e) refl }

  pub update_asked : (value : ℕ) (c : Client U K) → program_of id w.participants ≡ Some c → is_idle c.pending ≡ true → c.updates < 1000000 → (new : SnapState S U K) (reply : Result (Unit {0}) Refusal) → reply ≡ set_answer w id → new ≡ after_asked (λ c. updating c value) w id → Updated value new reply
  update_asked value c e idle few new reply is becomes =
      let goes : update_refusal w id ≡ None = rw (e, idle, lt-ltb c.updates 1000000 few) refl in
      record { answer = is ∙ is_set c (participant_of id w.participants) e ∙ ap done_unless (sym goes); state = becomes ∙ rw (goes, e) refl; spares = rw (becomes, e) refl }
