-- what the calls of a snapshot object do to who takes part in it
use Rattle.std.proofs.Common.{◌≡◌, ℕ, ◌+◌, ◌<◌, ◌≤◌, Bool, true, false, not, cond, List, ◌++◌, ◌∷◌, [], Option, Some, None, refl, ap, ◌∙◌, arith, length-append, nat_lt, option_map, is_some}
use Rattle.model_snapshot.proofs.Common.{Answer, Participant, Note, Quiet, Said, Ended, Spent, ends, set_at, set_at-same, set_at-other, going_answer, going_after, let_in, Client, Pending, SnapReply, KnownPlaces, scan_view, SnapState, beginner_at, after_scan, after_update, scan_refusal, update_refusal, clients_over, after_snap_step, reported}
use Rattle.std.proofs.lemmas.Bool.{lt-ltb, le-ltb}
use Rattle.model_steps.specs.declared.access.Answer.TheVariants.{Value, WasSet, Done}
use Rattle.model_steps.specs.Participant.{participant_of, program_of, with_participant, beginner, resumed}
use Rattle.model_steps.specs.World.{begin_refusal, after_set, got_by}
use Rattle.model_steps.proofs.cited.ParticipantLemmas.{participant_of-push, participant_of-put, length-with_participant, identity_of}
use Rattle.model_snapshot.specs.declared.client.Pending.TheVariants.{Nothing, Placing, Scan, Update, Write as Writing}
use Rattle.model_snapshot.specs.Client.{is_idle, first_pending, client_after, client_note, after_for, note_for, is_placed, placed_note, pending_after, note_after, updating, scanning}
use Rattle.model_snapshot.specs.Standing.{is_quiet, StandsAt, ComesTo, HasBegun, GoesSoIdle, GoesSoBusy}

module _ {S U K : Type 0} (w : SnapState S U K) (p : ℕ) where
  -- who takes part is in the list
  program_there : (idle : Bool) (n : ℕ) → (h : StandsAt w p idle n) → program_of p w.participants ≡ Some h.who.program
  program_there idle n h = ap (option_map (λ v. v.program)) h.is

  -- another program for p
  module _ (idle : Bool) (n : ℕ) (h : StandsAt w p idle n) (c : Client U K) where
    put : (q : ℕ) → participant_of q (with_participant (beginner p c) w.participants) ≡ set_at (λ v. participant_of v w.participants) p (Some (beginner p c)) q
    put q = participant_of-put w.participants (beginner p c) (rw h.is refl) q

    set_comes : ComesTo w (after_set w p c) p (is_idle c.pending) c.updates
    set_comes = record {
      stands = record { who = beginner p c; is = put p ∙ set_at-same (λ v. participant_of v w.participants) p (Some (beginner p c)); goes = refl; idle_is = refl; updates_is = refl };
      others = λ q other. put q ∙ set_at-other (λ v. participant_of v w.participants) p (Some (beginner p c)) q other;
      most = refl;
      many = length-with_participant w.participants (beginner p c);
    }

  -- a scan, and an update, of one who has nothing pending
  module _ (n : ℕ) (h : StandsAt w p true n) where
    scan_is : after_scan w p ≡ after_set w p (scanning h.who.program)
    scan_is = rw (program_there true n h, h.idle_is) refl

    pub scan_goes : (scan_refusal w p ≡ None) × ComesTo w (after_scan w p) p false n
    scan_goes = (rw (program_there true n h, h.idle_is) refl, rw (scan_is, ← h.updates_is) (set_comes true n h (scanning h.who.program)))

    few : n < 1000000 → nat_lt h.who.program.updates 1000000 ≡ true
    few l = lt-ltb h.who.program.updates 1000000 (let e = h.updates_is in omega arith)

    update_is : (value : ℕ) → n < 1000000 → after_update w p value ≡ after_set w p (updating h.who.program value)
    update_is value l = rw (program_there true n h, h.idle_is, few l) refl

    pub update_goes : (value : ℕ) → n < 1000000 → (update_refusal w p ≡ None) × ComesTo w (after_update w p value) p false (n + 1)
    update_goes value l = (rw (program_there true n h, h.idle_is, few l) refl, rw (update_is value l, ← h.updates_is) (set_comes true n h (updating h.who.program value)))

    pub update_spent : 1000000 ≤ n → update_refusal w p ≡ Some Spent
    update_spent l = let spent : nat_lt h.who.program.updates 1000000 ≡ false = le-ltb h.who.program.updates 1000000 (let e = h.updates_is in omega arith) in rw (program_there true n h, h.idle_is, spent) refl

module _ {S R V U K : Type 0} (t : KnownPlaces S R V U K) where
  idle_first : (o : Option ℕ) → is_idle (first_pending o) ≡ is_some o
  idle_first None = refl
  idle_first (Some x) = refl

  pub has_begun : (w : SnapState S U K) (p : ℕ) → begin_refusal w p ≡ None → HasBegun t w p
  has_begun w p e =
      let c : Client U K = beginner_at t w p in
      let goes_in = let_in w p e in
      let put : (q : ℕ) → participant_of q (w.participants ++ beginner p c ∷ []) ≡ set_at (λ v. participant_of v w.participants) p (Some (beginner p c)) q = participant_of-push w.participants (beginner p c) goes_in.absent in
      record {
        stands = rw e (record { who = beginner p c; is = put p ∙ set_at-same (λ v. participant_of v w.participants) p (Some (beginner p c)); goes = refl; idle_is = idle_first (t.place_of c.walker); updates_is = refl });
        others = λ q other. rw e (put q ∙ set_at-other (λ v. participant_of v w.participants) p (Some (beginner p c)) q other);
        many = rw e (length-append w.participants (beginner p c ∷ []));
      }

  -- what one who has nothing pending is answered
  pub goes_idle : (w : SnapState S U K) (p : ℕ) → GoesSoIdle t w p
  goes_idle w p n h =
      let scanned = scan_goes w p n h in
      record {
        scan = scanned.0;
        scans = scanned.1;
        update = λ l. (update_goes w p n h 0 l).0;
        more = λ l value. (update_goes w p n h value l).1;
        spent = update_spent w p n h;
        finished = rw (program_there w p true n h, h.idle_is) refl;
      }

  -- what a participant that has something pending makes of an answer
  record Moves (c : Client U K) (after : Client U K) (note : Note SnapReply) : Type 0 where
    goes : ends note ≡ false
    idle : is_idle after.pending ≡ not (is_quiet (reported note))
    updates : after.updates ≡ c.updates

  placed_moves : (c : Client U K) (got : Answer V) → c.pending ≡ Placing → (n : Note ℕ) → Moves c (record c { walker = t.walker.resumed c.walker got; pending = cond (is_placed n) Nothing c.pending }) (placed_note n)
  placed_moves c got e Quiet = record { goes = refl; idle = ap is_idle e; updates = refl }
  placed_moves c got e (Said place) = record { goes = refl; idle = ap is_idle e; updates = refl }
  placed_moves c got e (Ended place) = record { goes = refl; idle = refl; updates = refl }

  read_moves : (c after : Client U K) → is_idle c.pending ≡ false → after.updates ≡ c.updates → (with_value : Option ℕ) (o : Option (List (ℕ × ℕ))) → after.pending ≡ pending_after o with_value c.pending → Moves c after (note_after o with_value)
  read_moves c after e u with_value None h = record { goes = refl; idle = ap is_idle h ∙ e; updates = u }
  read_moves c after e u None (Some view) h = record { goes = refl; idle = ap is_idle h; updates = u }
  read_moves c after e u (Some value) (Some view) h = record { goes = refl; idle = ap is_idle h; updates = u }

  moves_for : (c : Client U K) (got : Answer V) (pending : Pending) → c.pending ≡ pending → is_idle pending ≡ false → Moves c (after_for t.walker t.walks c pending got) (note_for t.walker t.walks c pending got)
  moves_for c got Nothing e busy = absurd (cc)
  moves_for c got Placing e busy = placed_moves c got e (t.walker.note c.walker got)
  moves_for c (Value got) Scan e busy = read_moves c (after_for t.walker t.walks c Scan (Value got)) (ap is_idle e) refl None (scan_view t.walks c.scan got) refl
  moves_for c (WasSet was) Scan e busy = record { goes = refl; idle = ap is_idle e; updates = refl }
  moves_for c Done Scan e busy = record { goes = refl; idle = ap is_idle e; updates = refl }
  moves_for c (Value got) (Update value) e busy = read_moves c (after_for t.walker t.walks c (Update value) (Value got)) (ap is_idle e) refl (Some value) (scan_view t.walks c.scan got) refl
  moves_for c (WasSet was) (Update value) e busy = record { goes = refl; idle = ap is_idle e; updates = refl }
  moves_for c Done (Update value) e busy = record { goes = refl; idle = ap is_idle e; updates = refl }
  moves_for c got (Writing value view) e busy = record { goes = refl; idle = refl; updates = refl }

  -- what one who has something pending is answered
  pub goes_busy : (w : SnapState S U K) (p : ℕ) → GoesSoBusy t w p
  goes_busy w p n h =
      let there = program_there w p false n h in
      let got : Answer V = got_by (clients_over t) t.memory w.memory h.who in
      let m : Moves h.who.program (client_after t.walker t.walks h.who.program got) (client_note t.walker t.walks h.who.program got) = moves_for h.who.program got h.who.program.pending refl h.idle_is in
      let new : Participant (Client U K) = resumed (clients_over t) h.who got in
      let own : new.identity ≡ p = identity_of p w.participants h.who h.is in
      let goes : after_snap_step t w p ≡ record { memory = t.memory.after w.memory ((clients_over t).next h.who.program); most = w.most; participants = with_participant new w.participants } =
      rw (there, h.idle_is) (going_after (clients_over t) t.memory w p h.who h.is h.goes) in
      let put_new : (q : ℕ) → participant_of q (with_participant new w.participants) ≡ set_at (λ v. participant_of v w.participants) p (Some new) q =
      λ q. participant_of-put w.participants new (rw (own, h.is) refl) q ∙ ap (λ (x : ℕ). set_at (λ v. participant_of v w.participants) x (Some new) q) own in
      record {
        scan = rw (there, h.idle_is) refl;
        update = rw (there, h.idle_is) refl;
        reply = reported (client_note t.walker t.walks h.who.program got);
        answer = rw (there, h.idle_is, going_answer (clients_over t) t.memory w p h.who h.is h.goes) refl;
        comes = rw goes (record {
          stands = record { who = new; is = put_new p ∙ set_at-same (λ v. participant_of v w.participants) p (Some new); goes = m.goes; idle_is = m.idle; updates_is = m.updates ∙ h.updates_is };
          others = λ q other. put_new q ∙ set_at-other (λ v. participant_of v w.participants) p (Some new) q other;
          most = refl;
          many = length-with_participant w.participants new;
        });
      }
