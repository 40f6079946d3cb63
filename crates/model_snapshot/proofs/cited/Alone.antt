-- one who runs solo ends what it does soon
use Rattle.std.proofs.Common.{◌≡◌, ◌≢◌, ℕ, zero, suc, ◌+◌, ◌-◌, ◌*◌, ◌≤◌, Bool, false, cond, ◌⊎◌, List, [], ◌∷◌, ◌++◌, length, Some, None, Ok, inl, inr, refl, sym, ap, subst, ◌∙◌, arith, add-one, option_map}
use Rattle.model_snapshot.proofs.Common.{cases_Bool, eqb_tells, reply_of, Answer, Participant, ends, participant_of, program_of, with_participant, set_at, participant_of-put, set_at-same, Client, Pending, Nothing, Places, Scans, Update, Writing, SnapReply, is_idle, access_for, after_for, note_for, note_after, pending_after, KnownPlaces, PlacesLaws, value_for, scan_after, scan_view, SnapCall, snapshot, Stepped, SnapObject, new_object, observed, Allows, Absent, Idle, Placing, Scanning, Updating, SnapState, reported, clients_over, snap_answer, after_snap_step, way_now, ways_of}
use Rattle.model_steps.specs.declared.access.Access.{Access}
use Rattle.model_steps.specs.declared.access.Access.TheVariants.{Read, Nothing as Idling}
use Rattle.model_steps.specs.Locality.{Indistinguishable}
use Rattle.model_steps.specs.Steps.{answer_from, AgreeAt}
use Rattle.model_steps.proofs.cited.RunLemmas.{run_replays}
use Rattle.model_steps.proofs.cited.StepLemmas.{ended_after, going_answer, going_after}
use Rattle.model_snapshot.specs.Alone.{EndsAlone, most_reads, EndsSoon, EndsSoonAlone, EndsAlike}
use Rattle.model_steps.specs.Machine.{Reaches}
use Rattle.model_snapshot.specs.Standing.{is_quiet}
use Rattle.model_snapshot.proofs.Collecting.{has_room}
use Rattle.model_snapshot.proofs.Dues.{bounds_with}
use Rattle.model_snapshot.proofs.cited.Following.{Holds, after_all, all_reads}
use Rattle.model_snapshot.proofs.LawfulPlaces.{LawfulPlaces}
use Rattle.model_snapshot.proofs.ScanAlone.{HasRoom, HasLeft, walk_after, left_more, some_left, reads_on}
use Rattle.model_snapshot.proofs.cited.SnapWorldLemmas.{after_stepped, busy_state, busy_answer, snap_alike, stays_alike}
use Rattle.model_snapshot.proofs.Tied.{IsScanning, IsAtTask, IsTied, era_now, roll_now}

-- a later end is an end
pub ends_later : {S R V U K : Type 0} (t : KnownPlaces S R V U K) (w : SnapState S U K) (p m n : ℕ) → m ≤ n → EndsAlone t w p m → EndsAlone t w p n
ends_later t w p zero n l h = absurd h
ends_later t w p (suc m) zero l h = absurd (omega arith)
ends_later t w p (suc m) (suc n) l (inl last) = inl last
ends_later t w p (suc m) (suc n) l (inr on) = inr (ends_later t (after_snap_step t w p) p m n (omega arith) on)

-- a collect reads no more where more have begun
reads_up : {S R V U K : Type 0} (t : KnownPlaces S R V U K) (laws : PlacesLaws t) (most b c : ℕ) → b ≤ c → t.ties.reads most b ≤ t.ties.reads most c
reads_up t laws most b zero l = let e : b ≡ 0 = omega arith in rw e (omega arith)
reads_up t laws most b (suc c) l = elim (eqb_tells b (suc c)) [
  | inl e ↦ rw e.1 (omega arith)
  | inr e ↦ let other = e.1 in let below = reads_up t laws most b c (omega arith) in let one : t.ties.reads most c ≤ t.ties.reads most (suc c) = subst (λ (z : ℕ). t.ties.reads most c ≤ t.ties.reads most z) (add-one c) (laws.rising most c) in omega arith
]

module _ {S R V U K : Type 0} (t : LawfulPlaces S R V U K) where
  -- what p does is a scan, an update or the write of one, of which at most n steps are left
  abbrev LeftFor : ℕ → S → Client U K → Pending → ℕ → Type 0
  LeftFor c s client Nothing n = ⊥
  LeftFor c s client Places n = ⊥
  LeftFor c s client Scans n = HasLeft t.known s c client.scan n
  LeftFor c s client (Update value) n = (k : ℕ) × HasLeft t.known s c client.scan k × (k + 1 ≤ n)
  LeftFor c s client (Writing value view) n = 1 ≤ n

  left_busy : (c : ℕ) (s : S) (client : Client U K) (z : Pending) (n : ℕ) → LeftFor c s client z n → is_idle z ≡ false
  left_busy c s client Nothing n h = absurd h
  left_busy c s client Places n h = absurd h
  left_busy c s client z n h = refl

  module _ (w : SnapState S U K) (o : SnapObject) (i : IsTied t w o) (p : ℕ) (v : Participant (Client U K)) (there : participant_of p w.participants ≡ Some v) (c : ℕ) (most : most_reads t.known w ≡ c) where
    abbrev b : ℕ
    b = length w.participants

    enough : t.known.ties.reads (t.known.most_of w.memory) b ≤ c
    enough =
        let few = t.laws.few w.memory b (ways_of w.participants) i.consistent in
        let up = reads_up t.known t.laws w.most b w.most (let e = i.most in let l = few.0 in omega arith) in
        rw (← i.most) (omega arith)

    begins : t.known.ties.HasRead w.memory (t.known.walk_from w.memory) 0
    begins = (t.laws.starts w.memory b (ways_of w.participants) i.consistent p v.program.walker (ap way_now there)).0

    left_some : (z : Pending) (n : ℕ) → LeftFor c w.memory v.program z n → 1 ≤ n
    left_some Nothing n h = absurd h
    left_some Places n h = absurd h
    left_some Scans n h = some_left t.known w.memory t.laws b (ways_of w.participants) i.consistent c enough v.program.scan n h
    left_some (Update value) n h = let l = h.2 in omega arith
    left_some (Writing value view) n h = h

    -- what a step of p's program makes of it
    abbrev got : Pending → Answer V
    got z = answer_from (t.known.memory.register w.memory) (access_for t.known.walker t.known.place_of t.known.walks v.program z)

    abbrev program_after : Pending → Client U K
    program_after z = after_for t.known.walker t.known.walks v.program z (got z)

    abbrev reply_for : Pending → SnapReply
    reply_for z = reported (note_for t.known.walker t.known.walks v.program z (got z))

    abbrev memory_after : Pending → S
    memory_after z = t.known.memory.after w.memory (access_for t.known.walker t.known.place_of t.known.walks v.program z)

    abbrev new : Participant (Client U K)
    new = record {
      identity = v.identity;
      program = program_after v.program.pending;
      ended = ends (note_for t.known.walker t.known.walks v.program v.program.pending (got v.program.pending));
    }

    abbrev after : SnapState S U K
    after = record { memory = memory_after v.program.pending; most = w.most; participants = with_participant new w.participants }

    some_program : Some v.program ≡ program_of p w.participants
    some_program = sym (ap (option_map (λ u. u.program)) there)

    answer_is : is_idle v.program.pending ≡ false → snap_answer t.known w p ≡ Ok (reply_for v.program.pending)
    answer_is busy = busy_answer t.known w p v.program some_program busy ∙ ap (reply_of reported) (going_answer (clients_over t.known) t.known.memory w p v there (i.named p v there).1)

    state_is : is_idle v.program.pending ≡ false → after_snap_step t.known w p ≡ after
    state_is busy = busy_state t.known w p v.program some_program busy ∙ going_after (clients_over t.known) t.known.memory w p v there (i.named p v there).1

    there_after : participant_of p after.participants ≡ Some new
    there_after =
        let own : v.identity ≡ p = (i.named p v there).0 in
        participant_of-put w.participants new (rw (own, there) refl) p ∙ ap (λ (x : ℕ). set_at (λ u. participant_of u w.participants) x (Some new) p) own ∙ set_at-same (λ u. participant_of u w.participants) p (Some new)

    -- a scan has room for what it meets
    room_at : (own : ℕ) → IsScanning t (era_now t w o i) own (o.since p) (o.steps p) v.program.scan → HasRoom t.known w.memory v.program.scan.sightings
    room_at own (inl k) x r here = inr (rw k.1 (omega arith))
    room_at own (inr k) x r here =
        let few = (t.laws.few w.memory b (ways_of w.participants) i.consistent) in
        let small : b ≤ 64 = (let l = few.0 in let m = few.1 in omega arith) in
        has_room b o.last i.past o.moment i.place i.who i.history (roll_now t w o i) own (o.since p) k.1.collects _ _ v.program.scan.is_first v.program.scan.differs v.program.scan.sightings k.1.collecting small x r (i.present x ∙ here)

    same_walk : v.program.walk ≡ t.known.walk_from w.memory
    same_walk = (i.clients p v there).walk

    abbrev value_read : V
    value_read = value_for t.known w.memory v.program.scan.walk

    scan_on : (n : ℕ) → HasRoom t.known w.memory v.program.scan.sightings → HasLeft t.known w.memory c v.program.scan (suc n) → scan_view t.known.walks v.program.scan value_read ≡ None →
        HasLeft t.known (t.known.memory.after w.memory (Read (t.known.walks.next v.program.scan.walk))) c (scan_after t.known.walks v.program.scan value_read v.program.walk) n
    scan_on n room left goes = rw (t.laws.looked w.memory (t.known.walks.next v.program.scan.walk), same_walk)
        (reads_on t.known w.memory t.laws b (ways_of w.participants) i.consistent c enough begins v.program.scan room n left goes)

    -- of an update one step more is left
    less_left : (k n : ℕ) → HasRoom t.known w.memory v.program.scan.sightings → HasLeft t.known w.memory c v.program.scan k → k + 1 ≤ suc n → scan_view t.known.walks v.program.scan value_read ≡ None →
        (m : ℕ) × HasLeft t.known (t.known.memory.after w.memory (Read (t.known.walks.next v.program.scan.walk))) c (scan_after t.known.walks v.program.scan value_read v.program.walk) m × (m + 1 ≤ n)
    less_left zero n room left short goes = absurd (let some = some_left t.known w.memory t.laws b (ways_of w.participants) i.consistent c enough v.program.scan 0 left in omega arith)
    less_left (suc k) n room left short goes = (k, scan_on k room left goes, omega arith)

    -- a step ends what p does, or one step less is left
    abbrev Steps : ℕ → Pending → Type 0
    Steps n z = (is_quiet (reply_for z) ≡ false) ⊎ LeftFor c (memory_after z) (program_after z) (program_after z).pending n

    left_after : (n : ℕ) (z : Pending) → v.program.pending ≡ z → LeftFor c w.memory v.program z (suc n) → Steps n z
    left_after n Nothing pending h = absurd h
    left_after n Places pending h = absurd h
    left_after n Scans pending h =
        let k : IsAtTask t (era_now t w o i) (o.task p) (o.steps p) (o.since p) v.program Scans = rw pending at (i.clients p v there).at in
        let room = room_at k.0 k.4 in
        elim (scan_view t.known.walks v.program.scan value_read) as (λ s. scan_view t.known.walks v.program.scan value_read ≡ s →
        (is_quiet (reported (note_after s None)) ≡ false) ⊎ LeftFor c (memory_after Scans) (record v.program { scan = scan_after t.known.walks v.program.scan value_read v.program.walk; pending = pending_after s None v.program.pending }) (pending_after s None v.program.pending) n) [
          | Some view ↦ λ e. inl refl
          | None ↦ λ e. inr (rw pending (scan_on n room h e))
        ] refl
    left_after n (Update value) pending h =
        let k : IsAtTask t (era_now t w o i) (o.task p) (o.steps p) (o.since p) v.program (Update value) = rw pending at (i.clients p v there).at in
        let room = room_at k.0 k.4 in
        let some = some_left t.known w.memory t.laws b (ways_of w.participants) i.consistent c enough v.program.scan h.0 h.1 in
        let short = h.2 in
        elim (scan_view t.known.walks v.program.scan value_read) as (λ s. scan_view t.known.walks v.program.scan value_read ≡ s →
        (is_quiet (reported (note_after s (Some value))) ≡ false) ⊎ LeftFor c (memory_after (Update value)) (record v.program { scan = scan_after t.known.walks v.program.scan value_read v.program.walk; pending = pending_after s (Some value) v.program.pending }) (pending_after s (Some value) v.program.pending) n) [
          | Some view ↦ λ e. inr (omega arith)
          | None ↦ λ e. inr (rw pending (less_left h.0 n room h.1 short e))
        ] refl
    left_after n (Writing value view) pending h = inl refl

    -- what is left from where the scan stands
    some_reads : 1 ≤ c
    some_reads = let one = (t.laws.goes w.memory b (ways_of w.participants) i.consistent (t.known.walk_from w.memory) 0 begins).0 in let l = enough in omega arith

    new_left : (own : ℕ) → o.steps p ≡ 0 → IsScanning t (era_now t w o i) own (o.since p) (o.steps p) v.program.scan → HasLeft t.known w.memory c v.program.scan (2 * c)
    new_left own none (inl k) = rw k.1 (record { reads = 0; walk = begins; left = inr (inl (record { walk = refl; kept = λ j x r l. absurd (omega arith) }, omega arith)) })
    new_left own none (inr k) = absurd (let l = k.0 in omega arith)

    any_left : (own : ℕ) → IsScanning t (era_now t w o i) own (o.since p) (o.steps p) v.program.scan → HasLeft t.known w.memory c v.program.scan (3 * c - 1)
    any_left own (inl k) = left_more t.known w.memory c v.program.scan (2 * c) (3 * c - 1) (let some = some_reads in omega arith) (new_left own k.0 (inl k))
    any_left own (inr k) =
        let g = k.1 in
        let some = some_reads in
        record {
          reads = g.reads;
          walk = g.walk;
          left = elim (eqb_tells g.reads 0) [
            | inl e ↦
                let none = e.1 in
                inr (inl (record { walk = g.beginning e.1 ∙ ap (walk_after t.known w.memory) (sym e.1); kept = λ j x r l. absurd (omega arith) }, omega arith))
            | inr e ↦ let other = e.1 in inl (omega arith)
          ];
        }

    -- who was asked for a scan has one under way
    scan_left : (n : ℕ) → ((own : ℕ) → IsScanning t (era_now t w o i) own (o.since p) (o.steps p) v.program.scan → HasLeft t.known w.memory c v.program.scan n) → o.task p ≡ Scanning →
        (z : Pending) → IsAtTask t (era_now t w o i) (o.task p) (o.steps p) (o.since p) v.program z → LeftFor c w.memory v.program z n
    scan_left n left task Nothing k = absurd (elim k.3 [ inl e ↦ (let two : Idle ≡ Scanning = sym e ∙ task in cc) | inr e ↦ (let two : Placing ≡ Scanning = sym e.0 ∙ task in cc) ])
    scan_left n left task Places k = absurd (let two : Placing ≡ Scanning = sym k.1 ∙ task in cc)
    scan_left n left task Scans k = left k.0 k.4
    scan_left n left task (Update value) k = absurd (let two : Updating value ≡ Scanning = sym k.2 ∙ task in cc)
    scan_left n left task (Writing value view) k = absurd (let two : Updating value ≡ Scanning = sym k.2 ∙ task in cc)

    -- and who was asked for an update, one or its write
    update_left : (n value : ℕ) → ((own : ℕ) → IsScanning t (era_now t w o i) own (o.since p) (o.steps p) v.program.scan → HasLeft t.known w.memory c v.program.scan n) → o.task p ≡ Updating value →
        (z : Pending) → IsAtTask t (era_now t w o i) (o.task p) (o.steps p) (o.since p) v.program z → LeftFor c w.memory v.program z (n + 1)
    update_left n value left task Nothing k = absurd (elim k.3 [ inl e ↦ (let two : Idle ≡ Updating value = sym e ∙ task in cc) | inr e ↦ (let two : Placing ≡ Updating value = sym e.0 ∙ task in cc) ])
    update_left n value left task Places k = absurd (let two : Placing ≡ Updating value = sym k.1 ∙ task in cc)
    update_left n value left task Scans k = absurd (let two : Scanning ≡ Updating value = sym k.2 ∙ task in cc)
    update_left n value left task (Update next) k = (n, left k.0 k.4, omega arith)
    update_left n value left task (Writing next view) k = omega arith

module _ {S R V U K : Type 0} (known : KnownPlaces S R V U K) (laws : PlacesLaws known) where
  abbrev t : LawfulPlaces S R V U K
  t = record { known = known; laws = laws }

  module _ (first : S) (is_new : known.ties.IsNew first) (p : ℕ) where
    ends_by : (c n : ℕ) (w : SnapState S U K) (r : List SnapCall) → Reaches (snapshot known) first w r → most_reads known w ≡ c → (v : Participant (Client U K)) → participant_of p w.participants ≡ Some v →
        LeftFor t c w.memory v.program v.program.pending n → EndsAlone known w p n
    ends_by c zero w r a most v there left =
        let k = after_all known laws w first r is_new a in
        absurd (let some = left_some t w k.object k.tied p v there c most v.program.pending 0 left in omega arith)
    ends_by c (suc n) w r a most v there left =
        let k = after_all known laws w first r is_new a in
        let busy = left_busy t c w.memory v.program v.program.pending (suc n) left in
        let reply = reply_for t w k.object k.tied p v there c most v.program.pending in
        let answer = answer_is t w k.object k.tied p v there c most busy in
        let state = state_is t w k.object k.tied p v there c most busy in
        elim (left_after t w k.object k.tied p v there c most n v.program.pending refl left) [
          | inl last ↦ inl (reply, answer, last)
          | inr on ↦ inr (rw state (ends_by c n (after t w k.object k.tied p v there c most) (r ++ Stepped p (Ok reply) ∷ [])
              (after_stepped known w (after t w k.object k.tied p v there c most) p (Ok reply) (sym state) (sym answer) first r a) most (new t w k.object k.tied p v there c most) (there_after t w k.object k.tied p v there c most) on))
        ]

    module _ (w : SnapState S U K) (r : List SnapCall) (a : Reaches (snapshot known) first w r) where
      abbrev c : ℕ
      c = most_reads known w

      module _ (k : Holds t (all_reads known laws first) (known.most_of first) w r) where
        abbrev o : SnapObject
        o = k.object

        -- who has something to do has begun
        begun_ends : (n : ℕ) → o.task p ≢ Absent → ((v : Participant (Client U K)) (there : participant_of p w.participants ≡ Some v) → LeftFor t c w.memory v.program v.program.pending n) → EndsAlone known w p n
        begun_ends n some left = elim (participant_of p w.participants) as (λ z. participant_of p w.participants ≡ z → EndsAlone known w p n) [
          | None ↦ λ e. absurd (some (k.tied.absent p e).0)
          | Some v ↦ λ e. ends_by c n w r a refl v e (left v e)
        ] refl

        scan_ends : (n : ℕ) → o.task p ≡ Scanning →
            ((v : Participant (Client U K)) (there : participant_of p w.participants ≡ Some v) (own : ℕ) → IsScanning t (era_now t w o k.tied) own (o.since p) (o.steps p) v.program.scan → HasLeft known w.memory c v.program.scan n) → EndsAlone known w p n
        scan_ends n task left = begun_ends n (λ e. let two : Absent ≡ Scanning = sym e ∙ task in absurd (cc)) (λ v there.
            scan_left t w o k.tied p v there c refl n (left v there) task v.program.pending (k.tied.clients p v there).at)

        update_ends : (n value : ℕ) → o.task p ≡ Updating value →
            ((v : Participant (Client U K)) (there : participant_of p w.participants ≡ Some v) (own : ℕ) → IsScanning t (era_now t w o k.tied) own (o.since p) (o.steps p) v.program.scan → HasLeft known w.memory c v.program.scan n) → EndsAlone known w p (n + 1)
        update_ends n value task left = begun_ends (n + 1) (λ e. let two : Absent ≡ Updating value = sym e ∙ task in absurd (cc)) (λ v there.
            update_left t w o k.tied p v there c refl n value (left v there) task v.program.pending (k.tied.clients p v there).at)

        reads_some : o.task p ≢ Absent → 1 ≤ most_reads known w
        reads_some begun = elim (participant_of p w.participants) as (λ z. participant_of p w.participants ≡ z → 1 ≤ most_reads known w) [
          | None ↦ λ e. absurd (begun (k.tied.absent p e).0)
          | Some v ↦ λ e. some_reads t w o k.tied p v e c refl
        ] refl

        update_whole : (value : ℕ) → o.task p ≡ Updating value → EndsAlone known w p (3 * c)
        update_whole value task =
            let some = reads_some (λ e. let two : Absent ≡ Updating value = sym e ∙ task in absurd (cc)) in
            ends_later known w p (3 * c - 1 + 1) (3 * c) (omega arith) (update_ends (3 * c - 1) value task (λ u there. any_left t w o k.tied p u there c refl))

        ends_soon : EndsSoon known w o p
        ends_soon = record {
          some = reads_some;
          new_scan = λ task none. scan_ends (2 * c) task (λ v there own. new_left t w o k.tied p v there c refl own none);
          scan = λ task. scan_ends (3 * c - 1) task (λ v there. any_left t w o k.tied p v there c refl);
          new_update = λ value task none. update_ends (2 * c) value task (λ v there own. new_left t w o k.tied p v there c refl own none);
          update = λ value task. update_whole value task;
        }

  pub ends_soon_alone : (w : SnapState S U K) (p : ℕ) → EndsSoonAlone known w p
  ends_soon_alone w p first r a is_new bounds law =
      let k = after_all known laws w first r is_new a in
      let same : k.object ≡ law.0 = run_replays observed (Allows (bounds_with t (known.most_of first) (all_reads known laws first))) new_object r k.object k.run ∙ sym (run_replays observed (Allows bounds) new_object r law.0 law.1) in
      subst (λ (o : SnapObject). EndsSoon known w o p) same (ends_soon first is_new p w r a k)

-- it depends on the memory and on who ends
module _ {S R V U K : Type 0} (t : KnownPlaces S R V U K) (p : ℕ) where
  agrees : (f : R → V × Bool) (a : Access R V) → AgreeAt f f a
  agrees f Idling = tt
  agrees f a = refl

  memory_is : (w : SnapState S U K) (v : Participant (Client U K)) → participant_of p w.participants ≡ Some v →
      (after_snap_step t w p).memory ≡ cond (is_idle v.program.pending) w.memory (cond v.ended w.memory (t.memory.after w.memory ((clients_over t).next v.program)))
  memory_is w v there =
      let is : program_of p w.participants ≡ Some v.program = ap (option_map (λ u. u.program)) there in
      elim (cases_Bool (is_idle v.program.pending)) [
        | inl idle ↦ rw (is, idle) refl
        | inr busy ↦ ap (λ (x : SnapState S U K). x.memory) (busy_state t w p v.program (sym is) busy) ∙ (elim (cases_Bool v.ended) [
          | inl e ↦ ap (λ (x : SnapState S U K). x.memory) (ended_after (clients_over t) t.memory w p v there e) ∙ rw (busy, e) refl
          | inr e ↦ ap (λ (x : SnapState S U K). x.memory) (going_after (clients_over t) t.memory w p v there e) ∙ rw (busy, e) refl
        ])
      ]

  memory_alike : (w other : SnapState S U K) → other.memory ≡ w.memory → participant_of p other.participants ≡ participant_of p w.participants → (after_snap_step t other p).memory ≡ (after_snap_step t w p).memory
  memory_alike w other e k = elim (participant_of p w.participants) as (λ z. participant_of p w.participants ≡ z → (after_snap_step t other p).memory ≡ (after_snap_step t w p).memory) [
    | None ↦ λ h.
        let here : program_of p w.participants ≡ None = ap (option_map (λ u. u.program)) h in
        let there : program_of p other.participants ≡ None = ap (option_map (λ u. u.program)) (k ∙ h) in
        rw (there, here) e
    | Some v ↦ λ h. memory_is other v (k ∙ h) ∙ rw e refl ∙ sym (memory_is w v h)
  ] refl

  pub ends_alike : (w other : SnapState S U K) → EndsAlike t w other p
  ends_alike w other e k zero h = absurd h
  ends_alike w other e k (suc n) h =
      let alike : Indistinguishable (clients_over t) t.memory p w other = record { participant = sym k; register = λ v there. rw e (agrees (t.memory.register w.memory) ((clients_over t).next v.program)) } in
      elim h [
        | inl last ↦ inl (last.0, sym (snap_alike t w other p alike) ∙ last.1, last.2)
        | inr on ↦ inr (ends_alike (after_snap_step t w p) (after_snap_step t other p) (memory_alike w other e k) (sym (stays_alike t w (after_snap_step t w p) p refl other alike)) n on)
      ]
