-- each call of a snapshot object over any places is one of the object of the law
use Rattle.std.proofs.Common.{◌≡◌, ◌≢◌, ℕ, zero, suc, ◌+◌, ◌*◌, ◌<◌, ◌≤◌, ◌==◌, true, false, cond, ◌⊎◌, List, [], ◌∷◌, ◌++◌, length, Option, Some, None, Result, Ok, Err, inl, inr, refl, sym, ap, subst, ◌∙◌, arith, length-append, option_map, option_and_then, nat_lt, Contains}
use Rattle.model_snapshot.proofs.Common.{cases_Bool, eqb_tells, set_at, set_at-same, set_at-other, participant_of-push, length-with_participant, some_begun, Note, Quiet, Said, Ended, Read, Answer, Refusal, Participant, ends, participant_of, program_of, with_participant, beginner, begin_refusal, begun_unless, done_unless, lacked_memory, reply_of, going_answer, going_after, let_in, Client, Pending, Nothing, Places, Scans, Update, Writing, SnapReply, scan_from, scan_after, scan_view, Began, Updated, Scanned, Stepped, Idle, Placing, Scanning, Updating}
use Rattle.std.proofs.lemmas.List.Elements.{Contains-append_cases}
use Rattle.model_steps.specs.declared.refusal.Refusal.TheVariants.{AlreadyBegun, NotBegun, Finished, Spent}
use Rattle.model_steps.specs.Steps.{answer_from}
use Rattle.model_steps.specs.Runs.{Run}
use Rattle.model_steps.proofs.cited.RunLemmas.{run_more, run_keeps, run_answers}
use Rattle.model_snapshot.specs.declared.scan.Scan.{Scan}
use Rattle.model_snapshot.specs.declared.client.SnapReply.TheVariants.{Quiet as Silent, Placed, Written, View as Viewed}
use Rattle.model_snapshot.specs.Client.{first_pending, is_idle, scanning, updating, record_of, with_pending, is_placed, placed_note, pending_after, note_after, access_for, after_for, note_for}
use Rattle.model_snapshot.specs.SnapWorld.{SnapState, place_in, beginner_at, scan_refusal, update_refusal, scan_refusal_by, update_refusal_by, asked, after_scan, after_update, reported, clients_over, snap_answer, after_snap_step, way_now, ways_of}
use Rattle.model_snapshot.specs.SnapCalls.{SnapCall, next, IsReply}
use Rattle.model_snapshot.specs.Machine.{snapshot, MakesOwnAccess, BeginsTheSame, HasDistinctPlaces, IsConsistentAfter, KeepsReported}
use Rattle.model_steps.specs.Machine.{Reaches, SatisfiesSpec, RefusesWhereDue, IsProved}
use Rattle.model_steps.proofs.cited.MachineLemmas.{machine_proved}
use Rattle.model_snapshot.specs.Places.{KnownPlaces, PlacesLaws, BeginsAlike, BoundsScans, KeepsWalks, HasGoneOn, value_for}
use Rattle.model_snapshot.specs.Snapshot.{Task, SnapObject, SnapBounds, IsMoment, new_object, since_of, with_task, with_update, observed, AllowsStep, Allows, bounds_over}
use Rattle.model_snapshot.proofs.cited.SnapWorldLemmas.{busy_state, busy_answer, most_kept}
use Rattle.model_snapshot.proofs.LawfulPlaces.{LawfulPlaces}
use Rattle.model_snapshot.proofs.Histories.{number, value_in, IsHelp}
use Rattle.model_snapshot.proofs.FewValues.{few_values}
use Rattle.model_snapshot.proofs.Dues.{bounds_with, begin_is_due, scan_is_due, update_is_due, step_absent, step_idle, lacks_memory}
use Rattle.model_snapshot.proofs.Collecting.{collecting_new}
use Rattle.model_snapshot.proofs.Reading.{GoesOn, Shown, Outcome, starts_ahead, begins, steps_bound, reads}
use Rattle.model_snapshot.proofs.Tied.{Era, place_by, IsScanning, IsAtTask, IsDoing, IsTied, era_now, reached_now, roll_now, put_there, world_with, tied_new}
use Rattle.model_snapshot.proofs.OwnAccesses.{access_tied}
use Rattle.model_snapshot.proofs.Going.{tied_with, tied_written, tied_joined, free, nothing_yet, era_joined}

idle_is_nothing : (pending : Pending) → is_idle pending ≡ true → pending ≡ Nothing
idle_is_nothing Nothing h = refl
idle_is_nothing pending h = absurd (cc)

module _ {S R V U K : Type 0} (t : LawfulPlaces S R V U K) (w : SnapState S U K) (o : SnapObject) (i : IsTied t w o) (id : ℕ) where
  -- one begins
  begun_follows : begin_refusal w id ≡ None → IsTied t (record { memory = w.memory; most = w.most; participants = w.participants ++ beginner id (beginner_at t.known w id) ∷ [] }) (observed o (Began id (Ok tt)))
  begun_follows e =
      let goes_in = let_in w id e in
      let b = length w.participants in
      let c : Client U K = beginner_at t.known w id in
      let absent_way : ways_of w.participants id ≡ None = ap way_now goes_in.absent in
      let absent : i.place id ≡ None = i.placed id ∙ ap (place_by t.known.place_of) absent_way in
      let room : b < t.known.most_of w.memory = (let m = i.most in let l = goes_in.room in omega arith) in
      let consistent : t.known.ties.IsConsistent w.memory (b + 1) (set_at (ways_of w.participants) id (Some c.walker)) = t.laws.begun w.memory b (ways_of w.participants) id i.consistent goes_in.not_zero absent_way room in
      let up : b ≤ b + 1 = omega arith in
      let same : (j : ℕ) → j < b → set_at i.who b id j ≡ i.who j = λ j l. set_at-other i.who b id j (omega arith) in
      let last_one : (j : ℕ) × (j < b + 1) × (set_at i.who b id j ≡ id) = (b, omega arith, set_at-same i.who b id) in
      let still : KeepsWalks t.known w.memory w.memory = record { most = refl; beginning = refl; ahead = λ k x a. a; read = λ k j a. a } in
      tied_joined t w o i id c w.memory (b + 1) (set_at i.who b id) absent up (t.laws.rising (t.known.most_of w.memory) b) same last_one consistent (λ x. refl) still
      (w.participants ++ beginner id c ∷ []) (participant_of-push w.participants (beginner id c) goes_in.absent) (length-append w.participants (beginner id c ∷ []))
      (observed o (Began id (Ok tt))) (let k = i.counted in omega arith) refl refl
      (λ q n. (set_at-other o.task id Placing q n, set_at-other o.steps id 0 q n, set_at-other o.since id 0 q n, refl))
      (i.absent id goes_in.absent).1
      (λ q x k. inl k)
      (rw (set_at-same o.task id Placing, set_at-same o.steps id 0, set_at-same o.since id 0) (record {
        identity = refl;
        walk = refl;
        at = elim (t.known.place_of c.walker) as (λ z. t.known.place_of c.walker ≡ z → IsAtTask t (era_joined t w o i id c w.memory (b + 1) (set_at i.who b id) absent up (t.laws.rising (t.known.most_of w.memory) b) same last_one consistent (λ x. refl) still) Placing 0 0 c (first_pending z)) [
          | None ↦ λ k. (k, refl, refl, omega arith)
          | Some x ↦ λ k. (
            x,
            k,
            sym (ap number (nothing_yet t w o i id c w.memory (b + 1) (set_at i.who b id) absent up (t.laws.rising (t.known.most_of w.memory) b) same last_one consistent (λ x. refl) still x o.last k (omega arith))),
            elim (t.laws.waits b id) [ inl none ↦ absurd (let two : Some x ≡ None = sym k ∙ none in cc) | inr never ↦ inr (refl, never) ],
          )
        ] refl;
      }))

  begin_follows : IsTied t (begun_unless (begin_refusal w id) w id (beginner_at t.known w id)) (observed o (Began id (done_unless (begin_refusal w id))))
  begin_follows = elim (begin_refusal w id) as (λ r. begin_refusal w id ≡ r → IsTied t (begun_unless r w id (beginner_at t.known w id)) (observed o (Began id (done_unless r)))) [
    | Some why ↦ λ _. i
    | None ↦ λ e. begun_follows e
  ] refl

  -- who has nothing to do is asked for something
  module _ (v : Participant (Client U K)) (there : participant_of id w.participants ≡ Some v) (idle : is_idle v.program.pending ≡ true) where
    idle_now : IsAtTask t (era_now t w o i) (o.task id) (o.steps id) (o.since id) v.program Nothing
    idle_now = subst (λ (z : Pending). IsAtTask t (era_now t w o i) (o.task id) (o.steps id) (o.since id) v.program z) (idle_is_nothing v.program.pending idle) (i.clients id v there).at

    asked_to_scan : IsTied t (world_with w w.memory id (scanning v.program)) (with_task o id Scanning 0 0)
    asked_to_scan =
        let k = i.clients id v there in
        tied_with t w o i id v there (scanning v.program) refl o.updates (λ q n. refl) (i.asked id v there) Scanning 0 0 (record {
          identity = k.identity;
          walk = k.walk;
          at = (idle_now.0, idle_now.1, refl, idle_now.2, inl (refl, ap scan_from k.walk));
        })

    asked_to_update : (new_value : ℕ) → IsTied t (world_with w w.memory id (updating v.program new_value)) (with_update (with_task o id (Updating new_value) 0 0) id)
    asked_to_update new_value =
        let k = i.clients id v there in
        tied_with t w o i id v there (updating v.program new_value) refl (set_at o.updates id (o.updates id + 1)) (set_at-other o.updates id (o.updates id + 1)) (set_at-same o.updates id (o.updates id + 1) ∙ ap (λ (n : ℕ). n + 1) (i.asked id v there)) (Updating new_value) 0 0 (record {
          identity = k.identity;
          walk = k.walk;
          at = (idle_now.0, idle_now.1, refl, ap (λ (n : ℕ). n + 1) idle_now.2, inl (refl, ap scan_from k.walk));
        })

  scan_follows : IsTied t (after_scan w id) (observed o (Scanned id (done_unless (scan_refusal w id))))
  scan_follows = elim (participant_of id w.participants) as (λ z. participant_of id w.participants ≡ z → IsTied t (asked w id scanning (option_map (λ u. u.program) z) (scan_refusal_by (option_map (λ u. u.program) z))) (observed o (Scanned id (done_unless (scan_refusal_by (option_map (λ u. u.program) z)))))) [
    | None ↦ λ _. i
    | Some v ↦ λ there. elim (is_idle v.program.pending) as (λ b. is_idle v.program.pending ≡ b → IsTied t (asked w id scanning (Some v.program) (cond b None (Some AlreadyBegun))) (observed o (Scanned id (done_unless (cond b None (Some AlreadyBegun)))))) [
      | true ↦ λ idle. asked_to_scan v there idle
      | false ↦ λ _. i
    ] refl
  ] refl

  update_follows : (new_value : ℕ) → IsTied t (after_update w id new_value) (observed o (Updated id new_value (done_unless (update_refusal w id))))
  update_follows new_value = elim (participant_of id w.participants) as (λ z. participant_of id w.participants ≡ z → IsTied t (asked w id (λ c. updating c new_value) (option_map (λ u. u.program) z) (update_refusal_by (option_map (λ u. u.program) z))) (observed o (Updated id new_value (done_unless (update_refusal_by (option_map (λ u. u.program) z)))))) [
    | None ↦ λ _. i
    | Some v ↦ λ there. elim (is_idle v.program.pending) as (λ b. is_idle v.program.pending ≡ b → IsTied t (asked w id (λ c. updating c new_value) (Some v.program) (cond b (cond (nat_lt v.program.updates 1000000) None (Some Spent)) (Some AlreadyBegun))) (observed o (Updated id new_value (done_unless (cond b (cond (nat_lt v.program.updates 1000000) None (Some Spent)) (Some AlreadyBegun)))))) [
      | true ↦ λ idle. elim (nat_lt v.program.updates 1000000) as (λ b. IsTied t (asked w id (λ c. updating c new_value) (Some v.program) (cond b None (Some Spent))) (observed o (Updated id new_value (done_unless (cond b None (Some Spent)))))) [
        | true ↦ asked_to_update v there idle new_value
        | false ↦ i
      ]
      | false ↦ λ _. i
    ] refl
  ] refl

  module _ (scans : ℕ → ℕ) (fits : BoundsScans t.known w.most scans) where
    many : length w.participants ≤ t.known.most_of w.memory
    many = (t.laws.few w.memory (length w.participants) (ways_of w.participants) i.consistent).0

    few : length w.participants ≤ 64
    few = let k = (t.laws.few w.memory (length w.participants) (ways_of w.participants) i.consistent).1 in let m = many in omega arith

    -- a view of a moment has no more pairs than have begun
    few_shown : (view : List (ℕ × ℕ)) (j : ℕ) → j ≤ o.last → IsMoment view (o.moment j) → length view ≤ length w.participants
    few_shown view j l is = few_values i.who (length w.participants) view is.rising (λ q n e. elim (i.place q) as (λ z. i.place q ≡ z → value_in (i.past j) z ≡ Some n → (k : ℕ) × (k < length w.participants) × (i.who k ≡ q)) [
      | None ↦ λ _ h. absurd (cc)
      | Some x ↦ λ h _. roll_now t w o i q x h
    ] refl (sym (i.history.shows j q l) ∙ sym (is.values q) ∙ e))

    -- what a step of p's program answers, and leaves
    module _ (v : Participant (Client U K)) (there : participant_of id w.participants ≡ Some v) where
      whole : (length w.participants + 1) * t.known.ties.reads (t.known.most_of w.memory) (length w.participants) ≤ scans o.begun
      whole = rw (i.counted, ← i.most) (fits (length w.participants) (let begun = some_begun id w.participants v there in omega arith) (let k = i.most in let m = many in omega arith))

      abbrev got : Pending → Answer V
      got z = answer_from (t.known.memory.register w.memory) (access_for t.known.walker t.known.place_of t.known.walks v.program z)

      abbrev Follows : Pending → Type 0
      Follows z =
          Allows (bounds_with t w.most scans) o (Stepped id (Ok (reported (note_for t.known.walker t.known.walks v.program z (got z)))))
          × IsTied t (record {
            memory = t.known.memory.after w.memory (access_for t.known.walker t.known.place_of t.known.walks v.program z);
            most = w.most;
            participants = with_participant (record {
              identity = v.identity;
              program = after_for t.known.walker t.known.walks v.program z (got z);
              ended = ends (note_for t.known.walker t.known.walks v.program z (got z));
            }) w.participants;
          }) (observed o (Stepped id (Ok (reported (note_for t.known.walker t.known.walks v.program z (got z))))))

      doing : IsDoing t (era_now t w o i) (o.task id) (o.steps id) (o.since id) id v.program
      doing = i.clients id v there

      way : ways_of w.participants id ≡ Some v.program.walker
      way = ap way_now there

      -- p's program after a step, under its identity
      own_name : v.identity ≡ id
      own_name = (i.named id v there).0

      -- the place of p is this
      module _ (own : ℕ) (at : t.known.place_of v.program.walker ≡ Some own) where
        mine : i.place id ≡ Some own
        mine = i.placed id ∙ ap (place_by t.known.place_of) way ∙ at

        -- a scan that was asked for is under way since its first step
        under_way : IsScanning t (era_now t w o i) own (o.since id) (o.steps id) v.program.scan → GoesOn t w.memory (length w.participants) o.last i.past i.place i.who own (since_of o id) (o.steps id) v.program.scan
        under_way (inl k) =
            let none : (o.steps id == 0) ≡ true = rw k.0 refl in
            rw (none, k.1, k.0) (record {
              collects = 0;
              reads = 0;
              walk = begins t w.memory (ways_of w.participants) (length w.participants) o.last i.past o.moment i.place i.who i.consistent i.history (roll_now t w o i) i.present (reached_now t w o i) own o.last id mine;
              beginning = λ _. refl;
              count = omega arith;
              collecting = collecting_new (length w.participants) o.last i.past i.place i.who own (t.known.ties.IsAhead w.memory (t.known.walk_from w.memory)) (t.known.ties.IsUpcoming (t.known.walk_from w.memory)) (starts_ahead t w.memory (ways_of w.participants) (length w.participants) o.last i.past o.moment i.place i.who i.consistent i.history (roll_now t w o i) i.present (reached_now t w o i));
            })
        under_way (inr k) =
            let some : (o.steps id == 0) ≡ false = (elim (eqb_tells (o.steps id) 0) [ inl e ↦ absurd (let z = e.1 in let l = k.0 in omega arith) | inr e ↦ e.0 ]) in
            rw some k.1

        abbrev value : V
        value = value_for t.known w.memory v.program.scan.walk

        -- the read and what comes of it
        module _ (s : IsScanning t (era_now t w o i) own (o.since id) (o.steps id) v.program.scan) where
          goes : GoesOn t w.memory (length w.participants) o.last i.past i.place i.who own (since_of o id) (o.steps id) v.program.scan
          goes = under_way s

          outcome : Outcome t w.memory (length w.participants) o.last i.past o.moment i.place i.who own (since_of o id) (o.steps id + 1) (scan_after t.known.walks v.program.scan value v.program.walk) (scan_view t.known.walks v.program.scan value)
          outcome = rw doing.walk (reads t w.memory (ways_of w.participants) (length w.participants) o.last i.past o.moment i.place i.who i.consistent i.history (roll_now t w o i) i.present (reached_now t w o i) own (since_of o id) id mine v.program.scan goes.reads goes.collects (o.steps id) goes.walk goes.count few goes.collecting)

          bound_after : (steps : ℕ) (s' : Scan K) → GoesOn t w.memory (length w.participants) o.last i.past i.place i.who own (since_of o id) steps s' → steps + 1 ≤ (length w.participants + 1) * t.known.ties.reads (t.known.most_of w.memory) (length w.participants)
          bound_after = steps_bound t w.memory (ways_of w.participants) (length w.participants) o.last i.past o.moment i.place i.who i.consistent i.history (roll_now t w o i) i.present (reached_now t w o i) own (since_of o id) id mine

          bound : o.steps id + 1 ≤ scans o.begun
          bound = let k = bound_after (o.steps id) v.program.scan goes in let all = whole in omega arith

          still : (s' : Scan K) → GoesOn t w.memory (length w.participants) o.last i.past i.place i.who own (since_of o id) (o.steps id + 1) s' → o.steps id + 1 < scans o.begun
          still s' g = let k = bound_after (o.steps id + 1) s' g in let all = whole in omega arith

          goes_further : (s' : Scan K) → GoesOn t w.memory (length w.participants) o.last i.past i.place i.who own (since_of o id) (o.steps id + 1) s' → IsScanning t (era_now t w o i) own (since_of o id) (o.steps id + 1) s'
          goes_further s' g = inr (omega arith, g)

          -- the view is of a moment after p's own last write
          helps : (view : List (ℕ × ℕ)) → v.program.updates ≡ number (i.past o.last own) + 1 → Shown o.last (since_of o id) o.moment view → IsHelp o.last i.past o.moment own v.program.updates view
          helps view up shown =
              let kept = goes.collecting.own_kept in
              let low = i.history.grows own (since_of o id) shown.0 shown.1 shown.2 in
              let high = i.history.grows own shown.0 o.last shown.2 (omega arith) in
              record { index = shown.0; inside = shown.2; count = omega arith; is = shown.3 }

        -- a read changes no memory
        looked : (ps : List (Participant (Client U K))) (o' : SnapObject) → IsTied t (record { memory = w.memory; most = w.most; participants = ps }) o' → IsTied t (record { memory = t.known.memory.after w.memory (Read (t.known.walks.next v.program.scan.walk)); most = w.most; participants = ps }) o'
        looked ps o' k = subst (λ (m : S). IsTied t (record { memory = m; most = w.most; participants = ps }) o') (sym (t.laws.looked w.memory (t.known.walks.next v.program.scan.walk))) k

        abbrev scan' : Scan K
        scan' = scan_after t.known.walks v.program.scan value v.program.walk

        -- the step is a read of a scan, after which this value is to be written or none, and the scan has come to this view or goes on
        abbrev HasRead : Option ℕ → Option (List (ℕ × ℕ)) → Type 0
        HasRead new_value view =
            Allows (bounds_with t w.most scans) o (Stepped id (Ok (reported (note_after view new_value))))
            × IsTied t (record {
              memory = t.known.memory.after w.memory (Read (t.known.walks.next v.program.scan.walk));
              most = w.most;
              participants = with_participant (record {
                identity = v.identity;
                program = record v.program { scan = scan'; pending = pending_after view new_value v.program.pending };
                ended = ends (note_after view new_value);
              }) w.participants;
            }) (observed o (Stepped id (Ok (reported (note_after view new_value)))))

        -- p has read and goes on with this
        reads_on : (pending : Pending) (task : Task) → IsAtTask t (era_now t w o i) task (o.steps id + 1) (since_of o id) (record v.program { scan = scan'; pending = pending }) pending →
            IsTied t (world_with w (t.known.memory.after w.memory (Read (t.known.walks.next v.program.scan.walk))) id (record v.program { scan = scan'; pending = pending })) (with_task o id task (o.steps id + 1) (since_of o id))
        reads_on pending task at = looked _ _ (tied_with t w o i id v there (record v.program { scan = scan'; pending = pending }) refl o.updates (λ q n. refl) (i.asked id v there) task (o.steps id + 1) (since_of o id) (record {
          identity = doing.identity;
          walk = doing.walk;
          at = at;
        }))

        scan_step : v.program.pending ≡ Scans → (o.task id ≡ Scanning) → v.program.updates ≡ number (i.past o.last own) → IsScanning t (era_now t w o i) own (o.since id) (o.steps id) v.program.scan → Follows Scans
        scan_step pending task updates s = elim (scan_view t.known.walks v.program.scan value) as (λ z. Outcome t w.memory (length w.participants) o.last i.past o.moment i.place i.who own (since_of o id) (o.steps id + 1) scan' z → HasRead None z) [
          | None ↦ λ g. (rw task (still s scan' g), rw (own_name, pending) (reads_on Scans (o.task id) (own, at, task, updates, goes_further s scan' g)))
          | Some view ↦ λ shown. (
            (task, rw task (bound s), record { index = shown.0; no_earlier = shown.1; no_later = shown.2; is = shown.3; few = rw i.counted (few_shown view shown.0 shown.2 shown.3) }),
            rw own_name (reads_on Nothing Idle (own, at, updates, inl refl)),
          )
        ] (outcome s)

        update_step : (new_value : ℕ) → v.program.pending ≡ Update new_value → (o.task id ≡ Updating new_value) → v.program.updates ≡ number (i.past o.last own) + 1 → IsScanning t (era_now t w o i) own (o.since id) (o.steps id) v.program.scan → Follows (Update new_value)
        update_step new_value pending task updates s =
            let b = bound s in
            let allowed : AllowsStep (bounds_with t w.most scans) o id Silent = rw task (omega arith) in
            elim (scan_view t.known.walks v.program.scan value) as (λ z. Outcome t w.memory (length w.participants) o.last i.past o.moment i.place i.who own (since_of o id) (o.steps id + 1) scan' z → HasRead (Some new_value) z) [
              | None ↦ λ g. (allowed, rw (own_name, pending) (reads_on (Update new_value) (o.task id) (own, at, task, updates, goes_further s scan' g)))
              | Some view ↦ λ shown. (allowed, rw own_name (reads_on (Writing new_value view) (o.task id) (own, at, task, updates, helps s view updates shown, bound_after s (o.steps id) v.program.scan (goes s))))
            ] (outcome s)

      write_step : (new_value : ℕ) (view : List (ℕ × ℕ)) → v.program.pending ≡ Writing new_value view → IsAtTask t (era_now t w o i) (o.task id) (o.steps id) (o.since id) v.program (Writing new_value view) → Follows (Writing new_value view)
      write_step new_value view pending k =
          let at = k.1 in
          let task = k.2 in
          let few_steps = k.5 in
          let all = whole in
          rw at ((rw task tt, rw task (omega arith)), rw (own_name, task) (tied_written t w o i id v there (with_pending v.program Nothing) refl k.0 at (record_of v.program new_value view) doing.identity (sym k.3) k.4 (o.steps id + 1) (since_of o id) doing.identity doing.walk refl refl refl))

      -- p is on its way
      module _ (pending : v.program.pending ≡ Places) (k : IsAtTask t (era_now t w o i) (o.task id) (o.steps id) (o.since id) v.program Places) where
        abbrev u : U
        u = v.program.walker

        abbrev answer_now : Answer V
        answer_now = answer_from (t.known.memory.register w.memory) (t.known.walker.next u)

        abbrev later : S
        later = t.known.memory.after w.memory (t.known.walker.next u)

        absent_place : i.place id ≡ None
        absent_place = i.placed id ∙ ap (place_by t.known.place_of) way ∙ k.0

        gone : HasGoneOn t.known w.memory later (length w.participants) (ways_of w.participants) id u answer_now
        gone = t.laws.gone_on w.memory (length w.participants) (ways_of w.participants) i.consistent id u way k.0

        up : length w.participants ≤ length w.participants
        up = omega arith

        more : t.known.ties.reads (t.known.most_of w.memory) (length w.participants) ≤ t.known.ties.reads (t.known.most_of w.memory) (length w.participants)
        more = omega arith

        steps_before : o.steps id + 1 ≤ t.known.ties.accesses_of (t.known.walker.resumed u answer_now)
        steps_before = let few_steps = k.3 in let on = gone.nearer in omega arith

        -- p after its access, with this still to do
        abbrev walked : Pending → Client U K
        walked z = record v.program { walker = t.known.walker.resumed u answer_now; pending = z }

        abbrev era_walked : Era S
        era_walked = record { memory = later; begun = length w.participants; last = o.last; past = i.past; moment = o.moment; place = set_at i.place id (t.known.place_of (t.known.walker.resumed u answer_now)); who = i.who }

        went : (z : Pending) (o' : SnapObject) → o'.begun ≡ o.begun → o'.last ≡ o.last → o'.moment ≡ o.moment → ((q : ℕ) → q ≢ id → (o'.task q ≡ o.task q) × (o'.steps q ≡ o.steps q) × (o'.since q ≡ o.since q) × (o'.updates q ≡ o.updates q)) → o'.updates id ≡ v.program.updates →
            ((q x : ℕ) → o'.place q ≡ Some x → (o.place q ≡ Some x) ⊎ ((q ≡ id) × (t.known.place_of (t.known.walker.resumed u answer_now) ≡ Some x))) →
            IsDoing t era_walked (o'.task id) (o'.steps id) (o'.since id) id (walked z) → IsTied t (world_with w later id (walked z)) o'
        went z o' begun last moment others asked reported_place does =
            tied_joined t w o i id (walked z) later (length w.participants) i.who absent_place up more (λ j l. refl) (i.listed id u way) gone.consistent gone.segments gone.kept
            (with_participant (record { identity = id; program = walked z; ended = false }) w.participants) (put_there w.participants id v (walked z) there)
            (length-with_participant w.participants (record { identity = id; program = walked z; ended = false })) o' (begun ∙ i.counted) last moment others asked reported_place does

        nothing_stood : (x : ℕ) → t.known.place_of (t.known.walker.resumed u answer_now) ≡ Some x → i.past o.last x ≡ None
        nothing_stood x e = nothing_yet t w o i id (walked Nothing) later (length w.participants) i.who absent_place up more (λ j l. refl) (i.listed id u way) gone.consistent gone.segments gone.kept x o.last e (omega arith)

        -- no one has told the place that p has reached
        is_free : (x : ℕ) → t.known.place_of (t.known.walker.resumed u answer_now) ≡ Some x → (q : ℕ) → o.place q ≢ Some x
        is_free x e q h = free t w o i id (walked Nothing) later (length w.participants) i.who absent_place up more (λ j l. refl) (i.listed id u way) gone.consistent gone.segments gone.kept q x (i.reported q x h) e

        -- and p has told none
        is_first : o.place id ≡ None
        is_first = elim (o.place id) as (λ z. o.place id ≡ z → z ≡ None) [
          | None ↦ λ _. refl
          | Some x ↦ λ h. absurd (let two : None ≡ Some x = sym absent_place ∙ i.reported id x h in cc)
        ] refl

        -- the way goes on
        stays : t.known.place_of (t.known.walker.resumed u answer_now) ≡ None → (o.steps id + 1 < t.known.ties.placing o.begun) × IsTied t (world_with w later id (walked Places)) (observed o (Stepped id (Ok Silent)))
        stays none =
            let left = t.laws.unplaced later (length w.participants) (set_at (ways_of w.participants) id (Some (t.known.walker.resumed u answer_now))) gone.consistent id (t.known.walker.resumed u answer_now) (set_at-same (ways_of w.participants) id (Some (t.known.walker.resumed u answer_now))) none in
            let before = steps_before in (
              rw i.counted (omega arith),
              went Places (observed o (Stepped id (Ok Silent))) refl refl refl
                  (λ q n. (set_at-other o.task id (o.task id) q n, set_at-other o.steps id (o.steps id + 1) q n, set_at-other o.since id (since_of o id) q n, refl))
                  (i.asked id v there)
                  (λ q x h. inl h)
                  (rw (set_at-same o.task id (o.task id), set_at-same o.steps id (o.steps id + 1), set_at-same o.since id (since_of o id)) (record {
                    identity = doing.identity;
                    walk = doing.walk ∙ sym gone.kept.beginning;
                    at = (none, k.1, k.2, before);
                  })),
            )

        -- the way has reached a place
        arrives : (x : ℕ) → t.known.place_of (t.known.walker.resumed u answer_now) ≡ Some x →
            Allows (bounds_with t w.most scans) o (Stepped id (Ok (Placed x))) × IsTied t (world_with w later id (walked Nothing)) (observed o (Stepped id (Ok (Placed x))))
        arrives x e =
            let left = t.laws.unplaced w.memory (length w.participants) (ways_of w.participants) i.consistent id u way k.0 in
            let few_steps = k.3 in
            let task = k.1 in (
              (task, rw (task, i.counted) (omega arith), record { first = is_first; free = is_free x e }),
              went Nothing (observed o (Stepped id (Ok (Placed x)))) refl refl refl
                  (λ q n. (set_at-other o.task id Idle q n, set_at-other o.steps id (o.steps id + 1) q n, set_at-other o.since id (since_of o id) q n, refl))
                  (i.asked id v there)
                  (λ q y h. elim (eqb_tells q id) [
                    | inl g ↦ inr (g.1, let two : Some x ≡ Some y = rw g.0 at h in e ∙ two)
                    | inr g ↦ inl (rw g.0 at h)
                  ])
                  (rw (set_at-same o.task id Idle, set_at-same o.steps id (o.steps id + 1), set_at-same o.since id (since_of o id)) (record {
                    identity = doing.identity;
                    walk = doing.walk ∙ sym gone.kept.beginning;
                    at = (x, e, k.2 ∙ sym (ap number (nothing_stood x e)), inl refl);
                  })),
            )

        -- without the note that it has ended, a way has no place
        no_place : (n : Note ℕ) → t.known.walker.note u answer_now ≡ n → ((x : ℕ) → n ≢ Ended x) → t.known.place_of (t.known.walker.resumed u answer_now) ≡ None
        no_place n e never = elim (t.known.place_of (t.known.walker.resumed u answer_now)) as (λ z. t.known.place_of (t.known.walker.resumed u answer_now) ≡ z → z ≡ None) [
          | None ↦ λ _. refl
          | Some x ↦ λ h. absurd (never x (sym e ∙ (gone.ended x).1 h))
        ] refl

        place_by_note : (n : Note ℕ) → t.known.walker.note u answer_now ≡ n →
            Allows (bounds_with t w.most scans) o (Stepped id (Ok (reported (placed_note n))))
            × IsTied t (record {
              memory = later;
              most = w.most;
              participants = with_participant (record {
                identity = v.identity;
                program = walked (cond (is_placed n) Nothing v.program.pending);
                ended = ends (placed_note n);
              }) w.participants;
            }) (observed o (Stepped id (Ok (reported (placed_note n)))))
        place_by_note Quiet e = let s = stays (no_place Quiet e (λ x h. absurd (cc))) in (rw k.1 s.0, rw (own_name, pending) s.1)
        place_by_note (Said y) e = let s = stays (no_place (Said y) e (λ x h. absurd (cc))) in (rw k.1 s.0, rw (own_name, pending) s.1)
        place_by_note (Ended x) e = let s = arrives x ((gone.ended x).0 e) in (s.0, rw own_name s.1)

        place_step : Follows Places
        place_step = place_by_note (t.known.walker.note u answer_now) refl

      step_follows : (z : Pending) → v.program.pending ≡ z → is_idle z ≡ false → IsAtTask t (era_now t w o i) (o.task id) (o.steps id) (o.since id) v.program z → Follows z
      step_follows Nothing pending busy k = absurd (cc)
      step_follows Places pending busy k = place_step pending k
      step_follows Scans pending busy k = scan_step k.0 k.1 pending k.2 k.3 k.4
      step_follows (Update new_value) pending busy k = update_step k.0 k.1 new_value pending k.2 k.3 k.4
      step_follows (Writing new_value view) pending busy k = write_step new_value view pending k

    abbrev answer : Result SnapReply Refusal
    answer = snap_answer t.known w id

    abbrev after : SnapState S U K
    after = after_snap_step t.known w id

    by_answer : (reply : Result SnapReply Refusal) (w' : SnapState S U K) → answer ≡ reply → after ≡ w' → Allows (bounds_with t w.most scans) o (Stepped id reply) × IsTied t (cond (lacked_memory reply) w w') (observed o (Stepped id reply)) →
        Allows (bounds_with t w.most scans) o (Stepped id answer) × IsTied t (cond (lacked_memory answer) w after) (observed o (Stepped id answer))
    by_answer reply w' ea eb k =
        subst (λ (x : Result SnapReply Refusal). Allows (bounds_with t w.most scans) o (Stepped id x) × IsTied t (cond (lacked_memory x) w after) (observed o (Stepped id x))) (sym ea)
        (subst (λ (y : SnapState S U K). Allows (bounds_with t w.most scans) o (Stepped id reply) × IsTied t (cond (lacked_memory reply) w y) (observed o (Stepped id reply))) (sym eb) k)

    pub stepped_follows : Allows (bounds_with t w.most scans) o (Stepped id answer) × IsTied t (cond (lacked_memory answer) w after) (observed o (Stepped id answer))
    stepped_follows = elim (participant_of id w.participants) as (λ z. participant_of id w.participants ≡ z → Allows (bounds_with t w.most scans) o (Stepped id answer) × IsTied t (cond (lacked_memory answer) w after) (observed o (Stepped id answer))) [
      | None ↦ λ e.
          let none : program_of id w.participants ≡ None = ap (option_map (λ u. u.program)) e in
          by_answer (Err NotBegun) w (rw none refl) (rw none refl) (inl (step_absent t w o i id scans e), i)
      | Some v ↦ λ e.
          let there : program_of id w.participants ≡ Some v.program = ap (option_map (λ u. u.program)) e in
          let some = sym there in
          elim (cases_Bool (is_idle v.program.pending)) [
            | inl idle ↦ by_answer (Err Finished) w (rw (there, idle) refl) (rw (there, idle) refl) (inl (step_idle t w o i id scans fits v e idle), i)
            | inr busy ↦
                let on : v.ended ≡ false = (i.named id v e).1 in
                let ea : answer ≡ Ok (reported (note_for t.known.walker t.known.walks v.program v.program.pending (got v e v.program.pending))) =
                busy_answer t.known w id v.program some busy ∙ ap (reply_of reported) (going_answer (clients_over t.known) t.known.memory w id v e on) in
                let eb : after ≡ record {
                  memory = t.known.memory.after w.memory (access_for t.known.walker t.known.place_of t.known.walks v.program v.program.pending);
                  most = w.most;
                  participants = with_participant (record {
                    identity = v.identity;
                    program = after_for t.known.walker t.known.walks v.program v.program.pending (got v e v.program.pending);
                    ended = ends (note_for t.known.walker t.known.walks v.program v.program.pending (got v e v.program.pending));
                  }) w.participants;
                } = busy_state t.known w id v.program some busy ∙ going_after (clients_over t.known) t.known.memory w id v e on in
                by_answer _ _ ea eb (step_follows v e v.program.pending refl busy (i.clients id v e).at)
          ]
    ] refl

module _ {S R V U K : Type 0} (t : LawfulPlaces S R V U K) (scans : ℕ → ℕ) where
  -- the machine over these places
  abbrev pub next_of : SnapState S U K → SnapCall → SnapState S U K
  next_of = next t.known

  abbrev pub IsReplyOf : SnapState S U K → SnapCall → Type 0
  IsReplyOf = IsReply t.known

  -- a call is one of the object, and the tie holds after it
  follows : (w : SnapState S U K) (o : SnapObject) → IsTied t w o → BoundsScans t.known w.most scans → (h : SnapCall) → IsReplyOf w h → Allows (bounds_with t w.most scans) o h × IsTied t (next_of w h) (observed o h)
  follows w o i fits (Began id reply) is = (is ∙ ap done_unless (sym (begin_is_due t w o i id scans)), rw is (begin_follows t w o i id))
  follows w o i fits (Updated id new_value reply) is = (is ∙ ap done_unless (sym (update_is_due t w o i id scans fits)), rw is (update_follows t w o i id new_value))
  follows w o i fits (Scanned id reply) is = (is ∙ ap done_unless (sym (scan_is_due t w o i id scans fits)), rw is (scan_follows t w o i id))
  follows w o i fits (Stepped id reply) (inl is) = rw is (stepped_follows t w o i id scans fits)
  follows w o i fits (Stepped id reply) (inr is) = rw is.0 (inr (lacks_memory t w o i id scans fits is.1), i)

  -- who has told its place keeps it
  place_stays : (bounds : SnapBounds) (o : SnapObject) (h : SnapCall) (p x : ℕ) → Allows bounds o h → o.place p ≡ Some x → (observed o h).place p ≡ Some x
  place_stays bounds o (Began q (Ok done)) p x k e = e
  place_stays bounds o (Began q (Err why)) p x k e = e
  place_stays bounds o (Updated q new_value (Ok done)) p x k e = e
  place_stays bounds o (Updated q new_value (Err why)) p x k e = e
  place_stays bounds o (Scanned q (Ok done)) p x k e = e
  place_stays bounds o (Scanned q (Err why)) p x k e = e
  place_stays bounds o (Stepped q (Ok Silent)) p x k e = e
  place_stays bounds o (Stepped q (Ok (Placed y))) p x k e = elim (eqb_tells p q) [
    | inl u ↦ absurd (let two : None ≡ Some x = sym k.2.first ∙ ap o.place (sym u.1) ∙ e in cc)
    | inr u ↦ rw u.0 e
  ]
  place_stays bounds o (Stepped q (Ok Written)) p x k e = e
  place_stays bounds o (Stepped q (Ok (Viewed view))) p x k e = e
  place_stays bounds o (Stepped q (Err why)) p x k e = e

  -- a call that is all of a list
  only_call : (h g : SnapCall) → Contains (h ∷ []) g → h ≡ g
  only_call h g (zero, l, e) = e
  only_call h g (suc n, l, e) = absurd (omega arith)

  reported_now : (o : SnapObject) (h : SnapCall) (p x : ℕ) → h ≡ Stepped p (Ok (Placed x)) → (observed o h).place p ≡ Some x
  reported_now o h p x e = rw e (set_at-same o.place p (Some x))

  -- what holds after every run
  pub record Holds (most : ℕ) (w : SnapState S U K) (r : List SnapCall) : Type 0 where
    pub object : SnapObject
    pub run : Run observed (Allows (bounds_with t most scans)) new_object r object
    pub tied : IsTied t w object
    pub same_most : w.most ≡ most
    pub answered : (p x : ℕ) → Contains r (Stepped p (Ok (Placed x))) → object.place p ≡ Some x

  holds_on : (most : ℕ) → BoundsScans t.known most scans → (w : SnapState S U K) (r : List SnapCall) (h : SnapCall) → Holds most w r → IsReplyOf w h → Holds most (next_of w h) (r ++ h ∷ [])
  holds_on most fits w r h k is =
      let f = follows w k.object k.tied (rw k.same_most fits) h is in
      let allowed : Allows (bounds_with t most scans) k.object h = subst (λ (m : ℕ). Allows (bounds_with t m scans) k.object h) k.same_most f.0 in
      record {
        object = observed k.object h;
        run = run_more observed (Allows (bounds_with t most scans)) new_object r k.object h k.run allowed;
        tied = f.1;
        same_most = most_kept t.known w h ∙ k.same_most;
        answered = λ p x c. elim (Contains-append_cases r (h ∷ []) (Stepped p (Ok (Placed x))) c) [
          | inl old ↦ place_stays (bounds_with t most scans) k.object h p x allowed (k.answered p x old)
          | inr now ↦ reported_now k.object h p x (only_call h (Stepped p (Ok (Placed x))) now)
        ];
      }

  pub holds_after : (first : S) → t.known.ties.IsNew first → BoundsScans t.known (t.known.most_of first) scans → (w : SnapState S U K) (r : List SnapCall) → Reaches (snapshot t.known) first w r → Holds (t.known.most_of first) w r
  holds_after first new fits w r a =
      let start : Holds (t.known.most_of first) (record { memory = first; most = t.known.most_of first; participants = [] }) [] = record { object = new_object; run = refl; tied = tied_new t first new; same_most = refl; answered = λ p x c. absurd (let l = c.1 in omega arith) } in
      run_keeps next_of IsReplyOf (Holds (t.known.most_of first)) (holds_on (t.known.most_of first) fits) (record { memory = first; most = t.known.most_of first; participants = [] }) [] r w start a.run

  -- the place of a participant is that of its way
  place_is : (w : SnapState S U K) (o : SnapObject) (i : IsTied t w o) (p : ℕ) → place_in t.known w p ≡ i.place p
  place_is w o i p = elim (participant_of p w.participants) as (λ z. option_and_then (λ c. t.known.place_of c.walker) (option_map (λ v. v.program) z) ≡ place_by t.known.place_of (way_now z)) [ None ↦ refl | Some v ↦ refl ] ∙ sym (i.placed p)

-- the laws of a snapshot object over any places in which nothing was written at first
module _ {S R V U K : Type 0} (known : KnownPlaces S R V U K) (laws : PlacesLaws known) where
  abbrev lawful : LawfulPlaces S R V U K
  lawful = record { known = known; laws = laws }

  abbrev pub all_reads : S → ℕ → ℕ
  all_reads first b = (b + 1) * known.ties.reads (known.most_of first) b

  -- after every list of calls
  pub after_all : (w : SnapState S U K) (first : S) (r : List SnapCall) → known.ties.IsNew first → Reaches (snapshot known) first w r → Holds lawful (all_reads first) (known.most_of first) w r
  after_all w first r new a = holds_after lawful (all_reads first) first new (λ b some l. omega arith) w r a

  pub law_holds : (w : SnapState S U K) → SatisfiesSpec (snapshot known) w
  law_holds w first r a new scans fits = let k = holds_after lawful scans first new fits w r a in (k.object, k.run)

  due_holds : (w : SnapState S U K) → RefusesWhereDue (snapshot known) w
  due_holds w first r a new scans fits =
      let k = holds_after lawful scans first new fits w r a in
      run_answers observed (Allows (bounds_over known first scans)) new_object r k.object k.run

  -- so it is proved
  pub snapshot_proved : IsProved (snapshot known)
  snapshot_proved = machine_proved (snapshot known) law_holds due_holds

  pub all_distinct : (w : SnapState S U K) → HasDistinctPlaces known w
  all_distinct w first r a new p q x mine theirs =
      let k = after_all w first r new a in
      k.tied.history.distinct p q x (sym (place_is lawful (all_reads first) w k.object k.tied p) ∙ mine) (sym (place_is lawful (all_reads first) w k.object k.tied q) ∙ theirs)

  pub reported_holds : (w : SnapState S U K) (p : ℕ) → KeepsReported known w p
  reported_holds w p first r a new x c =
      let k = after_all w first r new a in
      place_is lawful (all_reads first) w k.object k.tied p ∙ k.tied.reported p x (k.answered p x c)

  -- the memory agrees with those who have begun
  pub consistent_holds : (w : SnapState S U K) → IsConsistentAfter known w
  consistent_holds w first r a new = let k = after_all w first r new a in k.tied.consistent

  pub own_access_holds : (w : SnapState S U K) (p : ℕ) → MakesOwnAccess known w p
  own_access_holds w p first r a new c is = let k = after_all w first r new a in access_tied lawful w k.object k.tied p c is

  size_kept : (w : SnapState S U K) (first : S) (r : List SnapCall) → known.ties.IsNew first → Reaches (snapshot known) first w r → known.most_of w.memory ≡ known.most_of first
  size_kept w first r new a = let k = after_all w first r new a in sym k.tied.most ∙ k.same_most

  -- who begins is the same after any calls
  pub begins_the_same : BeginsAlike known → (p : ℕ) → BeginsTheSame known p
  begins_the_same alike p first other w x r s new new' size a b =
      let sizes : known.most_of w.memory ≡ known.most_of x.memory = size_kept w first r new a ∙ size ∙ sym (size_kept x other s new' b) in
      let walks = alike.walk w.memory x.memory (length w.participants) (length x.participants) (ways_of w.participants) (ways_of x.participants) (consistent_holds w first r a new) (consistent_holds x other s b new') sizes in
      rw (alike.way (length w.participants) (length x.participants) p, walks) refl
