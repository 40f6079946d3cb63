-- a call of a snapshot object over any places is refused where the object of the law has it due
use Rattle.std.proofs.Common.{◌≡◌, ℕ, ◌+◌, ◌*◌, ◌≤◌, ◌==◌, true, false, length, Some, None, inl, inr, refl, sym, ap, ◌∙◌, arith, option_map, is_some}
use Rattle.model_snapshot.proofs.Common.{mul-le-mul_right, eqb_tells, some_begun, Participant, NotBegun, Finished, NoMemory, participant_of, begin_refusal, may_refuse_by, Client, Pending, Nothing, Places, Scans, Update, Writing, is_idle, BoundsScans, SnapState, clients_over, scan_refusal, update_refusal, scan_refusal_by, update_refusal_by, may_lack_memory, way_now, ways_of, Placing}
use Rattle.model_snapshot.specs.Snapshot.{SnapObject, SnapBounds, has_begun, has_nothing_pending, begin_due, scan_due, update_due, step_due, LacksMemory}
use Rattle.model_snapshot.proofs.LawfulPlaces.{LawfulPlaces}
use Rattle.model_snapshot.proofs.cited.SureSteps.{on_way_or_sure}
use Rattle.model_snapshot.proofs.Tied.{IsAtTask, IsTied, era_now}

-- so many participants at most, steps to a place, and those of a scan that keep the bound
abbrev pub bounds_with : {S R V U K : Type 0} → LawfulPlaces S R V U K → ℕ → (ℕ → ℕ) → SnapBounds
bounds_with t most scans = record { most = most; placing = t.known.ties.placing; scanning = scans; collecting = t.known.ties.reads most most }

some_is_not_none : (n : ℕ) → 1 ≤ n → (n == 0) ≡ false
some_is_not_none n l = elim (eqb_tells n 0) [ inl e ↦ absurd (let z = e.1 in omega arith) | inr e ↦ e.0 ]

module _ {S R V U K : Type 0} (t : LawfulPlaces S R V U K) (w : SnapState S U K) (o : SnapObject) (i : IsTied t w o) (id : ℕ) (scans : ℕ → ℕ) where
  abbrev bounds : SnapBounds
  bounds = bounds_with t w.most scans

  abbrev AtTask : Client U K → Pending → Type 0
  AtTask c z = IsAtTask t (era_now t w o i) (o.task id) (o.steps id) (o.since id) c z

  -- who is at a task has begun
  begun_at : (c : Client U K) (z : Pending) → AtTask c z → has_begun (o.task id) ≡ true
  begun_at c Nothing k = elim k.3 [ inl e ↦ ap has_begun e | inr e ↦ ap has_begun e.0 ]
  begun_at c Places k = ap has_begun k.1
  begun_at c z k = ap has_begun k.2

  has_begun_there : (v : Participant (Client U K)) → participant_of id w.participants ≡ Some v → has_begun (o.task id) ≡ true
  has_begun_there v there = begun_at v.program v.program.pending (i.clients id v there).at

  not_begun : participant_of id w.participants ≡ None → has_begun (o.task id) ≡ false
  not_begun e = ap has_begun (i.absent id e).0

  begun_is : has_begun (o.task id) ≡ is_some (participant_of id w.participants)
  begun_is = elim (participant_of id w.participants) as (λ z. participant_of id w.participants ≡ z → has_begun (o.task id) ≡ is_some z) [
    | None ↦ λ e. not_begun e
    | Some v ↦ λ e. has_begun_there v e
  ] refl

  pub begin_is_due : begin_due bounds o id ≡ begin_refusal w id
  begin_is_due = rw (begun_is, i.counted) refl

  pub step_absent : participant_of id w.participants ≡ None → step_due bounds o id ≡ Some NotBegun
  step_absent e = rw (not_begun e) refl

  module _ (fits : BoundsScans t.known w.most scans) where
    module _ (v : Participant (Client U K)) (there : participant_of id w.participants ≡ Some v) where
      way : ways_of w.participants id ≡ Some v.program.walker
      way = ap way_now there

      -- a scan has steps
      some_scan : 1 ≤ scans o.begun
      some_scan =
          let b = length w.participants in
          let few = t.laws.few w.memory b (ways_of w.participants) i.consistent in
          let most = i.most in
          let one = (t.laws.goes w.memory b (ways_of w.participants) i.consistent (t.known.walk_from w.memory) 0 (t.laws.starts w.memory b (ways_of w.participants) i.consistent id v.program.walker way).0).0 in
          let up : 1 ≤ b + 1 = omega arith in
          let product = mul-le-mul_right (t.known.ties.reads (t.known.most_of w.memory) b) up in
          let whole : (b + 1) * t.known.ties.reads (t.known.most_of w.memory) b ≤ scans o.begun = rw (i.counted, ← i.most) (fits b (let begun = some_begun id w.participants v there in omega arith) (let room = few.0 in omega arith)) in
          omega arith

      pending_at : (z : Pending) → AtTask v.program z → has_nothing_pending bounds o id ≡ is_idle z
      pending_at Nothing k = elim k.3 [ inl e ↦ rw e refl | inr e ↦ rw (e.0, e.1 o.begun) refl ]
      pending_at Places k =
          let left = t.laws.unplaced w.memory (length w.participants) (ways_of w.participants) i.consistent id v.program.walker way k.0 in
          rw (k.1, i.counted) (some_is_not_none (t.known.ties.placing (length w.participants)) (omega arith))
      pending_at Scans k = rw k.2 (some_is_not_none (scans o.begun) some_scan)
      pending_at (Update value) k = rw k.2 (some_is_not_none (scans o.begun + 1) (omega arith))
      pending_at (Writing value view) k = rw k.2 (some_is_not_none (scans o.begun + 1) (omega arith))

      pub pending_is : has_nothing_pending bounds o id ≡ is_idle v.program.pending
      pending_is = pending_at v.program.pending (i.clients id v there).at

      pub step_idle : is_idle v.program.pending ≡ true → step_due bounds o id ≡ Some Finished
      step_idle idle = rw (has_begun_there v there, pending_is, idle) refl

      step_busy : is_idle v.program.pending ≡ false → step_due bounds o id ≡ None
      step_busy busy = rw (has_begun_there v there, pending_is, busy) refl

      on_way : v.program.pending ≡ Places → o.task id ≡ Placing
      on_way pending = (rw pending at (i.clients id v there).at).1

    pub scan_is_due : scan_due bounds o id ≡ scan_refusal w id
    scan_is_due = elim (participant_of id w.participants) as (λ z. participant_of id w.participants ≡ z → scan_due bounds o id ≡ scan_refusal_by (option_map (λ u. u.program) z)) [
      | None ↦ λ e. rw (not_begun e) refl
      | Some v ↦ λ e. rw (has_begun_there v e, pending_is v e) refl
    ] refl

    pub update_is_due : update_due bounds o id ≡ update_refusal w id
    update_is_due = elim (participant_of id w.participants) as (λ z. participant_of id w.participants ≡ z → update_due bounds o id ≡ update_refusal_by (option_map (λ u. u.program) z)) [
      | None ↦ λ e. rw (not_begun e) refl
      | Some v ↦ λ e. rw (has_begun_there v e, pending_is v e, i.asked id v e) refl
    ] refl

    -- only one who is on its way to a place may lack memory
    pub lacks_memory : may_lack_memory t.known w id ≡ true → LacksMemory bounds o id NoMemory
    lacks_memory = elim (participant_of id w.participants) as (λ z. participant_of id w.participants ≡ z → may_refuse_by (clients_over t.known) t.known.memory w.memory z ≡ true → LacksMemory bounds o id NoMemory) [
      | None ↦ λ e h. absurd (cc)
      | Some v ↦ λ e h.
          let on : v.ended ≡ false = (i.named id v e).1 in
          elim (on_way_or_sure t.known t.laws w.memory v.program v.program.pending) [
            | inl pending ↦ (refl, step_busy v e (rw pending refl), on_way v e pending)
            | inr sure ↦ absurd (let may : t.known.memory.may_refuse w.memory ((clients_over t.known).next v.program) ≡ true = rw on at h in let two : true ≡ false = sym may ∙ sure in cc)
          ]
    ] refl
