-- who runs solo comes nearer to its name
use Rattle.std.proofs.Common.{◌≡◌, ◌≢◌, ℕ, zero, suc, ◌+◌, ◌-◌, ◌*◌, ◌≤◌, ◌==◌, Bool, true, false, cond, ◌⊎◌, List, Option, Some, None, Result, Ok, Err, inl, inr, refl, sym, ap, subst, ◌∙◌, arith, add-one, is_some, nat_lt, nat_le}
use Rattle.model_renaming.proofs.Common.{eqb_tells, leb_tells, set_at-same, set_at-other, value_of, Participant, Refusal, Finished, NoMemory, participant_of, beginner, participant_of-put, participant_of-push, Call, lacked_memory, steps_by, Began, Stepped, begin_refusal, done_unless, let_in, has_begun, goes_busy, KnownPlaces, GoesBusy, is_quiet, SnapReply, Silent, HasPlace, Written, Viewed, SnapCall, snap_next, IsSnapReply, Task, SnapObject, SnapBounds, observed, SnapAllows, SnapState, beginner_at, snap_answer, after_snap_step, Client, StepReply, Quiet, Round, Follow, RoundStage, Placing, Proposing, Looking, Settled, Over, Pace, IsInTime, most_steps, paced, paced_step, ToGo, ToPropose, ToLook, is_taken, next_proposal, next, IsReply, RenameTerms, RenameObject, IsRecent, IsConflict, Allows, after, after_step, no_step, RenameState, after_wish, begun_snap, begun_unless, has_place, world_with, snap_step, rename_answer, after_rename_step, stage_refusal, followed, decided, named_by, spent_by, saw_by, number_of, written_round, first_round, first_wish}
use Rattle.model_snapshot.specs.Alone.{EndsAlone, EndsSoon, most_reads}
use Rattle.model_snapshot.proofs.cited.Alone.{ends_alike}
use Rattle.model_snapshot.specs.Snapshot.Task.{Absent, Placing as ToPlace, Scanning as ToScan, Updating as ToUpdate}
use Rattle.model_renaming.specs.Alone.{LeavesAlone, HasTwoLeft, steps_alone}
use Rattle.model_renaming.proofs.LocalSteps.{wish_becomes}
use Rattle.model_asked.proofs.cited.rounds.Numbers.{next_free}
use Rattle.model_renaming.proofs.rounds.Standing.{others_stand}
use Rattle.model_renaming.proofs.rounds.StepCases.{begun_own, no_round, reported_answer, reported_state, refusal_here, closed_answer, step_refused}
use Rattle.model_renaming.proofs.rounds.Stepping.{HasGone, placing_gone, proposing_gone, looking_gone, standing_made}
use Rattle.model_renaming.proofs.rounds.Tied.{IsAtStage, IsPlacing, IsProposing, IsLooking, IsTied}
use Rattle.model_renaming.proofs.rounds.Views.{taken_not}

-- in the last moment no other proposes n
abbrev IsFree : RenameObject → ℕ → ℕ → Type 0
IsFree o p n = (q : ℕ) → q ≢ p → o.moment o.last q ≢ Some n

-- only who looks is shown a view
view_phase : (bounds : SnapBounds) (t : Pace) (p : ℕ) (r : Round) (view : List (ℕ × ℕ)) (limit : ℕ) → IsInTime bounds t p (decided r p view limit).reply → t.phase p ≡ ToLook
view_phase bounds t p r view limit =
    elim (is_taken p view r.proposal) as (λ a. IsInTime bounds t p (cond a (cond (nat_le limit r.count) (spent_by r) (saw_by r p view)) (named_by r view)).reply → t.phase p ≡ ToLook) [
      | false ↦ λ h. h.is
      | true ↦ elim (nat_le limit r.count) as (λ b. IsInTime bounds t p (cond b (spent_by r) (saw_by r p view)).reply → t.phase p ≡ ToLook) [ true ↦ λ h. h.is | false ↦ λ h. h.is ]
    ]

module _ {S R V U K : Type 0} (W : KnownPlaces S R V U K) (terms : RenameTerms) (bounds : SnapBounds) where
  -- alone, at most n steps are left until p is named. Before a place two rounds follow; a number that is free in the last
  -- moment stays free, so its proposal is the last one; one that was chosen among others may meet a conflict
  abbrev LeftAt : RenameState S U K → RenameObject → Pace → ℕ → Round → RoundStage → ℕ → Type 0
  LeftAt w o t p r Placing n = (r.count + 2 ≤ terms.limit) × (bounds.placing bounds.most + 8 * bounds.collecting + 2 ≤ n + t.steps p)
  LeftAt w o t p r (Proposing number) n = (k : ℕ) × EndsAlone W w.snap p k × (
      (IsFree o p number × (k + 2 * bounds.collecting ≤ n))
      ⊎ ((r.count + 2 ≤ terms.limit) × (k + 6 * bounds.collecting + 1 ≤ n)))
  LeftAt w o t p r Looking n = (k : ℕ) × EndsAlone W w.snap p k × (
      ((o.since p ≡ o.last) × IsFree o p r.proposal × (k ≤ n))
      ⊎ (((o.since p ≡ o.last) × (r.count + 1 ≤ terms.limit) × (k + 4 * bounds.collecting + 1 ≤ n))
      ⊎ ((r.count + 2 ≤ terms.limit) × (k + 8 * bounds.collecting + 2 ≤ n))))
  LeftAt w o t p r Settled n = Unit {0}
  LeftAt w o t p r Over n = ⊥

  abbrev pub LeftAlone : RenameState S U K → RenameObject → Pace → ℕ → ℕ → Type 0
  LeftAlone w o t p n = (v : Participant Round) × (participant_of p w.rounds ≡ Some v) × LeftAt w o t p v.program v.program.stage n

  some_steps : (w : SnapState S U K) (p k : ℕ) → EndsAlone W w p k → 1 ≤ k
  some_steps w p zero h = absurd h
  some_steps w p (suc k) h = omega arith

  -- a quiet step is one of them
  quiet_on : (w : SnapState S U K) (p k : ℕ) → EndsAlone W w p k → snap_answer W w p ≡ Ok Silent → (m : ℕ) × (k ≡ suc m) × EndsAlone W (after_snap_step W w p) p m
  quiet_on w p zero h silent = absurd h
  quiet_on w p (suc k) (inl last) silent = absurd (
      let both : Ok last.0 ≡ Ok Silent = sym last.1 ∙ silent in
      let same : last.0 ≡ Silent = cc in
      let two : true ≡ false = sym (ap is_quiet same) ∙ last.2 in
      cc)
  quiet_on w p (suc k) (inr on) silent = (k, refl, on)

  -- what is assumed of the bounds, and of a snapshot object that is tied to the object of its law
  pub record Grounds (Tie : SnapState S U K → SnapObject → Type 0) : Type 0 where
    pub soon : (w : SnapState S U K) (o : SnapObject) (p : ℕ) → Tie w o → EndsSoon W w o p
    pub collects : bounds.collecting ≡ W.ties.reads terms.most terms.most
    pub full : bounds.most ≡ terms.most
    pub farther : (b : ℕ) → bounds.placing b ≤ bounds.placing (b + 1)

  module _ (Tie : SnapState S U K → SnapObject → Type 0)
      (tie_goes : (w : SnapState S U K) (o : SnapObject) (h : SnapCall) → Tie w o → IsSnapReply W w h → Tie (snap_next W w h) (observed o h) × SnapAllows bounds o h)
      (grounds : Grounds Tie) where
    placing_up : (b m : ℕ) → b ≤ m → bounds.placing b ≤ bounds.placing m
    placing_up b zero l = let e : b ≡ 0 = omega arith in rw e (omega arith)
    placing_up b (suc m) l = elim (eqb_tells b (suc m)) [
      | inl e ↦ rw e.1 (omega arith)
      | inr e ↦
          let other = e.1 in
          let below = placing_up b m (omega arith) in
          let one : bounds.placing m ≤ bounds.placing (suc m) = subst (λ (z : ℕ). bounds.placing m ≤ bounds.placing z) (add-one m) (grounds.farther m) in
          omega arith
    ]

    module _ (w : RenameState S U K) (o : RenameObject) (t : Pace) (i : IsTied terms Tie w o t) (p : ℕ) where
      reads_are : most_reads W w.snap ≡ bounds.collecting
      reads_are = rw (grounds.collects, i.most) refl

      module _ (v : Participant Round) (here : participant_of p w.rounds ≡ Some v) where
        abbrev r : Round
        r = v.program

        some_reads : (task : Task) → i.object.task p ≡ task → task ≢ Absent → 1 ≤ bounds.collecting
        some_reads task e other = let l = (grounds.soon w.snap i.object p i.tie).some (λ none. other (sym e ∙ none)) in let same = reads_are in omega arith

        -- who has not stepped since it was asked
        new_update : (number : ℕ) → r.stage ≡ Proposing number → t.steps p ≡ 0 → EndsAlone W w.snap p (2 * bounds.collecting + 1)
        new_update number stage none =
            let h : IsProposing terms o t i.object w.snap p number r = subst (λ (z : RoundStage). IsAtStage terms o t i.object w.snap p r z) stage (i.stages p v here) in
            rw (← reads_are) ((grounds.soon w.snap i.object p i.tie).new_update number h.task (sym h.pace ∙ none))

        new_scan : r.stage ≡ Looking → t.steps p ≡ 0 → EndsAlone W w.snap p (2 * bounds.collecting)
        new_scan stage none =
            let h : IsLooking terms o t i.object w.snap p r = subst (λ (z : RoundStage). IsAtStage terms o t i.object w.snap p r z) stage (i.stages p v here) in
            rw (← reads_are) ((grounds.soon w.snap i.object p i.tie).new_scan h.task (sym h.pace ∙ none))

        -- from any point on two rounds are enough
        starts_at : (stage : RoundStage) → IsAtStage terms o t i.object w.snap p r stage → HasTwoLeft terms o p → LeftAt w o t p r stage (steps_alone bounds)
        starts_at Placing h two = let l = two.left in let e = (i.counts p v here).count in let c = some_reads ToPlace h.task (λ e. absurd (cc)) in (omega arith, omega arith)
        starts_at (Proposing number) h two =
            let l = two.left in
            let e = (i.counts p v here).count in
            (3 * bounds.collecting, rw (← reads_are) ((grounds.soon w.snap i.object p i.tie).update number h.task), inr (omega arith, let c = some_reads (ToUpdate number) h.task (λ e. absurd (cc)) in omega arith))
        starts_at Looking h two =
            let l = two.left in
            let e = (i.counts p v here).count in
            (3 * bounds.collecting - 1, rw (← reads_are) ((grounds.soon w.snap i.object p i.tie).scan h.task), inr (inr (omega arith, let c = some_reads ToScan h.task (λ e. absurd (cc)) in omega arith)))
        starts_at Settled h two = absurd (let both : None ≡ Some r.proposal = sym two.unnamed ∙ h.1 in cc)
        starts_at Over h two = absurd (let both : false ≡ true = sym two.unspent ∙ h.1 in cc)

        -- no more have begun than there may be
        within : t.begun ≤ bounds.most
        within = let a = i.roomy in let b = i.same_many in let c = grounds.full in omega arith

        placing_within : t.steps p + 1 ≤ bounds.placing t.begun → t.steps p + 1 ≤ bounds.placing bounds.most
        placing_within l = let up = placing_up t.begun bounds.most within in omega arith

        -- who is on its way has a step left
        on_way : IsPlacing o t i.object w.snap p r → (reply : SnapReply) → IsInTime bounds t p (followed r p reply w.limit).reply → t.steps p + 1 ≤ bounds.placing bounds.most
        on_way h Silent timed = placing_within (let e : most_steps bounds t.begun (t.phase p) ≡ bounds.placing t.begun = ap (most_steps bounds t.begun) h.phase in omega arith)
        on_way h (HasPlace x) timed = placing_within timed.within
        on_way h Written timed = absurd (let two : ToGo ≡ ToPropose (number_of r.stage) = sym h.phase ∙ timed.is in cc)
        on_way h (Viewed view) timed = absurd (let two : ToGo ≡ ToLook = sym h.phase ∙ view_phase bounds t p r view w.limit timed in cc)

        -- who has no step left is named
        ends_at : (stage : RoundStage) → r.stage ≡ stage → IsAtStage terms o t i.object w.snap p r stage → LeftAt w o t p r stage 0 → is_some (o.name p) ≡ true
        ends_at Placing e h left = absurd (
            let k : GoesBusy W w.snap p 0 = goes_busy W w.snap p 0 h.stands in
            let gone = placing_gone W terms bounds Tie tie_goes w o t i p v here h e k in
            let one = on_way h k.reply gone.timed in
            let l = left.1 in
            omega arith)
        ends_at (Proposing number) e h left = absurd (let one = some_steps w.snap p left.0 left.1 in elim left.2 [ inl a ↦ (let l = a.1 in omega arith) | inr a ↦ (let l = a.1 in omega arith) ])
        ends_at Looking e h left = absurd (let one = some_steps w.snap p left.0 left.1 in elim left.2 [
          | inl a ↦ (let l = a.2 in omega arith)
          | inr a ↦ elim a [ inl b ↦ (let l = b.2 in omega arith) | inr b ↦ (let l = b.1 in omega arith) ]
        ])
        ends_at Settled e h left = ap is_some h.1
        ends_at Over e h left = absurd left

      -- from any point on
      pub starts_alone : HasTwoLeft terms o p → LeftAlone w o t p (steps_alone bounds)
      starts_alone two = elim (participant_of p w.rounds) as (λ z. participant_of p w.rounds ≡ z → LeftAlone w o t p (steps_alone bounds)) [
        | None ↦ λ e. absurd (let both : true ≡ false = sym two.begun ∙ i.begun p ∙ ap is_some e in cc)
        | Some v ↦ λ e. (v, e, starts_at v e v.program.stage (i.stages p v e) two)
      ] refl

      -- who has some left is named, or not spent
      pub goes_alone : (n : ℕ) → LeftAlone w o t p n → (is_some (o.name p) ≡ true) ⊎ (o.spent p ≡ false)
      goes_alone n h = by_stage h.0.program.stage (i.stages p h.0 h.1) h.2 where
        by_stage : (stage : RoundStage) → IsAtStage terms o t i.object w.snap p h.0.program stage → LeftAt w o t p h.0.program stage n → (is_some (o.name p) ≡ true) ⊎ (o.spent p ≡ false)
        by_stage Settled k left = inl (ap is_some k.1)
        by_stage Over k left = absurd left
        by_stage stage k left = inr k.going.left

      pub ends_named : LeftAlone w o t p 0 → is_some (o.name p) ≡ true
      ends_named h = ends_at h.0 h.1 h.0.program.stage refl (i.stages p h.0 h.1) h.2

    -- a step of p
    module _ (w : RenameState S U K) (o : RenameObject) (t : Pace) (i : IsTied terms Tie w o t) (p : ℕ) (v : Participant Round) (here : participant_of p w.rounds ≡ Some v) (n : ℕ) where
      abbrev Gone : Follow → Type 0
      Gone f = HasGone W terms bounds Tie tie_goes w o t i p v here f

      abbrev world_of : Follow → RenameState S U K
      world_of f = world_with w (after_wish (snap_step W w p) p f.wish) p f.round

      -- less is left after it
      abbrev LessLeft : Follow → Type 0
      LessLeft f = LeftAt (world_of f) (after_step o p f.reply) (paced_step t p f.reply) p f.round f.round.stage n

      round_put : (f : Follow) → participant_of p (world_of f).rounds ≡ Some (beginner p f.round)
      round_put f = participant_of-put w.rounds (beginner p f.round) (rw here refl) p ∙ set_at-same (λ u. participant_of u w.rounds) p (Some (beginner p f.round))

      update_put : (f : Follow) → Gone f → (number : ℕ) → f.round.stage ≡ Proposing number → (paced_step t p f.reply).steps p ≡ 0 → EndsAlone W (world_of f).snap p (2 * bounds.collecting + 1)
      update_put f gone number stage none = new_update (world_of f) (after_step o p f.reply) (paced_step t p f.reply) gone.tied p (beginner p f.round) (round_put f) number stage none

      scan_put : (f : Follow) → Gone f → f.round.stage ≡ Looking → (paced_step t p f.reply).steps p ≡ 0 → EndsAlone W (world_of f).snap p (2 * bounds.collecting)
      scan_put f gone stage none = new_scan (world_of f) (after_step o p f.reply) (paced_step t p f.reply) gone.tied p (beginner p f.round) (round_put f) stage none

      placing_on : IsPlacing o t i.object w.snap p v.program → v.program.stage ≡ Placing → LeftAt w o t p v.program Placing (suc n) → (reply : SnapReply) → Gone (followed v.program p reply w.limit) → LessLeft (followed v.program p reply w.limit)
      placing_on h stage left Silent gone =
          let more = set_at-same t.steps p (t.steps p + 1) in
          let was = left.1 in
          subst (λ (z : RoundStage). LeftAt (world_of (followed v.program p Silent w.limit)) o (paced_step t p Quiet) p v.program z n) (sym stage) (left.0, omega arith)
      placing_on h stage left (HasPlace x) gone =
          let was = left.1 in
          let one = on_way w o t i p v here h (HasPlace x) gone.timed in
          (2 * bounds.collecting + 1, update_put (followed v.program p (HasPlace x) w.limit) gone 1 refl (set_at-same t.steps p 0), inr (left.0, omega arith))
      placing_on h stage left Written gone = absurd (let two : ToGo ≡ ToPropose (number_of v.program.stage) = sym h.phase ∙ gone.timed.is in cc)
      placing_on h stage left (Viewed view) gone = absurd (let two : ToGo ≡ ToLook = sym h.phase ∙ view_phase bounds t p v.program view w.limit gone.timed in cc)

      -- a round counts one more at most
      counts_one : (written_round v.program w.limit).count ≤ v.program.count + 1
      counts_one = elim (nat_lt v.program.count w.limit) as (λ b. cond b (v.program.count + 1) v.program.count ≤ v.program.count + 1) [ true ↦ omega arith | false ↦ omega arith ]

      proposing_on : (number : ℕ) → IsProposing terms o t i.object w.snap p number v.program → v.program.stage ≡ Proposing number → LeftAt w o t p v.program (Proposing number) (suc n) →
          (reply : SnapReply) → snap_answer W w.snap p ≡ Ok reply → Gone (followed v.program p reply w.limit) → LessLeft (followed v.program p reply w.limit)
      proposing_on number h stage left Silent answer gone =
          let on = quiet_on w.snap p left.0 left.1 answer in
          let less = on.1 in
          subst (λ (z : RoundStage). LeftAt (world_of (followed v.program p Silent w.limit)) o (paced_step t p Quiet) p v.program z n) (sym stage) (
            on.0,
            on.2,
            elim left.2 [
              | inl a ↦ let l = a.1 in inl (a.0, omega arith)
              | inr a ↦ let l = a.1 in inr (a.0, omega arith)
            ],
          )
      proposing_on number h stage left (HasPlace x) answer gone = absurd (let two : ToPropose number ≡ ToGo = sym h.phase ∙ gone.timed.is in cc)
      proposing_on number h stage left Written answer gone =
          let some = some_steps w.snap p left.0 left.1 in
          let last = set_at-same o.since p (o.last + 1) in
          let one = counts_one in (
            2 * bounds.collecting,
            scan_put (followed v.program p Written w.limit) gone refl (set_at-same t.steps p 0),
            elim left.2 [
              | inl a ↦
                  let l = a.1 in
                  inl (last, λ q other e. a.0 q other (sym (others_stand o p (number_of v.program.stage) q other) ∙ e ∙ ap (λ (z : RoundStage). Some (number_of z)) stage), omega arith)
              | inr a ↦
                  let l = a.1 in
                  let c = a.0 in
                  inr (inl (last, omega arith, omega arith))
            ],
          )
      proposing_on number h stage left (Viewed view) answer gone = absurd (let two : ToPropose number ≡ ToLook = sym h.phase ∙ view_phase bounds t p v.program view w.limit gone.timed in cc)

      -- a view of a moment since the last one, which is p's own
      last_is : (index : ℕ) → IsRecent o p index → o.since p ≡ o.last → index ≡ o.last
      last_is index recent last = let a = recent.no_earlier in let b = recent.no_later in omega arith

      -- shows no conflict where no other proposes the same
      no_conflict : IsLooking terms o t i.object w.snap p v.program → o.since p ≡ o.last → IsFree o p v.program.proposal → (index : ℕ) → IsRecent o p index → IsConflict (o.moment index) p → ⊥
      no_conflict h last free index recent conflict =
          let now : o.moment index ≡ o.moment o.last = ap o.moment (last_is index recent last) in
          let own : o.moment o.last p ≡ Some v.program.proposal = (i.counts p v here).now ∙ standing_made v.program.count v.program.proposal v.program.stage h.some in
          let both : Some conflict.number ≡ Some v.program.proposal = sym conflict.own ∙ ap (λ (f : ℕ → Option ℕ). f p) now ∙ own in
          free conflict.contested.other conflict.contested.not_own (sym (ap (λ (f : ℕ → Option ℕ). f conflict.contested.other) now) ∙ conflict.contested.proposes ∙ both)

      module _ (h : IsLooking terms o t i.object w.snap p v.program) (left : LeftAt w o t p v.program Looking (suc n)) (view : List (ℕ × ℕ)) where
        spent_on : w.limit ≤ v.program.count → Gone (spent_by v.program) → LessLeft (spent_by v.program)
        spent_on l gone =
            let limit = i.limit in
            elim left.2 [
              | inl a ↦ let c = gone.allowed.1 in no_conflict h a.0 a.1 c.index c.recent c.conflict
              | inr a ↦ elim a [ inl b ↦ absurd (let few = b.1 in omega arith) | inr b ↦ absurd (let few = b.0 in omega arith) ]
            ]

        saw_on : Gone (saw_by v.program p view) → LessLeft (saw_by v.program p view)
        saw_on gone =
            let c = gone.allowed.2 in
            let some = some_steps w.snap p left.0 left.1 in
            let own : value_of p view ≡ Some c.conflict.number = c.is.values p ∙ c.conflict.own in (
              2 * bounds.collecting + 1,
              update_put (saw_by v.program p view) gone (next_proposal p view) refl (set_at-same t.steps p 0),
              elim left.2 [
                | inl a ↦ absurd (no_conflict h a.0 a.1 c.index c.recent c.conflict)
                | inr a ↦ elim a [
                  | inl b ↦
                      let l = b.2 in
                      inl (λ q other e. taken_not p view (next_proposal p view) (next_free p c.conflict.number view own) q other (c.is.values q ∙ ap (λ (j : ℕ). o.moment j q) (last_is c.index c.recent b.0) ∙ e), omega arith)
                  | inr b ↦ let l = b.1 in inr (b.0, omega arith)
                ]
              ],
            )

        view_on : Gone (decided v.program p view w.limit) → LessLeft (decided v.program p view w.limit)
        view_on =
            let P : Bool → Bool → Type 0 = λ a b. Gone (cond a (cond b (spent_by v.program) (saw_by v.program p view)) (named_by v.program view)) → LessLeft (cond a (cond b (spent_by v.program) (saw_by v.program p view)) (named_by v.program view)) in
            elim (is_taken p view v.program.proposal) as (λ a. P a (nat_le w.limit v.program.count)) [
              | false ↦ λ gone. tt
              | true ↦ elim (leb_tells w.limit v.program.count) [
                | inl f ↦ subst (λ (b : Bool). P true b) (sym f.0) (spent_on f.1)
                | inr f ↦ subst (λ (b : Bool). P true b) (sym f.0) saw_on
              ]
            ]

      looking_on : IsLooking terms o t i.object w.snap p v.program → v.program.stage ≡ Looking → LeftAt w o t p v.program Looking (suc n) →
          (reply : SnapReply) → snap_answer W w.snap p ≡ Ok reply → Gone (followed v.program p reply w.limit) → LessLeft (followed v.program p reply w.limit)
      looking_on h stage left Silent answer gone =
          let on = quiet_on w.snap p left.0 left.1 answer in
          let less = on.1 in
          subst (λ (z : RoundStage). LeftAt (world_of (followed v.program p Silent w.limit)) o (paced_step t p Quiet) p v.program z n) (sym stage) (
            on.0,
            on.2,
            elim left.2 [
              | inl a ↦ let l = a.2 in inl (a.0, a.1, omega arith)
              | inr a ↦ elim a [ inl b ↦ let l = b.2 in inr (inl (b.0, b.1, omega arith)) | inr b ↦ let l = b.1 in inr (inr (b.0, omega arith)) ]
            ],
          )
      looking_on h stage left (HasPlace x) answer gone = absurd (let two : ToLook ≡ ToGo = sym h.phase ∙ gone.timed.is in cc)
      looking_on h stage left Written answer gone = absurd (let two : ToLook ≡ ToPropose (number_of v.program.stage) = sym h.phase ∙ gone.timed.is in cc)
      looking_on h stage left (Viewed view) answer gone = view_on h left view gone

      module _ (said : StepReply) (is : IsReply W w (Stepped p (Ok said))) where
        said_is : Ok said ≡ rename_answer W w p
        said_is = elim is [ inl e ↦ e | inr e ↦ absurd (let two : Ok said ≡ Err NoMemory = e.0 in cc) ]

        abbrev Nearer : Type 0
        Nearer = LeftAlone (next W w (Stepped p (Ok said))) (after o (Stepped p (Ok said))) (paced bounds t (Stepped p (Ok said))) p n

        conclude : (reply : SnapReply) → snap_answer W w.snap p ≡ Ok reply → stage_refusal v.program.stage ≡ None → LessLeft (followed v.program p reply w.limit) → Nearer
        conclude reply answer unclosed left =
            let f : Follow = followed v.program p reply w.limit in
            let same : Ok said ≡ Ok f.reply = said_is ∙ sym (reported_answer W w p v here reply unclosed (sym answer)) in
            let reported : f.reply ≡ said = cc in
            let state : world_of f ≡ after_rename_step W w p = reported_state W w p v here reply unclosed (sym answer) in
            subst (λ (x : RenameState S U K). LeftAlone x (after_step o p said) (paced_step t p said) p n) state
            (subst (λ (x : StepReply). LeftAlone (world_of f) (after_step o p x) (paced_step t p x) p n) reported (beginner p f.round, round_put f, left))

        nearer_at : (stage : RoundStage) → v.program.stage ≡ stage → IsAtStage terms o t i.object w.snap p v.program stage → LeftAt w o t p v.program stage (suc n) → Nearer
        nearer_at Placing e h left =
            let k : GoesBusy W w.snap p 0 = goes_busy W w.snap p 0 h.stands in
            conclude k.reply k.answer (ap stage_refusal e) (placing_on h e left k.reply (placing_gone W terms bounds Tie tie_goes w o t i p v here h e k))
        nearer_at (Proposing number) e h left =
            let k : GoesBusy W w.snap p (v.program.count + 1) = goes_busy W w.snap p (v.program.count + 1) h.stands in
            conclude k.reply k.answer (ap stage_refusal e) (proposing_on number h e left k.reply k.answer (proposing_gone W terms bounds Tie tie_goes w o t i p v here number h e k))
        nearer_at Looking e h left =
            let k : GoesBusy W w.snap p v.program.count = goes_busy W w.snap p v.program.count h.stands in
            conclude k.reply k.answer (ap stage_refusal e) (looking_on h e left k.reply k.answer (looking_gone W terms bounds Tie tie_goes w o t i p v here h e k))
        nearer_at Settled e h left = absurd (let two : Ok said ≡ Err Finished = said_is ∙ sym (closed_answer W w p Finished (refusal_here w p v here ∙ ap stage_refusal e)) in cc)
        nearer_at Over e h left = absurd left

    -- calls of others
    module _ (w : RenameState S U K) (o : RenameObject) (t : Pace) (i : IsTied terms Tie w o t) (p : ℕ) (v : Participant Round) (here : participant_of p w.rounds ≡ Some v) (q : ℕ) where
      module _ (goes : begin_refusal w.snap q ≡ None) where
        abbrev client : Client U K
        client = beginner_at W w.snap q

        abbrev snap1 : SnapState S U K
        snap1 = begun_snap W w q

        snap1_memory : snap1.memory ≡ w.snap.memory
        snap1_memory = rw goes refl

        other : p ≢ q
        other e = let both : true ≡ false = sym (i.joined p ∙ ap is_some here) ∙ ap (λ (x : ℕ). is_some (participant_of x w.snap.participants)) e ∙ ap is_some (let_in w.snap q goes).absent in absurd (cc)

        abbrev joined : RenameState S U K
        joined = begun_unless W None w q

        ends_still : (k : ℕ) → EndsAlone W w.snap p k → EndsAlone W joined.snap p k
        ends_still k h = let wishes = wish_becomes snap1 q (beginner q client) (begun_own W w q goes) (first_wish (has_place W w q)) in ends_alike W p w.snap joined.snap (wishes.memory ∙ snap1_memory) (wishes.others p other ∙ (has_begun W w.snap q goes).others p other) k h

        abbrev t' : Pace
        t' = paced bounds t (Began q (Ok tt))

        left_still : (n : ℕ) (stage : RoundStage) → LeftAt w o t p v.program stage n → LeftAt joined (after o (Began q (Ok tt))) t' p v.program stage n
        left_still n Placing left = let same : t'.steps p ≡ t.steps p = set_at-other t.steps q 0 p other in let l = left.1 in (left.0, omega arith)
        left_still n (Proposing number) left = (left.0, ends_still left.0 left.1, left.2)
        left_still n Looking left = (left.0, ends_still left.0 left.1, left.2)
        left_still n Settled left = left
        left_still n Over left = left

        joined_on : (n : ℕ) → LeftAt w o t p v.program v.program.stage n → LeftAlone joined (after o (Began q (Ok tt))) t' p n
        joined_on n left = (
          v,
          participant_of-push w.rounds (beginner q (first_round (has_place W w q))) (no_round W w q goes (i.joined q)) p ∙ set_at-other (λ u. participant_of u w.rounds) q (Some (beginner q (first_round (has_place W w q)))) p other ∙ here,
          left_still n v.program.stage left,
        )

      began_on : (n : ℕ) → LeftAt w o t p v.program v.program.stage n → (reply : Result (Unit {0}) Refusal) → reply ≡ done_unless (begin_refusal w.snap q) →
          LeftAlone (next W w (Began q reply)) (after o (Began q reply)) (paced bounds t (Began q reply)) p n
      began_on n left reply is = elim (begin_refusal w.snap q) as (λ z. begin_refusal w.snap q ≡ z → reply ≡ done_unless z → LeftAlone (begun_unless W z w q) (after o (Began q reply)) (paced bounds t (Began q reply)) p n) [
        | Some why ↦ λ e k. subst (λ (x : Result (Unit {0}) Refusal). LeftAlone w (after o (Began q x)) (paced bounds t (Began q x)) p n) (sym k) (v, here, left)
        | None ↦ λ e k. subst (λ (x : Result (Unit {0}) Refusal). LeftAlone (begun_unless W None w q) (after o (Began q x)) (paced bounds t (Began q x)) p n) (sym k) (joined_on e n left)
      ] refl is

      refused_next : (why : Refusal) → IsReply W w (Stepped q (Err why)) → next W w (Stepped q (Err why)) ≡ w
      refused_next why (inl e) = elim (lacked_memory {X = StepReply} (Err why)) as (λ b. cond b w (after_rename_step W w q) ≡ w) [ true ↦ refl | false ↦ step_refused W w q why (sym e) ]
      refused_next why (inr e) = let lacked : lacked_memory {X = StepReply} (Err why) ≡ true = ap lacked_memory e.0 in rw lacked refl

    -- a call that is no accepted step of another: a step of p takes one from what is left
    module _ (w : RenameState S U K) (o : RenameObject) (t : Pace) (i : IsTied terms Tie w o t) (p : ℕ) where
      counted_one : (q : ℕ) (said : StepReply) → steps_by p (Stepped q (Ok said)) ≤ 1
      counted_one q said = elim (q == p) as (λ b. cond b 1 0 ≤ 1) [ true ↦ omega arith | false ↦ omega arith ]

      stepped_on : (n : ℕ) → LeftAlone w o t p n → (said : StepReply) → IsReply W w (Stepped p (Ok said)) → no_step o p ≡ None →
          (m : ℕ) × (m + 1 ≤ n) × LeftAlone (next W w (Stepped p (Ok said))) (after o (Stepped p (Ok said))) (paced bounds t (Stepped p (Ok said))) p m
      stepped_on zero left said is none = absurd (
          let begun : o.begun p ≡ true = i.begun p ∙ ap is_some left.1 in
          let named : is_some (o.name p) ≡ true = ends_named w o t i p left in
          let two : Some Finished ≡ None = rw (begun, named) at none in
          cc)
      stepped_on (suc n) left said is none = (n, omega arith, nearer_at w o t i p left.0 left.1 n said is left.0.program.stage refl (i.stages p left.0 left.1) left.2)

      pub call_alone : (h : Call StepReply) → IsReply W w h → Allows terms o h → LeavesAlone p h → (n : ℕ) → LeftAlone w o t p n → (m : ℕ) × (m + steps_by p h ≤ n) × LeftAlone (next W w h) (after o h) (paced bounds t h) p m
      call_alone (Began q reply) is allowed alone n left = (n, omega arith, began_on w o t i p left.0 left.1 q n left.2 reply is)
      call_alone (Stepped q (Err why)) is allowed alone n left = (n, omega arith, subst (λ (x : RenameState S U K). LeftAlone x o t p n) (sym (refused_next w o t i p left.0 left.1 q why is)) left)
      call_alone (Stepped q (Ok said)) is allowed alone n left =
          let own : IsReply W w (Stepped p (Ok said)) = subst (λ (x : ℕ). IsReply W w (Stepped x (Ok said))) alone is in
          let none : no_step o p ≡ None = subst (λ (x : ℕ). no_step o x ≡ None) alone allowed.0 in
          let k = stepped_on n left said own none in
          let one = counted_one q said in
          let less = k.1 in
          (k.0, omega arith, subst (λ (x : ℕ). LeftAlone (next W w (Stepped x (Ok said))) (after o (Stepped x (Ok said))) (paced bounds t (Stepped x (Ok said))) p k.0) (sym alone) k.2)
