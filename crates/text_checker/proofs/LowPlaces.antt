-- the places that a desk tells have at most 64 bits
use Rattle.std.proofs.Common.{◌≡◌, ℕ, ◌+◌, ◌*◌, ◌^◌, ◌<◌, ◌≤◌, true, false, List, [], ◌∷◌, ◌++◌, length, Option, Some, None, Result, Ok, Err, inl, refl, sym, ap, ◌∙◌, subst, arith, nat_le, option_and_then, option_map, if◌then◌else◌}
use Rattle.text_checker.proofs.Common.{Contains, Began, Stepped, participant_of, program_of, Run, Participant, Refusal, Config, StepReply, WorldKind, PoolStart, pool_start, stored_reply, Event, DeskValue}
use Rattle.std.proofs.lemmas.List.Elements.{Contains-append_right}
use Rattle.std.proofs.Math.Nat.{mul-le-mul}
use Rattle.std.proofs.Math.Pow.{pow_mono}
use Rattle.model_steps.specs.Calls.{Call, lacked_memory}
use Rattle.model_steps.specs.World.{begin_refusal, done_unless}
use Rattle.model_steps.specs.Machine.{Reaches}
use Rattle.model_steps.proofs.cited.MachineLemmas.{call_leads_on}
use Rattle.model_snapshot.specs.Machine.{snapshot}
use Rattle.model_snapshot.specs.declared.client.Client.{Client}
use Rattle.model_snapshot.specs.declared.client.SnapReply.{SnapReply}
use Rattle.model_snapshot.specs.declared.client.SnapReply.TheVariants as snap
use Rattle.model_snapshot.specs.Places.{KnownPlaces, PlacesLaws}
use Rattle.model_snapshot.specs.SnapCalls.{SnapCall, next as snap_next, IsReply as IsSnapReply}
use Rattle.model_snapshot.specs.SnapCalls.SnapCall.{Began as SnapBegan, Updated, Scanned, Stepped as SnapStepped}
use Rattle.model_snapshot.specs.SnapWorld.{SnapState, place_in, ways_of, way_now, scan_refusal, update_refusal, after_snap_step}
use Rattle.model_snapshot.proofs.cited.Following.{reported_holds, consistent_holds}
use Rattle.model_splitter.specs.grid.Door.{IsDoorWithin}
use Rattle.model_splitter.specs.grid.Walk as walk
use Rattle.model_splitter.proofs.cited.grid.GridLaw.{grid_law}
use Rattle.model_splitter.proofs.cited.grid.Numbers.{number_low}
use Rattle.model_splitter.specs.tree.TreeSteps.{tree_steps}
use Rattle.model_splitter.specs.tree.Walk as tree_walk
use Rattle.model_splitter.proofs.cited.tree.nodes.TreeLaw.{tree_law}
use Rattle.model_renaming.specs.declared.over.grid_walker.GridWalker.{GridWalker}
use Rattle.model_renaming.specs.declared.over.tree_walker.TreeWalker.{TreeWalker}
use Rattle.model_renaming.specs.over.GridState.{GridState}
use Rattle.model_renaming.specs.over.Tree.{TreeState}
use Rattle.model_renaming.specs.lemmas.over.GridProofs.{grid_laws}
use Rattle.model_renaming.specs.over.GridTies.{grid_places, walks_of}
use Rattle.model_renaming.specs.lemmas.over.TreeProofs.{tree_laws}
use Rattle.model_renaming.specs.over.TreeTies.{tree_places, walks_of as tree_walks_of}
use Rattle.model_renaming.specs.declared.reply.Reply.TheVariants as step
use Rattle.model_renaming.specs.declared.round.Round.{Round}
use Rattle.model_renaming.specs.declared.round.Wish.{Wish}
use Rattle.model_renaming.specs.declared.round.Wish.TheVariants.{Nothing, Update, Scan}
use Rattle.model_asked.specs.declared.kind.WorldKind.TheVariants as world
use Rattle.model_renaming.specs.Machine.{next, IsReply, renaming}
use Rattle.model_renaming.specs.RenameState.{RenameState}
use Rattle.model_renaming.specs.RenameWorld.{after_wish, begun_unless, snap_reported, answer_reported, answer_open, answer_by, rename_answer, after_reported, after_open, after_by, after_rename_step}
use Rattle.model_renaming.specs.Round.{stage_refusal, followed, decided, spent_by, saw_by, named_by}
use Rattle.model_asked.specs.rounds.Proposals.{is_taken}
use Rattle.model_pool.specs.declared.probe.Probe.{Probe}
use Rattle.model_pool.specs.declared.probe.Probe.TheVariants as probe
use Rattle.model_pool.specs.Pool.{enter_answer, probe_answer, number_answer, widen_answer}
use Rattle.model_asked.specs.declared.event.Event.TheVariants as event
use Rattle.model_asked.specs.declared.reply.Reply.TheVariants as reply
use Rattle.text_worlds.specs.desk.Desk.{desk_reply, IsAfterDesk}
use Rattle.text_worlds.specs.desk.DeskCalls.{DeskCall, ReachesDesk, rename_calls}
use Rattle.text_worlds.specs.desk.DeskState.{DeskState}
use Rattle.text_worlds.specs.desk.DeskValue.DeskValue.{OverGrid, OverTree}
use Rattle.text_worlds.specs.desk.DeskRules.{reply_over, fetched}
use Rattle.model_asked.specs.Replies.{done_reply, left_reply, value_reply}
use Rattle.text_worlds.specs.desk.Replies.{step_reply, probe_reply, seek_reply}
use Rattle.model_pool.specs.Sought.{seek_answer}

done_other : (answer : Result (Unit {0}) Refusal) (place : ℕ) → done_reply answer ≡ reply.Place place → ⊥
done_other (Ok done) place e = cc
done_other (Err why) place e = cc

probe_other : (answer : Result Probe Refusal) (place : ℕ) → probe_reply answer ≡ reply.Place place → ⊥
probe_other (Ok probe.Missed) place e = cc
probe_other (Ok (probe.Got n)) place e = cc
probe_other (Err why) place e = cc

seek_other : (answer : Result ℕ Refusal) (place : ℕ) → seek_reply answer ≡ reply.Place place → ⊥
seek_other (Ok n) place e = cc
seek_other (Err why) place e = cc

left_other : (answer : Result ℕ Refusal) (place : ℕ) → left_reply answer ≡ reply.Place place → ⊥
left_other (Ok n) place e = cc
left_other (Err why) place e = cc

value_other : (answer : Result ℕ Refusal) (place : ℕ) → value_reply answer ≡ reply.Place place → ⊥
value_other (Ok v) place e = cc
value_other (Err why) place e = cc

-- over places of one kind
module _ {S R V U K : Type 0} (W : KnownPlaces S R V U K) (laws : PlacesLaws W) where
  -- some calls of the snapshot object lead here
  record ComesFrom (first : S) (s : SnapState S U K) : Type 0 where
    calls : List SnapCall
    after : Reaches (snapshot W) first s calls

  called : (first : S) (s : SnapState S U K) (h : SnapCall) → ComesFrom first s → IsSnapReply W s h → ComesFrom first (snap_next W s h)
  called first s h k right = record { calls = k.calls ++ h ∷ []; after = call_leads_on (snapshot W) s (snap_next W s h) h refl right first k.calls k.after }

  wished : (first : S) (s : SnapState S U K) (p : ℕ) (wish : Wish) → ComesFrom first s → ComesFrom first (after_wish s p wish)
  wished first s p Nothing k = k
  wished first s p (Update value) k = called first s (Updated p value (done_unless (update_refusal s p))) k refl
  wished first s p Scan k = called first s (Scanned p (done_unless (scan_refusal s p))) k refl

  begun_so : (first : S) (w : RenameState S U K) (p : ℕ) (why : Option Refusal) → ComesFrom first w.snap → ComesFrom first (begun_unless W why w p).snap
  begun_so first w p None k = wished first _ p _ (called first w.snap (SnapBegan p (done_unless (begin_refusal w.snap p))) k refl)
  begun_so first w p (Some why) k = k

  reported_so : (first : S) (w : RenameState S U K) (p : ℕ) (r : Round) (reported : Result SnapReply Refusal) → snap_reported W w p ≡ reported → ComesFrom first w.snap → ComesFrom first (after_reported W w p r reported).snap
  reported_so first w p r (Ok said) e k = wished first (after_snap_step W w.snap p) p (followed r p said w.limit).wish (called first w.snap (SnapStepped p (Ok said)) k (inl (sym e)))
  reported_so first w p r (Err why) e k = k

  open_so : (first : S) (w : RenameState S U K) (p : ℕ) (r : Round) (why : Option Refusal) → ComesFrom first w.snap → ComesFrom first (after_open W w p r why).snap
  open_so first w p r None k = reported_so first w p r (snap_reported W w p) refl k
  open_so first w p r (Some why) k = k

  stepped_so : (first : S) (w : RenameState S U K) (p : ℕ) (r : Option Round) → ComesFrom first w.snap → ComesFrom first (after_by W w p r).snap
  stepped_so first w p None k = k
  stepped_so first w p (Some r) k = open_so first w p r (stage_refusal r.stage) k

  next_so : (first : S) (w : RenameState S U K) (h : Call StepReply) → ComesFrom first w.snap → ComesFrom first (next W w h).snap
  next_so first w (Began p answer) k = begun_so first w p (begin_refusal w.snap p) k
  next_so first w (Stepped p answer) k = elim (lacked_memory answer) as (λ b. ComesFrom first (if b then w else after_rename_step W w p).snap) [
    | true ↦ k
    | false ↦ stepped_so first w p (program_of p w.rounds) k
  ]

  run_so : (first : S) (w u : RenameState S U K) (r : List (Call StepReply)) → ComesFrom first w.snap → Run (next W) (IsReply W) w r u → ComesFrom first u.snap
  run_so first w u [] k e = subst (λ (x : RenameState S U K). ComesFrom first x.snap) (sym e) k
  run_so first w u (h ∷ r) k e = run_so first (next W w h) u r (next_so first w h k) e.1

  after_so : (kind : WorldKind) (w : RenameState S U K) (first : S × ℕ) (r : List (Call StepReply)) → Reaches (renaming W kind) first w r → ComesFrom first.0 w.snap
  after_so kind w first r a = run_so first.0 _ w r (record { calls = []; after = record { started = tt; run = refl } }) a.run

  -- a step that tells a place is one of the snapshot object that does
  decided_other : (r : Round) (p place : ℕ) (view : List (ℕ × ℕ)) (limit : ℕ) → (decided r p view limit).reply ≡ step.Placed place → ⊥
  decided_other r p place view limit =
      elim (is_taken p view r.proposal) as (λ b. (if b then (if nat_le limit r.count then spent_by r else saw_by r p view) else named_by r view).reply ≡ step.Placed place → ⊥) [
        | true ↦ elim (nat_le limit r.count) as (λ b. (if b then spent_by r else saw_by r p view).reply ≡ step.Placed place → ⊥) [ true ↦ λ e. cc | false ↦ λ e. cc ]
        | false ↦ λ e. cc
      ]

  followed_place : (r : Round) (p place : ℕ) (said : SnapReply) (limit : ℕ) → (followed r p said limit).reply ≡ step.Placed place → said ≡ snap.Placed place
  followed_place r p place (snap.Placed x) limit e = (let same : x ≡ place = cc in ap snap.Placed same)
  followed_place r p place (snap.View view) limit e = absurd (decided_other r p place view limit e)
  followed_place r p place said limit e = absurd (cc)

  reported_place : (w : RenameState S U K) (p place : ℕ) (r : Round) (reported : Result SnapReply Refusal) → answer_reported W w p r reported ≡ Ok (step.Placed place) → reported ≡ Ok (snap.Placed place)
  reported_place w p place r (Ok said) e = (let same : (followed r p said w.limit).reply ≡ step.Placed place = cc in ap (λ (x : SnapReply). Ok x) (followed_place r p place said w.limit same))
  reported_place w p place r (Err why) e = absurd (cc)

  open_place : (w : RenameState S U K) (p place : ℕ) (r : Round) (why : Option Refusal) → answer_open W w p r why ≡ Ok (step.Placed place) → snap_reported W w p ≡ Ok (snap.Placed place)
  open_place w p place r None e = reported_place w p place r (snap_reported W w p) e
  open_place w p place r (Some why) e = absurd (cc)

  answer_place : (w : RenameState S U K) (p place : ℕ) (r : Option Round) → answer_by W w p r ≡ Ok (step.Placed place) → snap_reported W w p ≡ Ok (snap.Placed place)
  answer_place w p place None e = absurd (cc)
  answer_place w p place (Some r) e = open_place w p place r (stage_refusal r.stage) e

  -- so where all places of a consistent memory are low, it is
  module _ (low : (s : S) (b : ℕ) (ways : ℕ → Option U) → W.ties.IsConsistent s b ways → (p : ℕ) (u : U) → ways p ≡ Some u → (place : ℕ) → W.place_of u ≡ Some place → place < 2 ^ 64) where
    way_low : (s : SnapState S U K) → W.ties.IsConsistent s.memory (length s.participants) (ways_of s.participants) → (p place : ℕ) → place_in W s p ≡ Some place → place < 2 ^ 64
    way_low s consistent p place =
        elim (participant_of p s.participants) as (λ z. participant_of p s.participants ≡ z → option_and_then (λ (c : Client U K). W.place_of c.walker) (option_map (λ (v : Participant (Client U K)). v.program) z) ≡ Some place → place < 2 ^ 64) [
          | None ↦ λ is e. absurd (cc)
          | Some v ↦ λ is e. low s.memory (length s.participants) (ways_of s.participants) consistent p v.program.walker (ap way_now is) place e
        ] refl

    place_low : (kind : WorldKind) (w : RenameState S U K) (first : S × ℕ) (r : List (Call StepReply)) → Reaches (renaming W kind) first w r → (p place : ℕ) → rename_answer W w p ≡ Ok (step.Placed place) → place < 2 ^ 64
    unfolding called
    place_low kind w first r a p place e =
        let reported : snap_reported W w p ≡ Ok (snap.Placed place) = answer_place w p place (program_of p w.rounds) e in
        let k = after_so kind w first r a in
        let h : SnapCall = SnapStepped p (Ok (snap.Placed place)) in
        let now = called first.0 w.snap h k (inl (sym reported)) in
        let there : Contains (k.calls ++ h ∷ []) h = Contains-append_right k.calls (h ∷ []) h (0, omega arith, refl) in
        let is = reported_holds W laws (after_snap_step W w.snap p) p first.0 (k.calls ++ h ∷ []) now.after a.started.new place there in
        way_low (after_snap_step W w.snap p) (consistent_holds W laws (after_snap_step W w.snap p) first.0 (k.calls ++ h ∷ []) now.after a.started.new) p place is

    step_low : (place : ℕ) (answer : Result StepReply Refusal) → step_reply answer ≡ reply.Place place → answer ≡ Ok (step.Placed place)
    step_low place (Ok (step.Placed x)) e = (let same : x ≡ place = cc in ap (λ (y : ℕ). Ok (step.Placed y)) same)
    step_low place answer e = absurd (cc)

    over_low : (kind : WorldKind) (most limit : ℕ) (start : PoolStart) (w : DeskState S U K) (calls : List DeskCall) → ReachesDesk W kind most limit start w calls → (e : Event) (place : ℕ) → reply_over W w e ≡ reply.Place place → place < 2 ^ 64
    over_low kind most limit start w calls a (event.Begin p) place e = absurd (done_other (done_unless (begin_refusal w.names.snap p)) place e)
    over_low kind most limit start w calls a (event.Step p) place e = place_low kind w.names (a.first, limit) (rename_calls calls) a.names p place (step_low place (rename_answer W w.names p) e)
    over_low kind most limit start w calls a (event.Enter p) place e = absurd (done_other (enter_answer w.slots.pool p) place e)
    over_low kind most limit start w calls a (event.Probe p) place e = absurd (probe_other (probe_answer w.slots.pool p) place e)
    over_low kind most limit start w calls a (event.Seek p) place e = absurd (seek_other (seek_answer w.slots.pool p) place e)
    over_low kind most limit start w calls a (event.Leave p) place e = absurd (left_other (number_answer w.slots.pool p) place e)
    over_low kind most limit start w calls a (event.Put p value) place e = absurd (done_other (stored_reply (number_answer w.slots.pool p)) place e)
    over_low kind most limit start w calls a (event.Get p) place e = absurd (value_other (fetched w.slots.values (number_answer w.slots.pool p)) place e)
    over_low kind most limit start w calls a (event.Widen more) place e = absurd (done_other (widen_answer w.slots.pool more) place e)

-- the doors of a grid, and the nodes of a tree
few_doors : (b : ℕ) → b ≤ 64 → b * (b + 1) ≤ 4160
few_doors b h = let more : b + 1 ≤ 65 = omega arith in mul-le-mul h more

grid_low : (s : GridState) (b : ℕ) (ways : ℕ → Option GridWalker) → grid_places.ties.IsConsistent s b ways → (p : ℕ) (u : GridWalker) → ways p ≡ Some u → (place : ℕ) → grid_places.place_of u ≡ Some place → place < 2 ^ 64
grid_low s b ways c p u is place at =
    let here : walk.place_by (walks_of ways p) ≡ Some place = ap (λ (x : Option GridWalker). walk.place_by (option_map (λ (v : GridWalker). v.walker) x)) is ∙ at in
    let within : IsDoorWithin b place = (grid_law s.most b s.doors (walks_of ways) c.doors).within p place here in
    let low = number_low b place within in
    let few = c.doors.few in
    let room = c.doors.room in
    let all = few_doors b (omega arith) in
    omega arith

tree_low : (s : TreeState) (b : ℕ) (ways : ℕ → Option TreeWalker) → tree_places.ties.IsConsistent s b ways → (p : ℕ) (u : TreeWalker) → ways p ≡ Some u → (place : ℕ) → tree_places.place_of u ≡ Some place → place < 2 ^ 64
tree_low s b ways c p u is place at =
    let here : tree_walk.place_by (tree_walks_of ways p) ≡ Some place = ap (λ (x : Option TreeWalker). tree_walk.place_by (option_map (λ (v : TreeWalker). v.walker) x)) is ∙ at in
    let within = (tree_law tree_steps s.most b s.nodes (tree_walks_of ways) c).within p place here in
    let low = within.within in
    let few = c.few in
    let room = c.room in
    let fits : b ≤ 64 = omega arith in
    let all = pow_mono fits in
    omega arith

-- each place that a desk tells after some calls
pub desk_low : (c : Config) (w : DeskValue) (calls : List DeskCall) → IsAfterDesk c w calls → (e : Event) (place : ℕ) → desk_reply w e ≡ reply.Place place → place < 2 ^ 64
desk_low c (OverGrid w) calls a e place is = over_low grid_places grid_laws grid_low world.Rename c.m c.limit (pool_start c) w calls a.1 e place is
desk_low c (OverTree w) calls a e place is = over_low tree_places tree_laws tree_low world.Tree c.m c.limit (pool_start c) w calls a.1 e place is
