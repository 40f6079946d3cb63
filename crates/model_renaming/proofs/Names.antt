-- every renaming world keeps the law of renaming
use Rattle.std.proofs.Common.{◌≤◌, None, is_some, IsOk, ◌≡◌, ◌+◌, false, ℕ, ◌==◌, Bool, true, List, [], ◌∷◌, ◌++◌, Option, Some, refl, sym, ap, ◌∙◌, arith, option_map, option_and_then}
use Rattle.model_renaming.proofs.Common.{Call, Began, Stepped, Participant, NotBegun, participant_of, Run, PlacesLaws, BoundsScans, KnownPlaces, Client, StandsAt, GoesBusy, goes_busy, client_of, access_of, snapshot, SnapCall, snap_next, IsSnapReply, is_tree, WorldKind, StepReply, Round, RoundStage, Placing, Proposing, Looking, Settled, Over, Reaches, RenameState, name_in, name_by, owner_by, shown_by, step_refusal, rename_answer, may_lack, name_at, stage_refusal, standing_by}
use Rattle.model_steps.proofs.cited.RunLemmas.{run_more, run_keeps, run_one}
use Rattle.model_snapshot.specs.SnapWorld.{SnapState, IsAccessFor}
use Rattle.model_snapshot.proofs.cited.Following.{own_access_holds}
use Rattle.model_snapshot.specs.Snapshot.{IsMoment, SnapObject, SnapBounds, bounds_over, observed, Allows as SnapAllows, new_object as new_snap}
use Rattle.model_renaming.specs.Law.{RenameSpec}
use Rattle.model_renaming.specs.Pace.{Pace, InTime, new_pace, paced, IsPaced}
use Rattle.model_renaming.specs.Machine.{next, IsReply, fresh_over, IsRenameStart, renaming, terms_of}
use Rattle.model_renaming.specs.RenameObject.{RenameTerms, RenameObject, new_object, Allows, after, IsRun, IsOwner}
use Rattle.model_snapshot.proofs.cited.Alone.{ends_soon_alone}
use Rattle.model_renaming.proofs.Alone.{Grounds}
use Rattle.model_renaming.proofs.AloneRuns.{KeepsAlone, alone_fresh, alone_more, alone_named}
use Rattle.model_renaming.proofs.Ruled.{IsRuled, ruled_fresh, ruled_more}
use Rattle.model_renaming.proofs.Clocked.{AreRising, IsClocked, are_rising, clocked_fresh, clocked_more, ends_among}
use Rattle.model_renaming.proofs.rounds.Beginning.{begin_goes}
use Rattle.model_renaming.proofs.rounds.Keeping.{Goes, step_goes}
use Rattle.model_renaming.proofs.rounds.Shown.{standing_of, shown_rising, shown_is, Owns, owner_is}
use Rattle.model_renaming.proofs.cited.Sizes.{most_after}
use Rattle.model_renaming.proofs.rounds.Snapping.{AreAfter, after_none, after_more}
use Rattle.model_renaming.proofs.rounds.Standing.{standing_fresh, distinct_names, name_small}
use Rattle.model_renaming.proofs.rounds.Tied.{IsAtStage, IsTied}

-- what is assumed of places that names are given over, whose scans take no more steps than this
pub record MayBeNamed {S R V U K : Type 0} (W : KnownPlaces S R V U K) (grows : Bool) (most : ℕ) (scanning : ℕ → ℕ) : Type 0 where
  pub laws : PlacesLaws W
  pub fits : BoundsScans W most scanning
  pub may_grow : (s : RenameState S U K) (p : ℕ) → may_lack W s p ≡ true → grows ≡ true
  pub at_once : (b q : ℕ) → is_some (W.place_of (W.walker_from b q)) ≡ (W.ties.placing 1 == 0)
  pub longer : (b : ℕ) → scanning b ≤ scanning (b + 1)

module _ {S R V U K : Type 0} (W : KnownPlaces S R V U K) (kind : WorldKind) (scanning : ℕ → ℕ) (first : S × ℕ) (named : MayBeNamed W (is_tree kind) (W.most_of first.0) scanning) (start : IsRenameStart W first) where
  abbrev terms : RenameTerms
  terms = terms_of W kind first

  abbrev bounds : SnapBounds
  bounds = bounds_over W first.0 scanning

  abbrev Tie : SnapState S U K → SnapObject → Type 0
  Tie w o = AreAfter W named.laws bounds first.0 w o

  pub tie_goes : (w : SnapState S U K) (o : SnapObject) (h : SnapCall) → Tie w o → IsSnapReply W w h → Tie (snap_next W w h) (observed o h) × SnapAllows bounds o h
  tie_goes = after_more W named.laws first.0 scanning start.new named.fits

  pub grounds : Grounds W terms bounds Tie
  grounds = record {
    soon = λ w o p k. ends_soon_alone W named.laws w p first.0 k.calls k.world start.new bounds (o, k.object);
    collects = refl;
    full = refl;
    farther = named.laws.farther;
  }

  pub rising : AreRising bounds
  rising = are_rising bounds named.laws.farther named.longer

  abbrev Tied : RenameState S U K → RenameObject → Pace → Type 0
  Tied = IsTied terms Tie

  -- the object and the pace of the law are tied to the world
  pub record Holds (w : RenameState S U K) (r : List (Call StepReply)) : Type 0 where
    pub object : RenameObject
    pub run : IsRun terms r object
    pub paces : IsPaced bounds r
    pub tied : Tied w object paces.0
    pub alone : KeepsAlone W terms bounds Tie tie_goes grounds w r object paces.0
    pub ruled : IsRuled object paces.0
    pub clocked : IsClocked terms bounds r object paces.0

  fresh_tied : Tied (fresh_over W first) new_object new_pace
  fresh_tied = record {
    object = new_snap;
    tie = after_none W named.laws bounds first.0;
    same_many = refl;
    as_many = refl;
    limit = refl;
    low = start.low;
    high = start.high;
    most = refl;
    many = refl;
    roomy = omega arith;
    counted = refl;
    distinct = tt;
    begun = λ p. refl;
    joined = λ p. refl;
    last = refl;
    moment = refl;
    place = refl;
    standing = standing_fresh new_object (λ p. refl) (λ p. refl) (λ i p. refl) (λ p. refl);
    absent = λ p h. (refl, refl, refl, refl);
    counts = λ p v h. absurd (cc);
    stages = λ p v h. absurd (cc);
  }

  goes : (w : RenameState S U K) (o : RenameObject) (t : Pace) → Tied w o t → (h : Call StepReply) → IsReply W w h → Goes W terms bounds Tie tie_goes w o t h
  goes w o t i (Began p reply) is = begin_goes W terms bounds Tie tie_goes w o t i p named.at_once reply is
  goes w o t i (Stepped p reply) is = step_goes W terms bounds Tie tie_goes w o t i p named.may_grow reply is

  keeps : (w : RenameState S U K) (r : List (Call StepReply)) (h : Call StepReply) → Holds w r → IsReply W w h → Holds (next W w h) (r ++ h ∷ [])
  keeps w r h k is =
      let g = goes w k.object k.paces.0 k.tied h is in
      record {
        object = after k.object h;
        run = run_more after (Allows terms) new_object r k.object h k.run g.allowed;
        paces = (paced bounds k.paces.0 h, run_more (paced bounds) (InTime bounds) new_pace r k.paces.0 h k.paces.1 g.timed);
        tied = g.tied;
        alone = alone_more W terms bounds Tie tie_goes grounds w r k.object k.paces.0 k.tied k.run k.alone h is g;
        ruled = ruled_more terms bounds k.object k.paces.0 k.ruled h g.allowed g.timed;
        clocked = clocked_more terms bounds rising r k.object k.paces.0 k.clocked h g.allowed g.timed;
      }

  pub holds : (w : RenameState S U K) (r : List (Call StepReply)) → Run (next W) (IsReply W) (fresh_over W first) r w → Holds w r
  holds w r a = run_keeps (next W) (IsReply W) Holds keeps (fresh_over W first) [] r w (record { object = new_object; run = refl; paces = (new_pace, refl); tied = fresh_tied; alone = alone_fresh W terms bounds Tie tie_goes grounds (fresh_over W first) new_pace; ruled = ruled_fresh; clocked = clocked_fresh terms bounds rising }) a

-- every world after some calls keeps the law
module _ {S R V U K : Type 0} (W : KnownPlaces S R V U K) (kind : WorldKind) (scanning : ℕ → ℕ) (first : S × ℕ) (named : MayBeNamed W (is_tree kind) (W.most_of first.0) scanning)
    (w : RenameState S U K) (r : List (Call StepReply)) (a : Reaches (renaming W kind) first w r) where
  -- the world has room for as many as its places have
  pub most_is : W.most_of first.0 ≡ w.snap.most
  most_is = sym (most_after W (fresh_over W first) r w a.run)

  k : Holds W kind scanning first named a.started w r
  k = holds W kind scanning first named a.started w r a.run

  pub rename_law : RenameSpec (terms_of W kind first) (bounds_over W first.0 scanning) r
  rename_law = record {
    object = k.object;
    run = k.run;
    one_to_one = distinct_names k.object k.tied.standing;
    in_range = λ p n e. let h = k.tied.standing.held p n e in name_small k.object k.tied.standing p n h.index h.recent.no_later h.sole;
    paced = k.paces;
    alone = alone_named W (terms_of W kind first) (bounds_over W first.0 scanning) (Tie W kind scanning first named a.started) (tie_goes W kind scanning first named a.started) (grounds W kind scanning first named a.started) w r k.object k.paces.0 k.tied k.run k.alone;
    ends = ends_among (terms_of W kind first) (bounds_over W first.0 scanning) (rising W kind scanning first named a.started) r k.object k.paces.0 k.ruled k.clocked k.tied.roomy;
  }

  -- the object is the one that may answer so
  same : (o : RenameObject) → IsRun (terms_of W kind first) r o → k.object ≡ o
  same o run = run_one after (Allows (terms_of W kind first)) new_object r k.object o k.run run

  abbrev AtStage : ℕ → Round → RoundStage → Type 0
  AtStage p round stage = IsAtStage (terms_of W kind first) k.object k.paces.0 k.tied.object w.snap p round stage

  name_at_stage : (p : ℕ) (round : Round) (stage : RoundStage) → AtStage p round stage → name_at stage round.proposal ≡ k.object.name p
  name_at_stage p round Settled h = sym h.1
  name_at_stage p round Over h = sym h.0
  name_at_stage p round stage h = sym h.going.unnamed

  -- the name of an identity is its name in the object
  pub name_law : (o : RenameObject) → IsRun (terms_of W kind first) r o → (p : ℕ) → name_in w p ≡ o.name p
  name_law o run p = (elim (participant_of p w.rounds) as (λ z. participant_of p w.rounds ≡ z → name_by (option_map (λ u. u.program) z) ≡ k.object.name p) [
    | None ↦ λ h. sym (k.tied.absent p h).1
    | Some v ↦ λ h. name_at_stage p v.program v.program.stage (k.tied.stages p v h)
  ]) refl ∙ ap (λ (x : RenameObject). x.name p) (same o run)

  -- the identity that is found as the owner of a name has it in the object
  pub owner_law : (o : RenameObject) → IsRun (terms_of W kind first) r o → (n : ℕ) → IsOwner o n (owner_by n w.rounds)
  owner_law o run n = owned (owner_by n w.rounds) (owner_is n w.rounds k.tied.distinct) where
    owned : (p : Option ℕ) → Owns (λ q. name_in w q) n p → IsOwner o n p
    owned None h = λ q e. h q (name_law o run q ∙ e)
    owned (Some p) h = sym (name_law o run p) ∙ h

  shown_at : (q : ℕ) → standing_of q w.rounds ≡ k.object.moment k.object.last q
  shown_at q = (elim (participant_of q w.rounds) as (λ z. participant_of q w.rounds ≡ z → option_and_then standing_by (option_map (λ u. u.program) z) ≡ k.object.moment k.object.last q) [
    | None ↦ λ h. sym (k.tied.standing.absent q k.object.last (k.tied.absent q h).0 (omega arith))
    | Some v ↦ λ h. sym (k.tied.counts q v h).now
  ]) refl

  -- the proposals that the rounds say are the last moment
  pub shown_law : (o : RenameObject) → IsRun (terms_of W kind first) r o → IsMoment (shown_by [] w.rounds) (o.moment o.last)
  shown_law o run = record {
    rising = shown_rising [] w.rounds tt;
    values = λ q. shown_is q w.rounds k.tied.distinct ∙ shown_at q ∙ ap (λ (x : RenameObject). x.moment x.last q) (same o run);
  }

  -- who takes part in the snapshot object has a round, and who has one takes part
  pub joined_law : (p : ℕ) → is_some (participant_of p w.snap.participants) ≡ is_some (participant_of p w.rounds)
  joined_law = k.tied.joined

  -- the calls of the snapshot object that have led to this
  pub snap_after : (calls : List SnapCall) × Reaches (snapshot W) first.0 w.snap calls
  snap_after = (k.tied.tie.calls, k.tied.tie.world)

  -- a step of one who has something to do is answered
  busy_answered : (p : ℕ) (v : Participant Round) → participant_of p w.rounds ≡ Some v → stage_refusal v.program.stage ≡ None → (n : ℕ) → StandsAt w.snap p false n → IsOk (rename_answer W w p)
  busy_answered p v here unclosed n stands =
      let goes : GoesBusy W w.snap p n = goes_busy W w.snap p n stands in
      rw (here, unclosed, goes.answer) refl

  open_answered : (p : ℕ) (v : Participant Round) → participant_of p w.rounds ≡ Some v → (stage : RoundStage) → v.program.stage ≡ stage → AtStage p v.program stage → stage_refusal stage ≡ None → IsOk (rename_answer W w p)
  open_answered p v here Placing e h unclosed = busy_answered p v here (ap stage_refusal e ∙ unclosed) 0 h.stands
  open_answered p v here (Proposing number) e h unclosed = busy_answered p v here (ap stage_refusal e ∙ unclosed) (v.program.count + 1) h.stands
  open_answered p v here Looking e h unclosed = busy_answered p v here (ap stage_refusal e ∙ unclosed) v.program.count h.stands
  open_answered p v here Settled e h unclosed = absurd (cc)
  open_answered p v here Over e h unclosed = absurd (cc)

  pub answered_law : (p : ℕ) → step_refusal w p ≡ None → IsOk (rename_answer W w p)
  answered_law p unrefused = elim (participant_of p w.rounds) as (λ z. participant_of p w.rounds ≡ z → IsOk (rename_answer W w p)) [
    | None ↦ λ h. absurd (let no : Some NotBegun ≡ None = rw h at unrefused in cc)
    | Some v ↦ λ h. open_answered p v h v.program.stage refl (k.tied.stages p v h) (rw h at unrefused)
  ] refl

  -- its accesses are those of the snapshot object
  pub own_law : (p : ℕ) (c : Client U K) → client_of p w ≡ Some c → IsAccessFor W w.snap.memory c c.pending (access_of W c)
  own_law p c h = own_access_holds W named.laws w.snap p first.0 k.tied.tie.calls k.tied.tie.world a.started.new c h
