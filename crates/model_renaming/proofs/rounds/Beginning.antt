-- one more begins in a renaming world
use Rattle.std.proofs.Common.{◌==◌, cond, ◌≡◌, ◌≢◌, ℕ, ◌+◌, ◌<◌, ◌≤◌, Bool, true, false, List, [], ◌∷◌, ◌++◌, length, Option, Some, None, Result, Ok, inl, inr, refl, sym, ap, subst, ◌∙◌, arith, is_some}
use Rattle.model_renaming.proofs.Common.{eqb_tells, set_at, set_at-same, set_at-other, Participant, Refusal, participant_of, beginner, Began, begin_refusal, done_unless, participant_of-push, SnapState, after_update, SnapCall, snap_next, IsSnapReply, SnapObject, SnapBounds, observed, SnapAllows, asked_for, with_update, ToPlace, ToUpdate, Round, first_round, first_wish, RenameState, KnownPlaces, ToGo, ToPropose, after_wish, begun_snap, has_place, begun_unless, has_begun, goes_idle}
use Rattle.std.proofs.lemmas.List.{length-append}
use Rattle.model_steps.proofs.cited.WorldKeeps.{IsLetIn, let_in}
use Rattle.model_snapshot.specs.SnapCalls.SnapCall.{Began as SnapBegan, Updated}
use Rattle.model_renaming.specs.Pace.{Pace, paced, first_phase}
use Rattle.model_renaming.specs.RenameObject.{RenameTerms, RenameObject, no_begin, after}
use Rattle.model_renaming.proofs.rounds.Standing.{standing_begun}
use Rattle.model_renaming.proofs.rounds.StepCases.{begun_placed, no_round}
use Rattle.model_snapshot.specs.Standing.{StandsAt, HasBegun}
use Rattle.model_renaming.proofs.Large.{update_large}
use Rattle.model_renaming.proofs.rounds.Tied.{IsAtStage, IsCounted, IsTied, Carries, Spares, since_kept, spares_task, spares_next, counted_on, stage_on}
use Rattle.model_steps.proofs.cited.DistinctParticipants.{distinct_push}
use Rattle.model_renaming.proofs.rounds.Keeping.{Goes}

module _ {S R V U K : Type 0} (W : KnownPlaces S R V U K) (terms : RenameTerms) (bounds : SnapBounds)
    (Tie : SnapState S U K → SnapObject → Type 0)
    (tie_goes : (w : SnapState S U K) (o : SnapObject) (h : SnapCall) → Tie w o → IsSnapReply W w h → Tie (snap_next W w h) (observed o h) × SnapAllows bounds o h)
    (w : RenameState S U K) (o : RenameObject) (t : Pace) (i : IsTied terms Tie w o t) (p : ℕ) (at_once : (b q : ℕ) → is_some (W.place_of (W.walker_from b q)) ≡ (bounds.placing 1 == 0)) where
  begin_is : no_begin terms o p ≡ begin_refusal w.snap p
  begin_is =
      let b : o.begun p ≡ is_some (participant_of p w.snap.participants) = i.begun p ∙ sym (i.joined p) in
      let m : o.many ≡ length w.snap.participants = i.many ∙ i.counted in
      rw (b, i.most, m) refl

  module _ (goes : begin_refusal w.snap p ≡ None) where
    abbrev s : SnapObject
    s = i.object

    abbrev snap1 : SnapState S U K
    snap1 = begun_snap W w p

    abbrev s1 : SnapObject
    s1 = observed s (SnapBegan p (Ok tt))

    inside : IsLetIn w.snap p
    inside = let_in w.snap p goes

    snap1_most : snap1.most ≡ w.snap.most
    snap1_most = rw goes refl

    begun : HasBegun W w.snap p
    begun = has_begun W w.snap p goes

    stands1 : StandsAt snap1 p (has_place W w p) 0
    stands1 = subst (λ (b : Bool). StandsAt snap1 p b 0) (sym (begun_placed W w p goes)) begun.stands

    tie1 : Tie snap1 s1
    tie1 = (tie_goes w.snap s (SnapBegan p (Ok tt)) i.tie (sym (ap done_unless goes))).0

    abbrev o' : RenameObject
    o' = after o (Began p (Ok tt))

    abbrev t' : Pace
    t' = paced bounds t (Began p (Ok tt))

    -- the phase in which it begins
    phase_is : (b : Bool) → has_place W w p ≡ b → first_phase bounds ≡ cond b (ToPropose 1) ToGo
    phase_is b e = ap (λ (c : Bool). cond c (ToPropose 1) ToGo) (sym (at_once (length w.snap.participants) p) ∙ sym (begun_placed W w p goes) ∙ e)

    new_round : participant_of p w.rounds ≡ None
    new_round = no_round W w p goes (i.joined p)

    -- what the new participant owes
    pub record HasJoined (snap : SnapState S U K) (r : Round) (u : SnapObject) : Type 0 where
      pub tie : Tie snap u
      pub most : snap.most ≡ w.snap.most
      pub many : length snap.participants ≡ length w.snap.participants + 1
      pub there : is_some (participant_of p snap.participants) ≡ true
      pub who : (q : ℕ) → q ≢ p → participant_of q snap.participants ≡ participant_of q w.snap.participants
      pub last : u.last ≡ s.last
      pub as_many : u.begun ≡ s.begun + 1
      pub moment : u.moment ≡ s.moment
      pub place : u.place ≡ s.place
      pub spares : Spares p s u
      pub count : IsCounted o' p r
      pub own : IsAtStage terms o' t' u snap p r r.stage

    module _ (snap : SnapState S U K) (r : Round) (u : SnapObject) (k : HasJoined snap r u) where
      abbrev rounds' : List (Participant Round)
      rounds' = w.rounds ++ beginner p r ∷ []

      round_own : participant_of p rounds' ≡ Some (beginner p r)
      round_own = participant_of-push w.rounds (beginner p r) new_round p ∙ set_at-same (λ v. participant_of v w.rounds) p (Some (beginner p r))

      round_other : (q : ℕ) → q ≢ p → participant_of q rounds' ≡ participant_of q w.rounds
      round_other q n = participant_of-push w.rounds (beginner p r) new_round q ∙ set_at-other (λ v. participant_of v w.rounds) p (Some (beginner p r)) q n

      round_is : (q : ℕ) (v : Participant Round) → q ≡ p → participant_of q rounds' ≡ Some v → beginner p r ≡ v
      round_is q v e h =
          let is : Some (beginner p r) ≡ Some v = sym round_own ∙ ap (λ (x : ℕ). participant_of x rounds') (sym e) ∙ h in
          cc

      carries : (q : ℕ) → q ≢ p → Carries o o' t t' s u w.snap snap q
      carries q n = record {
        place = refl;
        name = refl;
        spent = refl;
        count = refl;
        since = refl;
        many = omega arith;
        now = refl;
        task = (k.spares q n).0;
        later = since_kept s u q (k.spares q n).1 (k.spares q n).2 (let e = k.last in omega arith);
        who = k.who q n;
        phase = set_at-other t.phase p (first_phase bounds) q n;
        pace = set_at-other t.steps p 0 q n;
        snap_pace = (k.spares q n).1;
      }

      tied_joined : IsTied terms Tie (record { snap = snap; rounds = rounds'; limit = w.limit }) o' t'
      tied_joined = record {
        object = u;
        tie = k.tie;
        as_many = ap (λ (n : ℕ). n + 1) i.as_many ∙ sym k.as_many;
        same_many = ap (λ (n : ℕ). n + 1) i.same_many;
        limit = i.limit;
        low = i.low;
        high = i.high;
        most = i.most ∙ sym k.most;
        many = ap (λ (n : ℕ). n + 1) i.many ∙ sym (length-append w.rounds (beginner p r ∷ []));
        roomy = (let a = inside.room in let b = i.many in let c = i.counted in let d = i.most in omega arith);
        counted = length-append w.rounds (beginner p r ∷ []) ∙ ap (λ (n : ℕ). n + 1) i.counted ∙ sym k.many;
        distinct = distinct_push w.rounds (beginner p r) new_round i.distinct;
        begun = λ q. elim (eqb_tells q p) [
          | inl e ↦ rw e.1 (set_at-same o.begun p true ∙ sym (ap is_some round_own))
          | inr e ↦ set_at-other o.begun p true q e.1 ∙ i.begun q ∙ sym (ap is_some (round_other q e.1))
        ];
        joined = λ q. elim (eqb_tells q p) [
          | inl e ↦ rw e.1 (k.there ∙ sym (ap is_some round_own))
          | inr e ↦ ap is_some (k.who q e.1) ∙ i.joined q ∙ sym (ap is_some (round_other q e.1))
        ];
        last = i.last ∙ sym k.last;
        moment = i.moment ∙ sym k.moment;
        place = i.place ∙ sym k.place;
        standing = standing_begun o p i.standing;
        absent = λ q h. elim (eqb_tells q p) [
          | inl e ↦ absurd (let no : Some (beginner p r) ≡ None = sym round_own ∙ ap (λ (x : ℕ). participant_of x rounds') (sym e.1) ∙ h in cc)
          | inr e ↦ i.absent q (sym (round_other q e.1) ∙ h)
        ];
        counts = λ q v h. elim (eqb_tells q p) [
          | inl e ↦ let same = round_is q v e.1 h in rw (e.1, ← same) k.count
          | inr e ↦ counted_on terms o o' t t' s u w.snap snap q (carries q e.1) v.program (i.counts q v (sym (round_other q e.1) ∙ h))
        ];
        stages = λ q v h. elim (eqb_tells q p) [
          | inl e ↦ let same = round_is q v e.1 h in rw (e.1, ← same) k.own
          | inr e ↦ stage_on terms o o' t t' s u w.snap snap q (carries q e.1) v.program v.program.stage (i.stages q v (sym (round_other q e.1) ∙ h))
        ];
      }

    unborn : (o.count p ≡ 0) × (o.name p ≡ None) × (o.spent p ≡ false) × (o.place p ≡ None)
    unborn = i.absent p new_round

    -- who begins has proposed nothing
    first_count : (b : Bool) → IsCounted o' p (first_round b)
    first_count b = record { count = unborn.0; now = i.standing.absent p o.last unborn.0 (omega arith) }

    some_room : 1 ≤ terms.limit
    some_room = let a = i.low in let b = i.limit in omega arith

    -- on its way
    walks_on : has_place W w p ≡ false → HasJoined snap1 (first_round false) s1
    walks_on e = record {
      tie = tie1;
      most = snap1_most;
      many = begun.many;
      there = ap is_some begun.stands.is;
      who = begun.others;
      last = refl;
      as_many = refl;
      moment = refl;
      place = refl;
      spares = spares_next p s ToPlace 0 0;
      count = first_count false;
      own = record {
        going = record { unnamed = unborn.1; left = unborn.2 };
        none = refl;
        unplaced = unborn.3;
        task = set_at-same s.task p ToPlace;
        stands = subst (λ (b : Bool). StandsAt snap1 p b 0) e stands1;
        phase = set_at-same t.phase p (first_phase bounds) ∙ phase_is false e;
        pace = set_at-same t.steps p 0 ∙ sym (set_at-same s.steps p 0);
      };
    }

    -- it has a place at once
    module _ (e : has_place W w p ≡ true) where
      stands2 : StandsAt snap1 p true 0
      stands2 = subst (λ (b : Bool). StandsAt snap1 p b 0) e stands1

      few : 0 < 1000000
      few = omega arith

      abbrev snap2 : SnapState S U K
      snap2 = after_update snap1 p 1

      proposes : HasJoined snap2 (first_round true) (with_update (asked_for s1 p (ToUpdate 1)) p)
      proposes = record {
        tie = (tie_goes snap1 s1 (Updated p 1 (Ok tt)) tie1 (sym (ap done_unless ((goes_idle W snap1 p 0 stands2).update few)))).0;
        most = (update_large snap1 p 1).most ∙ snap1_most;
        many = (update_large snap1 p 1).many ∙ begun.many;
        there = ap is_some ((goes_idle W snap1 p 0 stands2).more few 1).stands.is;
        who = λ q n. ((goes_idle W snap1 p 0 stands2).more few 1).others q n ∙ begun.others q n;
        last = refl;
        as_many = refl;
        moment = refl;
        place = refl;
        spares = spares_task p s s1 (spares_next p s ToPlace 0 0) (ToUpdate 1) 0 0;
        count = first_count true;
        own = record {
          going = record { unnamed = unborn.1; left = unborn.2 };
          rounds = (let a = some_room in omega arith);
          positive = omega arith;
          small = omega arith;
          task = set_at-same (set_at s.task p ToPlace) p (ToUpdate 1);
          stands = ((goes_idle W snap1 p 0 stands2).more few 1).stands;
          phase = set_at-same t.phase p (first_phase bounds) ∙ phase_is true e;
          pace = set_at-same t.steps p 0 ∙ sym (set_at-same (set_at s.steps p 0) p 0);
        };
      }

    joined_goes : IsTied terms Tie (begun_unless W None w p) o' t'
    joined_goes =
        let P : Bool → Type 0 = λ b. IsTied terms Tie (record { snap = after_wish snap1 p (first_wish b); rounds = w.rounds ++ beginner p (first_round b) ∷ []; limit = w.limit }) o' t' in
        elim (has_place W w p) as (λ b. has_place W w p ≡ b → P b) [
          | true ↦ λ e. tied_joined (snap2 e) (first_round true) (with_update (asked_for s1 p (ToUpdate 1)) p) (proposes e)
          | false ↦ λ e. tied_joined snap1 (first_round false) s1 (walks_on e)
        ] refl

  pub begin_goes : (reply : Result (Unit {0}) Refusal) → reply ≡ done_unless (begin_refusal w.snap p) → Goes W terms bounds Tie tie_goes w o t (Began p reply)
  begin_goes reply e =
      let P : Option Refusal → Type 0 = λ z. (reply ≡ done_unless z) → IsTied terms Tie (begun_unless W z w p) (after o (Began p reply)) (paced bounds t (Began p reply)) in
      record {
        allowed = e ∙ ap done_unless (sym begin_is);
        timed = tt;
        tied = (elim (begin_refusal w.snap p) as (λ z. begin_refusal w.snap p ≡ z → P z) [
          | None ↦ λ none k. subst (λ (x : Result (Unit {0}) Refusal). IsTied terms Tie (begun_unless W None w p) (after o (Began p x)) (paced bounds t (Began p x))) (sym k) (joined_goes none)
          | Some why ↦ λ some k. subst (λ (x : Result (Unit {0}) Refusal). IsTied terms Tie w (after o (Began p x)) (paced bounds t (Began p x))) (sym k) i
        ]) refl e;
      }
