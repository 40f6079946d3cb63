-- a step of a renaming world, by what its snapshot object answers
use Rattle.std.proofs.Common.{◌≡◌, ◌≢◌, ℕ, ◌+◌, ◌-◌, ◌*◌, ◌<◌, ◌≤◌, Bool, true, false, not, cond, List, length, Option, Some, Ok, inl, inr, refl, sym, ap, subst, ◌∙◌, arith, is_some, nat_lt, nat_le}
use Rattle.model_renaming.proofs.Common.{eqb_tells, leb_tells, set_at, value_of, set_at-same, Participant, participant_of, done_unless, KnownPlaces, SnapReply, Silent, HasPlace, Written, Viewed, SnapState, after_scan, after_update, SnapCall, snap_next, IsSnapReply, ToPlace, ToScan, ToUpdate, Idle, Saw, Quiet, Placed, Proposed, Named, Spent, Round, Follow, Nothing, Update, Scan, RoundStage, Placing, Proposing, Looking, Settled, Over, is_taken, next_proposal, RenameState, after_wish, world_with, snap_step, snap_reported, ToGo, ToPropose, ToLook, StandsAt, GoesBusy, is_quiet, goes_idle}
use Rattle.std.proofs.lemmas.Bool.{lt-ltb}
use Rattle.model_steps.proofs.cited.ParticipantLemmas.{some_begun}
use Rattle.model_snapshot.specs.SnapCalls.SnapCall.{Updated, Scanned, Stepped as SnapStepped}
use Rattle.model_snapshot.specs.Snapshot.{most_steps as snap_most, SnapObject, SnapBounds, Task, observed, Allows as SnapAllows, AllowsStep as SnapAllowsStep, since_of, stepped_to, asked_for, with_update, ShowsMoment, value_written, observed_step}
use Rattle.model_renaming.specs.Round.{followed, decided, at_stage, number_of, standing_by, written_round, named_by, spent_by, saw_by}
use Rattle.model_renaming.specs.RenameObject.{RenameTerms, RenameObject, IsRecent, IsSole, IsConflict, MayPropose, ShowsSole, AllowsStep, after_step}
use Rattle.model_renaming.specs.Pace.{Phase, Pace, IsStepOf, IsInTime, most_steps, paced_step}
use Rattle.model_renaming.proofs.rounds.Standing.{nobody_has, standing_elsewhere, name_small, standing_named, standing_proposed}
use Rattle.model_renaming.proofs.Large.{both_large, snap_large, scan_large, update_large}
use Rattle.model_renaming.proofs.rounds.Views.{taken_by, taken_not}
use Rattle.model_asked.proofs.cited.rounds.Numbers.{next_small}
use Rattle.model_renaming.proofs.rounds.Tied.{IsPlacing, IsProposing, IsLooking, IsAtStage, IsCounted, IsTied, IsStepped, spares_task, spares_stepped, tied_next}

same_moment : (m n : ℕ → ℕ → Option ℕ) (l k : ℕ) (t : Task) (p value : ℕ) → m ≡ n → l ≡ k → t ≡ ToUpdate value → set_at m (l + 1) (set_at (m l) p (Some value)) ≡ set_at n (k + 1) (set_at (n k) p (value_written t))
same_moment m n l k t p value e f g = rw (e, f, g) refl

-- who has made proposals, the last of them stands in the memory
pub standing_made : (count proposal : ℕ) (stage : RoundStage) → 1 ≤ count → standing_by (record { count = count; proposal = proposal; stage = stage }) ≡ Some proposal
standing_made count proposal stage some = elim (eqb_tells count 0) [ inl e ↦ absurd (let no = e.1 in omega arith) | inr e ↦ rw e.0 refl ]

module _ {S R V U K : Type 0} (W : KnownPlaces S R V U K) (terms : RenameTerms) (bounds : SnapBounds)
    (Tie : SnapState S U K → SnapObject → Type 0)
    (tie_goes : (w : SnapState S U K) (o : SnapObject) (h : SnapCall) → Tie w o → IsSnapReply W w h → Tie (snap_next W w h) (observed o h) × SnapAllows bounds o h)
    (w : RenameState S U K) (o : RenameObject) (t : Pace) (i : IsTied terms Tie w o t) (p : ℕ) (v : Participant Round) (here : participant_of p w.rounds ≡ Some v) where
  abbrev snap' : SnapState S U K
  snap' = snap_step W w p

  abbrev s : SnapObject
  s = i.object

  abbrev r : Round
  r = v.program

  -- the step may be answered so and comes in time, and the world after it is tied to object and pace after it
  pub record HasGone (f : Follow) : Type 0 where
    pub timed : IsInTime bounds t p f.reply
    pub allowed : AllowsStep terms o p f.reply
    pub tied : IsTied terms Tie (world_with w (after_wish snap' p f.wish) p f.round) (after_step o p f.reply) (paced_step t p f.reply)

  begun_is : o.begun p ≡ true
  begun_is = i.begun p ∙ ap is_some here

  many_some : 1 ≤ o.many
  many_some = let a = i.many in let b = some_begun p w.rounds v here in omega arith

  counted : IsCounted o p r
  counted = i.counts p v here

  -- the snapshot object may answer so
  tie_stepped : (reply : SnapReply) → snap_reported W w p ≡ Ok reply → Tie snap' (observed_step s p reply) × SnapAllowsStep bounds s p reply
  tie_stepped reply answer = tie_goes w.snap s (SnapStepped p (Ok reply)) i.tie (inl (sym answer))

  abbrev Others : Type 0
  Others = (q : ℕ) → q ≢ p → participant_of q snap'.participants ≡ participant_of q w.snap.participants

  -- nothing more is asked for
  stepped_by : (reply : SnapReply) (idle : Bool) (n : ℕ) → snap_reported W w p ≡ Ok reply → StandsAt snap' p idle n → Others → (observed_step s p reply).begun ≡ s.begun → IsStepped terms Tie w o t i p v here snap' (observed_step s p reply)
  stepped_by reply idle n answer stands others many = record {
    tie = (tie_stepped reply answer).0;
    snap_many = many;
    large = snap_large W w.snap p;
    there = ap is_some stands.is;
    who = others;
    spares = spares_stepped p s reply;
  }

  -- the bounds of the snapshot object are those of the law
  bound_is : (phase : Phase) (task : Task) → s.task p ≡ task → snap_most bounds s.begun task ≡ most_steps bounds s.begun phase → snap_most bounds s.begun (s.task p) ≡ most_steps bounds t.begun phase
  bound_is phase task f h = ap (snap_most bounds s.begun) f ∙ h ∙ ap (λ (b : ℕ). most_steps bounds b phase) (sym i.as_many)

  step_of : (phase : Phase) (task : Task) → t.phase p ≡ phase → s.task p ≡ task → t.steps p ≡ s.steps p → snap_most bounds s.begun task ≡ most_steps bounds s.begun phase → s.steps p + 1 ≤ snap_most bounds s.begun (s.task p) → IsStepOf bounds t p phase
  step_of phase task e f g h l = record { is = e; within = (let k = bound_is phase task f h in omega arith) }

  goes_on : (phase : Phase) (task : Task) → t.phase p ≡ phase → s.task p ≡ task → t.steps p ≡ s.steps p → snap_most bounds s.begun task ≡ most_steps bounds s.begun phase → s.steps p + 1 < snap_most bounds s.begun (s.task p) → IsInTime bounds t p Quiet
  goes_on phase task e f g h l =
      let k = bound_is phase task f h in
      let c : most_steps bounds t.begun (t.phase p) ≡ most_steps bounds t.begun phase = ap (most_steps bounds t.begun) e in
      omega arith

  -- quiet
  module _ (n : ℕ) (answer : snap_reported W w p ≡ Ok Silent) (stands : StandsAt snap' p false n) (others : Others) where
    abbrev quiet_s : SnapObject
    quiet_s = stepped_to s p (s.task p)

    quiet_task : quiet_s.task p ≡ s.task p
    quiet_task = set_at-same s.task p (s.task p)

    quiet_since : since_of quiet_s p ≡ since_of s p
    quiet_since =
        let a : quiet_s.steps p ≡ s.steps p + 1 = set_at-same s.steps p (s.steps p + 1) in
        let b : quiet_s.since p ≡ since_of s p = set_at-same s.since p (since_of s p) in
        elim (eqb_tells (quiet_s.steps p) 0) [
          | inl e ↦ absurd (let z = e.1 in omega arith)
          | inr e ↦ ap (λ (c : Bool). cond c quiet_s.last (quiet_s.since p)) e.0 ∙ b
        ]

    abbrev quiet_t : Pace
    quiet_t = paced_step t p Quiet

    quiet_gone : IsInTime bounds t p Quiet → IsAtStage terms o quiet_t quiet_s snap' p r r.stage → HasGone (record { round = r; wish = Nothing; reply = Quiet })
    quiet_gone timed own = record {
      timed = timed;
      allowed = tt;
      tied = tied_next terms Tie w o t i p v here snap' r Quiet quiet_s (record {
        stepped = stepped_by Silent false n answer stands others refl;
        last = i.last;
        moment = i.moment;
        place = i.place;
        standing = i.standing;
        count = counted;
        own = own;
      });
    }

  -- asked for an update, with these moments
  module _ (reply : SnapReply) (n value : ℕ) (answer : snap_reported W w p ≡ Ok reply) (stands : StandsAt snap' p true n) (others : Others) (few : n < 1000000) where
    abbrev update_s : SnapObject
    update_s = with_update (asked_for (observed_step s p reply) p (ToUpdate value)) p

    abbrev update_w : SnapState S U K
    update_w = after_update snap' p value

    updated : (observed_step s p reply).begun ≡ s.begun → IsStepped terms Tie w o t i p v here update_w update_s
    updated many = record {
      tie = (tie_goes snap' (observed_step s p reply) (Updated p value (Ok tt)) (tie_stepped reply answer).0 (sym (ap done_unless ((goes_idle W snap' p n stands).update few)))).0;
      snap_many = many;
      large = both_large w.snap snap' update_w (snap_large W w.snap p) (update_large snap' p value);
      there = ap is_some ((goes_idle W snap' p n stands).more few value).stands.is;
      who = λ q k. ((goes_idle W snap' p n stands).more few value).others q k ∙ others q k;
      spares = spares_task p s (observed_step s p reply) (spares_stepped p s reply) (ToUpdate value) 0 0;
    }

    update_task : update_s.task p ≡ ToUpdate value
    update_task = set_at-same (observed_step s p reply).task p (ToUpdate value)

  -- placed
  module _ (x : ℕ) (answer : snap_reported W w p ≡ Ok (HasPlace x)) (stands : StandsAt snap' p true 0) (others : Others) (h : IsPlacing o t s w.snap p r) where
    placed_few : 0 < 1000000
    placed_few = omega arith

    abbrev placed_s : SnapObject
    placed_s = with_update (asked_for (observed_step s p (HasPlace x)) p (ToUpdate 1)) p

    placed_gone : HasGone (record { round = at_stage r (Proposing 1); wish = Update 1; reply = Placed x })
    placed_gone =
        let stepped = tie_stepped (HasPlace x) answer in
        let new = stepped.1.2 in
        record {
          timed = step_of ToGo ToPlace h.phase h.task h.pace refl stepped.1.1;
          allowed = record { first = ap (λ (f : ℕ → Option ℕ). f p) i.place ∙ new.first; free = λ q e. new.free q (sym (ap (λ (f : ℕ → Option ℕ). f q) i.place) ∙ e) };
          tied = tied_next terms Tie w o t i p v here (update_w (HasPlace x) 0 1 answer stands others placed_few) (at_stage r (Proposing 1)) (Placed x) placed_s (record {
            stepped = updated (HasPlace x) 0 1 answer stands others placed_few refl;
            last = i.last;
            moment = i.moment;
            place = ap (λ (f : ℕ → Option ℕ). set_at f p (Some x)) i.place;
            standing = standing_elsewhere o (set_at o.place p (Some x)) o.spent i.standing;
            count = record { count = counted.count; now = counted.now };
            own = record {
              going = record { unnamed = h.going.unnamed; left = h.going.left };
              rounds = (let a = h.none in let b = i.low in let c = i.limit in omega arith);
              positive = omega arith;
              small = (let b = many_some in omega arith);
              task = update_task (HasPlace x) 0 1 answer stands others placed_few;
              stands = subst (λ (m : ℕ). StandsAt (update_w (HasPlace x) 0 1 answer stands others placed_few) p false (m + 1)) (sym h.none) ((goes_idle W snap' p 0 stands).more placed_few 1).stands;
              phase = set_at-same t.phase p (ToPropose 1);
              pace = set_at-same t.steps p 0 ∙ sym (set_at-same (set_at s.steps p (s.steps p + 1)) p 0);
            };
          });
        }

  -- written
  module _ (number : ℕ) (answer : snap_reported W w p ≡ Ok Written) (stands : StandsAt snap' p true (r.count + 1)) (others : Others) (h : IsProposing terms o t s w.snap p number r) (at : r.stage ≡ Proposing number) where
    abbrev written_s : SnapObject
    written_s = asked_for (observed_step s p Written) p ToScan

    abbrev written_w : SnapState S U K
    written_w = after_scan snap' p

    abbrev written_o : RenameObject
    written_o = after_step o p (Proposed number)

    abbrev written_r : Round
    written_r = record { count = r.count + 1; proposal = number; stage = Looking }

    written_tie : Tie written_w written_s
    written_tie = (tie_goes snap' (observed_step s p Written) (Scanned p (Ok tt)) (tie_stepped Written answer).0 (sym (ap done_unless (goes_idle W snap' p (r.count + 1) stands).scan))).0

    may : MayPropose terms o p number
    may = record { positive = h.positive; small = h.small; rounds = (let a = h.rounds in let b = counted.count in omega arith) }

    raised : written_round r w.limit ≡ written_r
    raised =
        let few : nat_lt r.count w.limit ≡ true = lt-ltb r.count w.limit (let a = h.rounds in let b = i.limit in omega arith) in
        let is : number_of r.stage ≡ number = ap number_of at in
        rw (few, is) refl

    written_moment : written_o.moment ≡ written_s.moment
    written_moment = same_moment o.moment s.moment o.last s.last (s.task p) p number i.moment i.last h.task

    written_now : written_o.moment (o.last + 1) ≡ set_at (o.moment o.last) p (Some number)
    written_now = set_at-same o.moment (o.last + 1) (set_at (o.moment o.last) p (Some number))

    written_own : written_o.moment (o.last + 1) p ≡ Some number
    written_own = ap (λ (f : ℕ → Option ℕ). f p) written_now ∙ set_at-same (o.moment o.last) p (Some number)

    written_count : IsCounted written_o p written_r
    written_count = record {
      count = set_at-same o.count p (o.count p + 1) ∙ ap (λ (m : ℕ). m + 1) counted.count;
      now = written_own ∙ sym (standing_made (r.count + 1) number Looking (omega arith));
    }

    abbrev written_follow : Follow
    written_follow = record { round = written_r; wish = Scan; reply = Proposed number }

    written_next : HasGone written_follow
    written_next = record {
      timed = step_of (ToPropose number) (ToUpdate number) h.phase h.task h.pace refl (tie_stepped Written answer).1.1;
      allowed = may;
      tied = tied_next terms Tie w o t i p v here written_w written_r (Proposed number) written_s (record {
        stepped = record {
          tie = written_tie;
          snap_many = refl;
          large = both_large w.snap snap' written_w (snap_large W w.snap p) (scan_large snap' p);
          there = ap is_some (goes_idle W snap' p (r.count + 1) stands).scans.stands.is;
          who = λ q n. (goes_idle W snap' p (r.count + 1) stands).scans.others q n ∙ others q n;
          spares = spares_task p s (observed_step s p Written) (spares_stepped p s Written) ToScan 0 0;
        };
        last = ap (λ (m : ℕ). m + 1) i.last;
        moment = written_moment;
        place = i.place;
        standing = standing_proposed terms o p number i.standing h.going.unnamed begun_is may;
        count = written_count;
        own = record {
          going = record { unnamed = h.going.unnamed; left = h.going.left };
          some = omega arith;
          rounds = (let a = h.rounds in omega arith);
          task = set_at-same (set_at s.task p Idle) p ToScan;
          later = (
              let a : written_o.since p ≡ o.last + 1 = set_at-same o.since p (o.last + 1) in
              let b : written_s.steps p ≡ 0 = set_at-same (set_at s.steps p (s.steps p + 1)) p 0 in
              let c : since_of written_s p ≡ s.last + 1 = rw b refl in
              let d = i.last in
              omega arith);
          stands = (goes_idle W snap' p (r.count + 1) stands).scans.stands;
          phase = set_at-same t.phase p ToLook;
          pace = set_at-same t.steps p 0 ∙ sym (set_at-same (set_at s.steps p (s.steps p + 1)) p 0);
        };
      });
    }

    written_gone : HasGone (followed r p Written w.limit)
    written_gone =
        let is : followed r p Written w.limit ≡ written_follow =
        ap (λ (z : Round). record { round = z; wish = Scan; reply = Proposed (number_of r.stage) }) raised ∙ ap (λ (z : RoundStage). record { round = written_r; wish = Scan; reply = Proposed (number_of z) }) at in
        subst HasGone (sym is) written_next

  -- a view
  module _ (view : List (ℕ × ℕ)) (answer : snap_reported W w p ≡ Ok (Viewed view)) (stands : StandsAt snap' p true r.count) (others : Others) (h : IsLooking terms o t s w.snap p r) where
    abbrev viewed_s : SnapObject
    viewed_s = observed_step s p (Viewed view)

    shows : ShowsMoment s (since_of s p) view
    shows = (tie_stepped (Viewed view) answer).1.2

    some : 1 ≤ o.count p
    some = let a = h.some in let b = counted.count in omega arith

    recent : IsRecent o p shows.index
    recent = record {
      no_earlier = (let a = h.later in let b = shows.no_earlier in omega arith);
      no_later = (let a = shows.no_later in let b = i.last in omega arith);
    }

    value_is : (q : ℕ) → value_of q view ≡ o.moment shows.index q
    value_is q = shows.is.values q ∙ ap (λ (f : ℕ → ℕ → Option ℕ). f shows.index q) (sym i.moment)

    own_is : o.moment shows.index p ≡ Some r.proposal
    own_is = i.standing.same p shows.index some recent ∙ counted.now ∙ standing_made r.count r.proposal r.stage h.some

    conflict : is_taken p view r.proposal ≡ true → IsConflict (o.moment shows.index) p
    conflict e =
        let k = taken_by p view r.proposal shows.is.rising e in
        record { number = r.proposal; own = own_is; contested = record { other = k.0; not_own = k.1; proposes = sym (value_is k.0) ∙ k.2 } }

    viewed_time : IsStepOf bounds t p ToLook
    viewed_time = step_of ToLook ToScan h.phase h.task h.pace refl (tie_stepped (Viewed view) answer).1.1

    -- nobody else proposes it
    module _ (alone : is_taken p view r.proposal ≡ false) where
      sole : IsSole (o.moment shows.index) p r.proposal
      sole = record { own = own_is; alone = λ q n e. taken_not p view r.proposal alone q n (value_is q ∙ e) }

      shows_sole : ShowsSole o p r.proposal view
      shows_sole = record { index = shows.index; recent = recent; is = record { rising = shows.is.rising; values = value_is }; sole = sole }

      named_gone : HasGone (named_by r view)
      named_gone = record {
        timed = viewed_time;
        allowed = (some, shows_sole, record { small = (name_small o i.standing p r.proposal shows.index recent.no_later sole).1; free = nobody_has o i.standing p r.proposal view h.going.unnamed some shows_sole });
        tied = tied_next terms Tie w o t i p v here snap' (at_stage r Settled) (Named r.proposal view) viewed_s (record {
          stepped = stepped_by (Viewed view) true r.count answer stands others refl;
          last = i.last;
          moment = i.moment;
          place = i.place;
          standing = standing_named o p r.proposal shows.index i.standing begun_is some recent sole;
          count = record { count = counted.count; now = counted.now };
          own = (h.some, set_at-same o.name p (Some r.proposal));
        });
      }

    -- another does, and the rounds are used up
    module _ (contested : is_taken p view r.proposal ≡ true) (no_more : w.limit ≤ r.count) where
      spent_gone : HasGone (spent_by r)
      spent_gone = record {
        timed = viewed_time;
        allowed = ((let a = h.rounds in let b = counted.count in let c = i.limit in omega arith), record { index = shows.index; recent = recent; conflict = conflict contested });
        tied = tied_next terms Tie w o t i p v here snap' (at_stage r Over) Spent viewed_s (record {
          stepped = stepped_by (Viewed view) true r.count answer stands others refl;
          last = i.last;
          moment = i.moment;
          place = i.place;
          standing = standing_elsewhere o o.place (set_at o.spent p true) i.standing;
          count = record { count = counted.count; now = counted.now };
          own = (h.going.unnamed, set_at-same o.spent p true);
        });
      }

    -- another does, and rounds are left
    module _ (contested : is_taken p view r.proposal ≡ true) (more : r.count < w.limit) where
      few_updates : r.count < 1000000
      few_updates = let a = i.high in let b = more in omega arith

      pairs : length view ≤ o.many
      pairs = let a = shows.few in let b = i.as_many in let c = i.same_many in omega arith

      abbrev number : ℕ
      number = next_proposal p view

      next_is : (1 ≤ number) × (number ≤ 2 * length view - 1)
      next_is = next_small p r.proposal view (value_is p ∙ own_is)

      abbrev saw_s : SnapObject
      saw_s = update_s (Viewed view) r.count number answer stands others few_updates

      abbrev saw_w : SnapState S U K
      saw_w = update_w (Viewed view) r.count number answer stands others few_updates

      saw_gone : HasGone (saw_by r p view)
      saw_gone = record {
        timed = viewed_time;
        allowed = (some, (let a = more in let b = counted.count in let c = i.limit in omega arith), record { index = shows.index; recent = recent; is = record { rising = shows.is.rising; values = value_is }; conflict = conflict contested });
        tied = tied_next terms Tie w o t i p v here saw_w (at_stage r (Proposing number)) (Saw view) saw_s (record {
          stepped = updated (Viewed view) r.count number answer stands others few_updates refl;
          last = i.last;
          moment = i.moment;
          place = i.place;
          standing = i.standing;
          count = record { count = counted.count; now = counted.now };
          own = record {
            going = h.going;
            rounds = (let a = more in let c = i.limit in omega arith);
            positive = next_is.0;
            small = (let a = next_is.1 in let b = pairs in omega arith);
            task = update_task (Viewed view) r.count number answer stands others few_updates;
            stands = ((goes_idle W snap' p r.count stands).more few_updates number).stands;
            phase = set_at-same t.phase p (ToPropose number);
            pace = set_at-same t.steps p 0 ∙ sym (set_at-same (set_at s.steps p (s.steps p + 1)) p 0);
          };
        });
      }

    viewed_gone : HasGone (decided r p view w.limit)
    viewed_gone =
        let P : Bool → Bool → Type 0 = λ a b. HasGone (cond a (cond b (spent_by r) (saw_by r p view)) (named_by r view)) in
        elim (is_taken p view r.proposal) as (λ a. is_taken p view r.proposal ≡ a → P a (nat_le w.limit r.count)) [
          | false ↦ λ e. named_gone e
          | true ↦ λ e. elim (leb_tells w.limit r.count) [
            | inl f ↦ subst (λ (b : Bool). P true b) (sym f.0) (spent_gone e f.1)
            | inr f ↦ subst (λ (b : Bool). P true b) (sym f.0) (saw_gone e f.1)
          ]
        ] refl

  -- any answer that the snapshot object gives to one who stands there
  abbrev AtQuiet : RoundStage → Type 0
  AtQuiet stage = IsAtStage terms o (paced_step t p Quiet) (stepped_to s p (s.task p)) snap' p r stage

  quiet_pace : t.steps p ≡ s.steps p → set_at t.steps p (t.steps p + 1) p ≡ set_at s.steps p (s.steps p + 1) p
  quiet_pace e = set_at-same t.steps p (t.steps p + 1) ∙ ap (λ (n : ℕ). n + 1) e ∙ sym (set_at-same s.steps p (s.steps p + 1))

  pub placing_gone : IsPlacing o t s w.snap p r → r.stage ≡ Placing → (k : GoesBusy W w.snap p 0) → HasGone (followed r p k.reply w.limit)
  placing_gone h stage k = gone k.reply k.answer k.comes.stands k.comes.others where
    gone : (reply : SnapReply) → snap_reported W w p ≡ Ok reply → StandsAt snap' p (not (is_quiet reply)) 0 → Others → HasGone (followed r p reply w.limit)
    gone Silent answer stands others = quiet_gone 0 answer stands others (goes_on ToGo ToPlace h.phase h.task h.pace refl (tie_stepped Silent answer).1) (subst AtQuiet (sym stage) (record { going = h.going; none = h.none; unplaced = h.unplaced; task = quiet_task 0 answer stands others ∙ h.task; stands = stands; phase = h.phase; pace = quiet_pace h.pace }))
    gone (HasPlace x) answer stands others = placed_gone x answer stands others h
    gone Written answer stands others = absurd (rw h.task at (tie_stepped Written answer).1.0)
    gone (Viewed view) answer stands others = absurd (let e : ToPlace ≡ ToScan = sym h.task ∙ (tie_stepped (Viewed view) answer).1.0 in cc)

  pub proposing_gone : (number : ℕ) → IsProposing terms o t s w.snap p number r → r.stage ≡ Proposing number → (k : GoesBusy W w.snap p (r.count + 1)) → HasGone (followed r p k.reply w.limit)
  proposing_gone number h stage k = gone k.reply k.answer k.comes.stands k.comes.others where
    gone : (reply : SnapReply) → snap_reported W w p ≡ Ok reply → StandsAt snap' p (not (is_quiet reply)) (r.count + 1) → Others → HasGone (followed r p reply w.limit)
    gone Silent answer stands others = quiet_gone (r.count + 1) answer stands others (goes_on (ToPropose number) (ToUpdate number) h.phase h.task h.pace refl (tie_stepped Silent answer).1) (subst AtQuiet (sym stage) (record { going = h.going; rounds = h.rounds; positive = h.positive; small = h.small; task = quiet_task (r.count + 1) answer stands others ∙ h.task; stands = stands; phase = h.phase; pace = quiet_pace h.pace }))
    gone (HasPlace x) answer stands others = absurd (let e : ToUpdate number ≡ ToPlace = sym h.task ∙ (tie_stepped (HasPlace x) answer).1.0 in cc)
    gone Written answer stands others = written_gone number answer stands others h stage
    gone (Viewed view) answer stands others = absurd (let e : ToUpdate number ≡ ToScan = sym h.task ∙ (tie_stepped (Viewed view) answer).1.0 in cc)

  pub looking_gone : IsLooking terms o t s w.snap p r → r.stage ≡ Looking → (k : GoesBusy W w.snap p r.count) → HasGone (followed r p k.reply w.limit)
  looking_gone h stage k = gone k.reply k.answer k.comes.stands k.comes.others where
    gone : (reply : SnapReply) → snap_reported W w p ≡ Ok reply → StandsAt snap' p (not (is_quiet reply)) r.count → Others → HasGone (followed r p reply w.limit)
    gone Silent answer stands others = quiet_gone r.count answer stands others (goes_on ToLook ToScan h.phase h.task h.pace refl (tie_stepped Silent answer).1) (subst AtQuiet (sym stage) (record { going = h.going; some = h.some; rounds = h.rounds; task = quiet_task r.count answer stands others ∙ h.task; later = (let a = h.later in let b = quiet_since r.count answer stands others in omega arith); stands = stands; phase = h.phase; pace = quiet_pace h.pace }))
    gone (HasPlace x) answer stands others = absurd (let e : ToScan ≡ ToPlace = sym h.task ∙ (tie_stepped (HasPlace x) answer).1.0 in cc)
    gone Written answer stands others = absurd (rw h.task at (tie_stepped Written answer).1.0)
    gone (Viewed view) answer stands others = viewed_gone view answer stands others h
