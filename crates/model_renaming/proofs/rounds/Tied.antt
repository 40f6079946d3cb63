-- a renaming world with the object and the pace of its law
use Rattle.std.proofs.Common.{◌≡◌, ◌≢◌, ℕ, ◌+◌, ◌-◌, ◌*◌, ◌<◌, ◌≤◌, ◌==◌, Bool, true, false, cond, length, Some, None, inl, inr, refl, sym, ap, ◌∙◌, arith, is_some}
use Rattle.model_renaming.proofs.Common.{eqb_tells, set_at, set_at-same, set_at-other, Participant, AreDistinct, participant_of, with_participant, beginner, participant_of-put, length-with_participant, SnapState, SnapReply, Silent, ToPlace, ToScan, ToUpdate, Idle, Round, RoundStage, Placing, Proposing, Looking, Settled, Over, Pace, paced_step, StepReply, Quiet, Placed, Proposed, Saw, Named, Spent, RenameTerms, RenameObject, after_step, next_proposal, RenameState, world_with, standing_by, StandsAt}
use Rattle.model_snapshot.specs.Snapshot.{Task, SnapObject, since_of, with_task, observed_step}
use Rattle.model_renaming.specs.Pace.Phase.{ToPlace as ToGo, ToPropose, ToLook, AtEnd}
use Rattle.model_renaming.proofs.Large.{IsAsLarge}
use Rattle.model_steps.proofs.cited.DistinctParticipants.{distinct_put}
use Rattle.model_renaming.proofs.rounds.Standing.{IsStanding, others_stand}

-- p has neither a name nor used up its rounds
pub record IsGoing (o : RenameObject) (p : ℕ) : Type 0 where
  pub unnamed : o.name p ≡ None
  pub left : o.spent p ≡ false

-- the round says how many proposals p has made, and which stands in the last moment
pub record IsCounted (o : RenameObject) (p : ℕ) (r : Round) : Type 0 where
  pub count : o.count p ≡ r.count
  pub now : o.moment o.last p ≡ standing_by r

pub record IsPlacing {S U K : Type 0} (o : RenameObject) (t : Pace) (s : SnapObject) (w : SnapState S U K) (p : ℕ) (r : Round) : Type 0 where
  pub going : IsGoing o p
  pub none : r.count ≡ 0
  pub unplaced : o.place p ≡ None
  pub task : s.task p ≡ ToPlace
  pub stands : StandsAt w p false 0
  pub phase : t.phase p ≡ ToGo
  pub pace : t.steps p ≡ s.steps p

pub record IsProposing {S U K : Type 0} (terms : RenameTerms) (o : RenameObject) (t : Pace) (s : SnapObject) (w : SnapState S U K) (p n : ℕ) (r : Round) : Type 0 where
  pub going : IsGoing o p
  pub rounds : r.count < terms.limit
  pub positive : 1 ≤ n
  pub small : n ≤ 2 * o.many - 1
  pub task : s.task p ≡ ToUpdate n
  pub stands : StandsAt w p false (r.count + 1)
  pub phase : t.phase p ≡ ToPropose n
  pub pace : t.steps p ≡ s.steps p

pub record IsLooking {S U K : Type 0} (terms : RenameTerms) (o : RenameObject) (t : Pace) (s : SnapObject) (w : SnapState S U K) (p : ℕ) (r : Round) : Type 0 where
  pub going : IsGoing o p
  pub some : 1 ≤ r.count
  pub rounds : r.count ≤ terms.limit
  pub task : s.task p ≡ ToScan
  pub later : o.since p ≤ since_of s p
  pub stands : StandsAt w p false r.count
  pub phase : t.phase p ≡ ToLook
  pub pace : t.steps p ≡ s.steps p

-- where a participant stands in its round agrees with the objects
abbrev pub IsAtStage : {S U K : Type 0} → RenameTerms → RenameObject → Pace → SnapObject → SnapState S U K → ℕ → Round → RoundStage → Type 0
IsAtStage terms o t s w p r Placing = IsPlacing o t s w p r
IsAtStage terms o t s w p r (Proposing n) = IsProposing terms o t s w p n r
IsAtStage terms o t s w p r Looking = IsLooking terms o t s w p r
IsAtStage terms o t s w p r Settled = (1 ≤ r.count) × (o.name p ≡ Some r.proposal)
IsAtStage terms o t s w p r Over = (o.name p ≡ None) × (o.spent p ≡ true)

-- what q finds when another has gone on
pub record Carries {S U K : Type 0} (o o' : RenameObject) (t t' : Pace) (s s' : SnapObject) (w w' : SnapState S U K) (q : ℕ) : Type 0 where
  pub place : o'.place q ≡ o.place q
  pub name : o'.name q ≡ o.name q
  pub spent : o'.spent q ≡ o.spent q
  pub count : o'.count q ≡ o.count q
  pub since : o'.since q ≡ o.since q
  pub many : o.many ≤ o'.many
  pub now : o'.moment o'.last q ≡ o.moment o.last q
  pub task : s'.task q ≡ s.task q
  pub later : since_of s q ≤ since_of s' q
  pub who : participant_of q w'.participants ≡ participant_of q w.participants
  pub phase : t'.phase q ≡ t.phase q
  pub pace : t'.steps q ≡ t.steps q
  pub snap_pace : s'.steps q ≡ s.steps q

-- a scan that goes on began no earlier
pub since_kept : (s t : SnapObject) (q : ℕ) → t.steps q ≡ s.steps q → t.since q ≡ s.since q → s.last ≤ t.last → since_of s q ≤ since_of t q
since_kept s t q a b l = rw (a, b) (elim (s.steps q == 0) as (λ z. cond z s.last (s.since q) ≤ cond z t.last (s.since q)) [ true ↦ l | false ↦ omega arith ])

-- of all but p the snapshot object keeps what each has to do
abbrev pub Spares : ℕ → SnapObject → SnapObject → Type 0
Spares p s u = (q : ℕ) → q ≢ p → (u.task q ≡ s.task q) × (u.steps q ≡ s.steps q) × (u.since q ≡ s.since q)

pub spares_task : (p : ℕ) (s u : SnapObject) → Spares p s u → (task : Task) (steps since : ℕ) → Spares p s (with_task u p task steps since)
spares_task p s u k task steps since q n = (set_at-other u.task p task q n ∙ (k q n).0, set_at-other u.steps p steps q n ∙ (k q n).1, set_at-other u.since p since q n ∙ (k q n).2)

pub spares_next : (p : ℕ) (s : SnapObject) (task : Task) (steps since : ℕ) → Spares p s (with_task s p task steps since)
spares_next p s = spares_task p s s (λ q n. (refl, refl, refl))

pub spares_stepped : (p : ℕ) (s : SnapObject) (reply : SnapReply) → Spares p s (observed_step s p reply)
spares_stepped p s Silent = spares_next p s (s.task p) (s.steps p + 1) (since_of s p)
spares_stepped p s reply = spares_next p s Idle (s.steps p + 1) (since_of s p)

module _ {S U K : Type 0} (terms : RenameTerms) (o o' : RenameObject) (t t' : Pace) (s s' : SnapObject) (w w' : SnapState S U K) (q : ℕ) (k : Carries o o' t t' s s' w w' q) where
  stands_on : (idle : Bool) (n : ℕ) → StandsAt w q idle n → StandsAt w' q idle n
  stands_on idle n h = record { who = h.who; is = k.who ∙ h.is; goes = h.goes; idle_is = h.idle_is; updates_is = h.updates_is }

  going_on : IsGoing o q → IsGoing o' q
  going_on h = record { unnamed = k.name ∙ h.unnamed; left = k.spent ∙ h.left }

  pub counted_on : (r : Round) → IsCounted o q r → IsCounted o' q r
  counted_on r h = record { count = k.count ∙ h.count; now = k.now ∙ h.now }

  pub stage_on : (r : Round) (stage : RoundStage) → IsAtStage terms o t s w q r stage → IsAtStage terms o' t' s' w' q r stage
  stage_on r Placing h = record { going = going_on h.going; none = h.none; unplaced = k.place ∙ h.unplaced; task = k.task ∙ h.task; stands = stands_on false 0 h.stands; phase = k.phase ∙ h.phase; pace = k.pace ∙ h.pace ∙ sym k.snap_pace }
  stage_on r (Proposing n) h = record { going = going_on h.going; rounds = h.rounds; positive = h.positive; small = (let a = h.small in let b = k.many in omega arith); task = k.task ∙ h.task; stands = stands_on false (r.count + 1) h.stands; phase = k.phase ∙ h.phase; pace = k.pace ∙ h.pace ∙ sym k.snap_pace }
  stage_on r Looking h = record { going = going_on h.going; some = h.some; rounds = h.rounds; task = k.task ∙ h.task; later = (let a = h.later in let b = k.later in let c = k.since in omega arith); stands = stands_on false r.count h.stands; phase = k.phase ∙ h.phase; pace = k.pace ∙ h.pace ∙ sym k.snap_pace }
  stage_on r Settled h = (h.0, k.name ∙ h.1)
  stage_on r Over h = (k.name ∙ h.0, k.spent ∙ h.1)

pub record IsTied {S U K : Type 0} (terms : RenameTerms) (Tie : SnapState S U K → SnapObject → Type 0) (w : RenameState S U K) (o : RenameObject) (t : Pace) : Type 0 where
  pub object : SnapObject
  pub tie : Tie w.snap object
  pub as_many : t.begun ≡ object.begun
  pub same_many : o.many ≡ t.begun
  pub limit : terms.limit ≡ w.limit
  pub low : 1 ≤ w.limit
  pub high : w.limit ≤ 1000000
  pub most : terms.most ≡ w.snap.most
  pub many : o.many ≡ length w.rounds
  pub roomy : o.many ≤ terms.most
  pub counted : length w.rounds ≡ length w.snap.participants
  pub distinct : AreDistinct w.rounds
  pub begun : (p : ℕ) → o.begun p ≡ is_some (participant_of p w.rounds)
  pub joined : (p : ℕ) → is_some (participant_of p w.snap.participants) ≡ is_some (participant_of p w.rounds)
  pub last : o.last ≡ object.last
  pub moment : o.moment ≡ object.moment
  pub place : o.place ≡ object.place
  pub standing : IsStanding o
  pub absent : (p : ℕ) → participant_of p w.rounds ≡ None → (o.count p ≡ 0) × (o.name p ≡ None) × (o.spent p ≡ false) × (o.place p ≡ None)
  pub counts : (p : ℕ) (v : Participant Round) → participant_of p w.rounds ≡ Some v → IsCounted o p v.program
  pub stages : (p : ℕ) (v : Participant Round) → participant_of p w.rounds ≡ Some v → IsAtStage terms o t object w.snap p v.program v.program.stage

-- what a step of p that is answered so leaves as it was
record Leaves (o : RenameObject) (t : Pace) (p : ℕ) (reply : StepReply) : Type 0 where
  many : (after_step o p reply).many ≡ o.many
  begun : (after_step o p reply).begun ≡ o.begun
  paced : (paced_step t p reply).begun ≡ t.begun
  place : (q : ℕ) → q ≢ p → (after_step o p reply).place q ≡ o.place q
  name : (q : ℕ) → q ≢ p → (after_step o p reply).name q ≡ o.name q
  spent : (q : ℕ) → q ≢ p → (after_step o p reply).spent q ≡ o.spent q
  count : (q : ℕ) → q ≢ p → (after_step o p reply).count q ≡ o.count q
  since : (q : ℕ) → q ≢ p → (after_step o p reply).since q ≡ o.since q
  now : (q : ℕ) → q ≢ p → (after_step o p reply).moment (after_step o p reply).last q ≡ o.moment o.last q
  phase : (q : ℕ) → q ≢ p → (paced_step t p reply).phase q ≡ t.phase q
  steps : (q : ℕ) → q ≢ p → (paced_step t p reply).steps q ≡ t.steps q
  later : o.last ≤ (after_step o p reply).last

leaves : (o : RenameObject) (t : Pace) (p : ℕ) (reply : StepReply) → Leaves o t p reply
leaves o t p Quiet = record { many = refl; begun = refl; paced = refl; place = λ q n. refl; name = λ q n. refl; spent = λ q n. refl; count = λ q n. refl; since = λ q n. refl; now = λ q n. refl; phase = λ q n. refl; steps = set_at-other t.steps p (t.steps p + 1); later = omega arith }
leaves o t p (Placed x) = record { many = refl; begun = refl; paced = refl; place = set_at-other o.place p (Some x); name = λ q n. refl; spent = λ q n. refl; count = λ q n. refl; since = λ q n. refl; now = λ q n. refl; phase = set_at-other t.phase p (ToPropose 1); steps = set_at-other t.steps p 0; later = omega arith }
leaves o t p (Proposed m) = record { many = refl; begun = refl; paced = refl; place = λ q n. refl; name = λ q n. refl; spent = λ q n. refl; count = set_at-other o.count p (o.count p + 1); since = set_at-other o.since p (o.last + 1); now = others_stand o p m; phase = set_at-other t.phase p ToLook; steps = set_at-other t.steps p 0; later = omega arith }
leaves o t p (Saw view) = record { many = refl; begun = refl; paced = refl; place = λ q n. refl; name = λ q n. refl; spent = λ q n. refl; count = λ q n. refl; since = λ q n. refl; now = λ q n. refl; phase = set_at-other t.phase p (ToPropose (next_proposal p view)); steps = set_at-other t.steps p 0; later = omega arith }
leaves o t p (Named m view) = record { many = refl; begun = refl; paced = refl; place = λ q n. refl; name = set_at-other o.name p (Some m); spent = λ q n. refl; count = λ q n. refl; since = λ q n. refl; now = λ q n. refl; phase = set_at-other t.phase p AtEnd; steps = set_at-other t.steps p 0; later = omega arith }
leaves o t p Spent = record { many = refl; begun = refl; paced = refl; place = λ q n. refl; name = λ q n. refl; spent = set_at-other o.spent p true; count = λ q n. refl; since = λ q n. refl; now = λ q n. refl; phase = set_at-other t.phase p AtEnd; steps = set_at-other t.steps p 0; later = omega arith }

module _ {S U K : Type 0} (terms : RenameTerms) (Tie : SnapState S U K → SnapObject → Type 0) (w : RenameState S U K) (o : RenameObject) (t : Pace) (i : IsTied terms Tie w o t) (p : ℕ) (v : Participant Round) (here : participant_of p w.rounds ≡ Some v) where
  -- p has made a step in the snapshot object, and may have been asked for more
  pub record IsStepped (snap : SnapState S U K) (s' : SnapObject) : Type 0 where
    pub tie : Tie snap s'
    pub snap_many : s'.begun ≡ i.object.begun
    pub large : IsAsLarge w.snap snap
    pub there : is_some (participant_of p snap.participants) ≡ true
    pub who : (q : ℕ) → q ≢ p → participant_of q snap.participants ≡ participant_of q w.snap.participants
    pub spares : Spares p i.object s'

  -- what a step of p that is answered so owes
  pub record IsNext (snap : SnapState S U K) (r : Round) (reply : StepReply) (s' : SnapObject) : Type 0 where
    pub stepped : IsStepped snap s'
    pub last : (after_step o p reply).last ≡ s'.last
    pub moment : (after_step o p reply).moment ≡ s'.moment
    pub place : (after_step o p reply).place ≡ s'.place
    pub standing : IsStanding (after_step o p reply)
    pub count : IsCounted (after_step o p reply) p r
    pub own : IsAtStage terms (after_step o p reply) (paced_step t p reply) s' snap p r r.stage

  module _ (snap : SnapState S U K) (r : Round) (reply : StepReply) (s' : SnapObject) (k : IsNext snap r reply s') where
    left : Leaves o t p reply
    left = leaves o t p reply

    carries : (q : ℕ) → q ≢ p → Carries o (after_step o p reply) t (paced_step t p reply) i.object s' w.snap snap q
    carries q n =
        let kept = k.stepped.spares q n in
        let many = left.many in
        let later : i.object.last ≤ s'.last = (let a = left.later in let b = k.last in let c = i.last in omega arith) in
        record {
          place = left.place q n;
          name = left.name q n;
          spent = left.spent q n;
          count = left.count q n;
          since = left.since q n;
          many = omega arith;
          now = left.now q n;
          task = kept.0;
          later = since_kept i.object s' q kept.1 kept.2 later;
          who = k.stepped.who q n;
          phase = left.phase q n;
          pace = left.steps q n;
          snap_pace = kept.1;
        }

    put : (q : ℕ) → participant_of q (with_participant (beginner p r) w.rounds) ≡ set_at (λ u. participant_of u w.rounds) p (Some (beginner p r)) q
    put q = participant_of-put w.rounds (beginner p r) (rw here refl) q

    put_same : participant_of p (with_participant (beginner p r) w.rounds) ≡ Some (beginner p r)
    put_same = put p ∙ set_at-same (λ u. participant_of u w.rounds) p (Some (beginner p r))

    put_other : (q : ℕ) → q ≢ p → participant_of q (with_participant (beginner p r) w.rounds) ≡ participant_of q w.rounds
    put_other q n = put q ∙ set_at-other (λ u. participant_of u w.rounds) p (Some (beginner p r)) q n

    -- who takes part is the same
    put_there : (q : ℕ) → is_some (participant_of q (with_participant (beginner p r) w.rounds)) ≡ is_some (participant_of q w.rounds)
    put_there q = elim (eqb_tells q p) [
      | inl e ↦ rw e.1 (ap is_some put_same ∙ sym (ap is_some here))
      | inr e ↦ ap is_some (put_other q e.1)
    ]

    -- who is found as p is p with its new round
    put_is : (q : ℕ) (u : Participant Round) → q ≡ p → participant_of q (with_participant (beginner p r) w.rounds) ≡ Some u → beginner p r ≡ u
    put_is q u e h =
        let is : Some (beginner p r) ≡ Some u = sym put_same ∙ ap (λ (x : ℕ). participant_of x (with_participant (beginner p r) w.rounds)) (sym e) ∙ h in
        cc

    pub tied_next : IsTied terms Tie (world_with w snap p r) (after_step o p reply) (paced_step t p reply)
    tied_next = record {
      object = s';
      tie = k.stepped.tie;
      as_many = left.paced ∙ i.as_many ∙ sym k.stepped.snap_many;
      same_many = left.many ∙ i.same_many ∙ sym left.paced;
      limit = i.limit;
      low = i.low;
      high = i.high;
      most = i.most ∙ sym k.stepped.large.most;
      many = left.many ∙ i.many ∙ sym (length-with_participant w.rounds (beginner p r));
      roomy = rw left.many i.roomy;
      counted = length-with_participant w.rounds (beginner p r) ∙ i.counted ∙ sym k.stepped.large.many;
      distinct = distinct_put w.rounds (beginner p r) i.distinct;
      begun = λ q. ap (λ (f : ℕ → Bool). f q) left.begun ∙ i.begun q ∙ sym (put_there q);
      joined = λ q. elim (eqb_tells q p) [
        | inl e ↦ rw e.1 (k.stepped.there ∙ sym (ap is_some put_same))
        | inr e ↦ ap is_some (k.stepped.who q e.1) ∙ i.joined q ∙ sym (put_there q)
      ];
      last = k.last;
      moment = k.moment;
      place = k.place;
      standing = k.standing;
      absent = λ q h. elim (eqb_tells q p) [
        | inl e ↦ absurd (let no : Some (beginner p r) ≡ None = sym put_same ∙ ap (λ (x : ℕ). participant_of x (with_participant (beginner p r) w.rounds)) (sym e.1) ∙ h in cc)
        | inr e ↦ let c = carries q e.1 in let a = i.absent q (sym (put_other q e.1) ∙ h) in (c.count ∙ a.0, c.name ∙ a.1, c.spent ∙ a.2, c.place ∙ a.3)
      ];
      counts = λ q u h. elim (eqb_tells q p) [
        | inl e ↦ let same = put_is q u e.1 h in rw (e.1, ← same) k.count
        | inr e ↦ counted_on terms o (after_step o p reply) t (paced_step t p reply) i.object s' w.snap snap q (carries q e.1) u.program (i.counts q u (sym (put_other q e.1) ∙ h))
      ];
      stages = λ q u h. elim (eqb_tells q p) [
        | inl e ↦ let same = put_is q u e.1 h in rw (e.1, ← same) k.own
        | inr e ↦ stage_on terms o (after_step o p reply) t (paced_step t p reply) i.object s' w.snap snap q (carries q e.1) u.program u.program.stage (i.stages q u (sym (put_other q e.1) ∙ h))
      ];
    }
