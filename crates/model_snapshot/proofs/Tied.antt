-- what ties a snapshot object over any places to the object of its law
use Rattle.std.proofs.Common.{◌≡◌, ◌≢◌, ℕ, ◌+◌, ◌*◌, ◌<◌, ◌≤◌, false, ◌⊎◌, List, [], length, Option, Some, None, inl, inr, refl, sym, ap, subst, ◌∙◌, arith}
use Rattle.model_snapshot.proofs.Common.{eqb_tells, set_at, Participant, participant_of, with_participant, set_at-same, set_at-other, participant_of-put, Record, Client, Pending, Nothing, Places, Scans, Update, Writing, scan_from, SnapState, way_now, ways_of, segment_in, Task, SnapObject, new_object, Absent, Idle, Placing, Scanning, Updating}
use Rattle.std.proofs.Math.Path.{fun_ext}
use Rattle.model_snapshot.specs.declared.scan.Scan.{Scan}
use Rattle.model_snapshot.proofs.LawfulPlaces.{LawfulPlaces}
use Rattle.model_snapshot.proofs.Histories.{number, IsHelp, IsHistory}
use Rattle.model_snapshot.proofs.Collecting.{IsRoll}
use Rattle.model_snapshot.proofs.Reading.{GoesOn, HasReached}

-- the place that a way has reached
abbrev pub place_by : {U : Type 0} → (U → Option ℕ) → Option U → Option ℕ
place_by place_of None = None
place_by place_of (Some u) = place_of u

-- what participants share: the memory, how many have begun, the last moment, what stood at each place at each moment, the
-- moments, who has which place, and who began as which
pub record Era (S : Type 0) : Type 0 where
  pub memory : S
  pub begun : ℕ
  pub last : ℕ
  pub past : ℕ → ℕ → Option Record
  pub moment : ℕ → ℕ → Option ℕ
  pub place : ℕ → Option ℕ
  pub who : ℕ → ℕ

abbrev pub most_reads : {S R V U K : Type 0} → LawfulPlaces S R V U K → Era S → ℕ
most_reads t e = t.known.ties.reads (t.known.most_of e.memory) e.begun

abbrev pub IsGoing : {S R V U K : Type 0} → LawfulPlaces S R V U K → Era S → ℕ → ℕ → ℕ → Scan K → Type 0
IsGoing t e own since steps s = GoesOn t e.memory e.begun e.last e.past e.place e.who own since steps s

-- a scan has made so many steps since a moment: it has read nothing, or goes on
abbrev pub IsScanning : {S R V U K : Type 0} → LawfulPlaces S R V U K → Era S → ℕ → ℕ → ℕ → Scan K → Type 0
IsScanning t e own since steps s = ((steps ≡ 0) × (s ≡ scan_from (t.known.walk_from e.memory))) ⊎ ((0 < steps) × IsGoing t e own since steps s)

-- nothing is pending: the task is done, or it is a way to a place that takes no step
abbrev pub HasNothing : {S R V U K : Type 0} → LawfulPlaces S R V U K → Task → Type 0
HasNothing t task = (task ≡ Idle) ⊎ ((task ≡ Placing) × ((b : ℕ) → t.known.ties.placing b ≡ 0))

-- what a participant still has to do agrees with what it was asked for. Who has no place is on its way
abbrev pub IsAtTask : {S R V U K : Type 0} → LawfulPlaces S R V U K → Era S → Task → ℕ → ℕ → Client U K → Pending → Type 0
IsAtTask t e task steps since c Nothing = (own : ℕ) × (t.known.place_of c.walker ≡ Some own) × (c.updates ≡ number (e.past e.last own)) × HasNothing t task
IsAtTask t e task steps since c Places = (t.known.place_of c.walker ≡ None) × (task ≡ Placing) × (c.updates ≡ 0) × (steps ≤ t.known.ties.accesses_of c.walker)
IsAtTask t e task steps since c Scans = (own : ℕ) × (t.known.place_of c.walker ≡ Some own) ×
    (task ≡ Scanning) × (c.updates ≡ number (e.past e.last own)) × IsScanning t e own since steps c.scan
IsAtTask t e task steps since c (Update new_value) = (own : ℕ) × (t.known.place_of c.walker ≡ Some own) ×
    (task ≡ Updating new_value) × (c.updates ≡ number (e.past e.last own) + 1) × IsScanning t e own since steps c.scan
IsAtTask t e task steps since c (Writing new_value view) = (own : ℕ) × (t.known.place_of c.walker ≡ Some own) ×
    (task ≡ Updating new_value) × (c.updates ≡ number (e.past e.last own) + 1) × IsHelp e.last e.past e.moment own c.updates view × (steps ≤ (e.begun + 1) * most_reads t e)

pub record IsDoing {S R V U K : Type 0} (t : LawfulPlaces S R V U K) (e : Era S) (task : Task) (steps since p : ℕ) (c : Client U K) : Type 0 where
  pub identity : c.identity ≡ p
  pub walk : c.walk ≡ t.known.walk_from e.memory
  pub at : IsAtTask t e task steps since c c.pending

-- what one who has this place finds when others have gone on
pub record CarriesOn {S R V U K : Type 0} (t : LawfulPlaces S R V U K) (e f : Era S) (own : ℕ) : Type 0 where
  pub beginning : t.known.walk_from f.memory ≡ t.known.walk_from e.memory
  pub bound : (e.begun + 1) * most_reads t e ≤ (f.begun + 1) * most_reads t f
  pub mine : f.past f.last own ≡ e.past e.last own
  pub scans : (since steps : ℕ) (s : Scan K) → IsGoing t e own since steps s → IsGoing t f own since steps s
  pub helps : (n : ℕ) (view : List (ℕ × ℕ)) → IsHelp e.last e.past e.moment own n view → IsHelp f.last f.past f.moment own n view

module _ {S R V U K : Type 0} (t : LawfulPlaces S R V U K) (e f : Era S) where
  scanning_on : (own since steps : ℕ) (s : Scan K) → CarriesOn t e f own → IsScanning t e own since steps s → IsScanning t f own since steps s
  scanning_on own since steps s k (inl i) = inl (i.0, i.1 ∙ ap scan_from (sym k.beginning))
  scanning_on own since steps s k (inr i) = inr (i.0, k.scans since steps s i.1)

  at_task_on : (task : Task) (steps since : ℕ) (c : Client U K) (pending : Pending) → ((own : ℕ) → t.known.place_of c.walker ≡ Some own → CarriesOn t e f own) → IsAtTask t e task steps since c pending → IsAtTask t f task steps since c pending
  at_task_on task steps since c Nothing k i = (i.0, i.1, i.2 ∙ ap number (sym (k i.0 i.1).mine), i.3)
  at_task_on task steps since c Places k i = i
  at_task_on task steps since c Scans k i = (i.0, i.1, i.2, i.3 ∙ ap number (sym (k i.0 i.1).mine), scanning_on i.0 since steps c.scan (k i.0 i.1) i.4)
  at_task_on task steps since c (Update new_value) k i = (i.0, i.1, i.2, i.3 ∙ ap (λ (z : Option Record). number z + 1) (sym (k i.0 i.1).mine), scanning_on i.0 since steps c.scan (k i.0 i.1) i.4)
  at_task_on task steps since c (Writing new_value view) k i =
      let more = (k i.0 i.1).bound in
      let was = i.5 in
      (i.0, i.1, i.2, i.3 ∙ ap (λ (z : Option Record). number z + 1) (sym (k i.0 i.1).mine), (k i.0 i.1).helps c.updates view i.4, omega arith)

  -- another goes on as it did
  pub doing_on : (task : Task) (steps since q : ℕ) (c : Client U K) → t.known.walk_from f.memory ≡ t.known.walk_from e.memory → ((own : ℕ) → t.known.place_of c.walker ≡ Some own → CarriesOn t e f own) → IsDoing t e task steps since q c → IsDoing t f task steps since q c
  doing_on task steps since q c same k i = record { identity = i.identity; walk = i.walk ∙ sym same; at = at_task_on task steps since c c.pending k i.at }

-- the object and the world, with the past
pub record IsTied {S R V U K : Type 0} (t : LawfulPlaces S R V U K) (w : SnapState S U K) (o : SnapObject) : Type 0 where
  pub most : w.most ≡ t.known.most_of w.memory
  pub counted : o.begun ≡ length w.participants
  pub named : (p : ℕ) (v : Participant (Client U K)) → participant_of p w.participants ≡ Some v → (v.identity ≡ p) × (v.ended ≡ false)
  pub consistent : t.known.ties.IsConsistent w.memory (length w.participants) (ways_of w.participants)
  pub past : ℕ → ℕ → Option Record
  pub place : ℕ → Option ℕ
  pub who : ℕ → ℕ
  pub listed : (p : ℕ) (u : U) → ways_of w.participants p ≡ Some u → (i : ℕ) × (i < length w.participants) × (who i ≡ p)
  pub placed : (p : ℕ) → place p ≡ place_by t.known.place_of (ways_of w.participants p)
  pub history : IsHistory o.last past o.moment place
  pub present : (x : ℕ) → past o.last x ≡ segment_in t.known w.memory x
  pub reported : (p x : ℕ) → o.place p ≡ Some x → place p ≡ Some x
  pub absent : (p : ℕ) → participant_of p w.participants ≡ None → (o.task p ≡ Absent) × (o.updates p ≡ 0)
  pub asked : (p : ℕ) (v : Participant (Client U K)) → participant_of p w.participants ≡ Some v → o.updates p ≡ v.program.updates
  pub clients : (p : ℕ) (v : Participant (Client U K)) → participant_of p w.participants ≡ Some v →
      IsDoing t (record { memory = w.memory; begun = length w.participants; last = o.last; past = past; moment = o.moment; place = place; who = who }) (o.task p) (o.steps p) (o.since p) p v.program

-- a new object over places in which nothing was written
pub tied_new : {S R V U K : Type 0} (t : LawfulPlaces S R V U K) (first : S) → t.known.ties.IsNew first → IsTied t (record { memory = first; most = t.known.most_of first; participants = [] }) new_object
tied_new t first new = record {
  most = refl;
  counted = refl;
  named = λ p v h. absurd (cc);
  consistent = t.laws.fresh first new;
  past = λ i x. None;
  place = λ p. None;
  who = λ i. 0;
  listed = λ p u h. absurd (cc);
  placed = λ p. refl;
  history = record {
    grows = λ x i j l k. omega arith;
    same = λ x i j l k e. refl;
    helps = λ x i r l e. absurd (cc);
    owned = λ x i r l e. absurd (cc);
    shows = λ i q l. refl;
    distinct = λ p q x e. absurd (cc);
  };
  present = λ x. sym (t.laws.empty first new x);
  reported = λ p x e. absurd (cc);
  absent = λ p h. (refl, refl);
  asked = λ p v h. absurd (cc);
  clients = λ p v h. absurd (cc);
}

module _ {S R V U K : Type 0} (t : LawfulPlaces S R V U K) (w : SnapState S U K) (o : SnapObject) (i : IsTied t w o) where
  abbrev pub era_now : Era S
  era_now = record { memory = w.memory; begun = length w.participants; last = o.last; past = i.past; moment = o.moment; place = i.place; who = i.who }

  -- who has a place has begun, and is on the way that has reached it
  pub reached_now : HasReached t.known.place_of (ways_of w.participants) i.place
  reached_now p x e = elim (ways_of w.participants p) as (λ z. place_by t.known.place_of z ≡ Some x → (u : U) × (z ≡ Some u) × (t.known.place_of u ≡ Some x)) [
    | None ↦ λ k. absurd (cc)
    | Some u ↦ λ k. (u, refl, k)
  ] (sym (i.placed p) ∙ e)

  pub roll_now : IsRoll i.who i.place (length w.participants)
  roll_now p x e = let it = reached_now p x e in i.listed p it.0 it.1

  -- p goes on with this program, in these participants and this memory
  module _ (p : ℕ) (c : Client U K) (ps : List (Participant (Client U K))) (put : (q : ℕ) → participant_of q ps ≡ set_at (λ u. participant_of u w.participants) p (Some (record { identity = p; program = c; ended = false })) q) where
    abbrev new : Participant (Client U K)
    new = record { identity = p; program = c; ended = false }

    put_other : (q : ℕ) → q ≢ p → participant_of q ps ≡ participant_of q w.participants
    put_other q n = put q ∙ set_at-other (λ u. participant_of u w.participants) p (Some new) q n

    -- the one of this identity
    put_own : (q : ℕ) (u : Participant (Client U K)) → q ≡ p → participant_of q ps ≡ Some u → new ≡ u
    put_own q u e h =
        let k : Some new ≡ Some u = sym (set_at-same (λ z. participant_of z w.participants) p (Some new)) ∙ sym (put p) ∙ ap (λ (z : ℕ). participant_of z ps) (sym e) ∙ h in
        cc

    pub ways_put : ways_of ps ≡ set_at (ways_of w.participants) p (Some c.walker)
    ways_put = fun_ext (λ q. ap way_now (put q) ∙ (elim (eqb_tells q p) [ inl e ↦ rw e.0 refl | inr e ↦ rw e.0 refl ]))

    named_put : (q : ℕ) (u : Participant (Client U K)) → participant_of q ps ≡ Some u → (u.identity ≡ q) × (u.ended ≡ false)
    named_put q u h = elim (eqb_tells q p) [
      | inl e ↦ subst (λ (z : Participant (Client U K)). (z.identity ≡ q) × (z.ended ≡ false)) (put_own q u e.1 h) (sym e.1, refl)
      | inr e ↦ i.named q u (sym (put_other q e.1) ∙ h)
    ]

    module _ (o' : SnapObject) (memory : S) (n : ℕ) (past : ℕ → ℕ → Option Record) (place : ℕ → Option ℕ) (who : ℕ → ℕ) where
      abbrev pub era_next : Era S
      era_next = record { memory = memory; begun = n; last = o'.last; past = past; moment = o'.moment; place = place; who = who }

      -- what a step of p owes
      pub record IsNext : Type 0 where
        pub others : (q : ℕ) → q ≢ p → (o'.task q ≡ o.task q) × (o'.steps q ≡ o.steps q) × (o'.since q ≡ o.since q) × (o'.updates q ≡ o.updates q)
        pub asked : o'.updates p ≡ c.updates
        pub most : t.known.most_of memory ≡ t.known.most_of w.memory
        pub many : length ps ≡ n
        pub counted : o'.begun ≡ n
        pub consistent : t.known.ties.IsConsistent memory n (set_at (ways_of w.participants) p (Some c.walker))
        pub listed : (q : ℕ) (u : U) → set_at (ways_of w.participants) p (Some c.walker) q ≡ Some u → (j : ℕ) × (j < n) × (who j ≡ q)
        pub placed : (q : ℕ) → place q ≡ place_by t.known.place_of (set_at (ways_of w.participants) p (Some c.walker) q)
        pub history : IsHistory o'.last past o'.moment place
        pub present : (x : ℕ) → past o'.last x ≡ segment_in t.known memory x
        pub reported : (q x : ℕ) → o'.place q ≡ Some x → place q ≡ Some x
        pub beginning : t.known.walk_from memory ≡ t.known.walk_from w.memory
        pub doing : IsDoing t era_next (o'.task p) (o'.steps p) (o'.since p) p c
        pub carries : (q own : ℕ) (u : U) → q ≢ p → ways_of w.participants q ≡ Some u → t.known.place_of u ≡ Some own → CarriesOn t era_now era_next own

      pub tied_next : IsNext → IsTied t (record { memory = memory; most = w.most; participants = ps }) o'
      tied_next k =
          let same = ways_put in
          record {
            most = i.most ∙ sym k.most;
            counted = k.counted ∙ sym k.many;
            named = named_put;
            consistent = rw (k.many, same) k.consistent;
            past = past;
            place = place;
            who = who;
            listed = λ q u h. rw k.many (k.listed q u (sym (ap (λ (g : ℕ → Option U). g q) same) ∙ h));
            placed = λ q. k.placed q ∙ ap (λ (g : ℕ → Option U). place_by t.known.place_of (g q)) (sym same);
            history = k.history;
            present = k.present;
            reported = k.reported;
            absent = λ q none. elim (eqb_tells q p) [
              | inl e ↦ absurd (let own : participant_of p ps ≡ None = rw e.1 at none in let k : Some new ≡ None = sym (set_at-same (λ z. participant_of z w.participants) p (Some new)) ∙ sym (put p) ∙ own in cc)
              | inr e ↦ let was = i.absent q (sym (put_other q e.1) ∙ none) in ((k.others q e.1).0 ∙ was.0, (k.others q e.1).3 ∙ was.1)
            ];
            asked = λ q u h. elim (eqb_tells q p) [
              | inl e ↦ ap o'.updates e.1 ∙ k.asked ∙ ap (λ (z : Participant (Client U K)). z.program.updates) (put_own q u e.1 h)
              | inr e ↦ (k.others q e.1).3 ∙ i.asked q u (sym (put_other q e.1) ∙ h)
            ];
            clients = λ q u h. elim (eqb_tells q p) [
              | inl e ↦ rw (k.many, e.1, ← put_own q u e.1 h) k.doing
              | inr e ↦
                  let was : participant_of q w.participants ≡ Some u = sym (put_other q e.1) ∙ h in
                  let on = k.others q e.1 in
                  rw (k.many, on.0, on.1, on.2) (doing_on t era_now era_next (o.task q) (o.steps q) (o.since q) q u.program k.beginning (λ own at. k.carries q own u.program.walker e.1 (ap way_now was) at) (i.clients q u was))
            ];
          }

-- the participants with another program for p, who has begun
pub put_there : {P : Type 0} (ps : List (Participant P)) (p : ℕ) (v : Participant P) (c : P) → participant_of p ps ≡ Some v → (q : ℕ) → participant_of q (with_participant (record { identity = p; program = c; ended = false }) ps) ≡ set_at (λ u. participant_of u ps) p (Some (record { identity = p; program = c; ended = false })) q
put_there ps p v c there q = participant_of-put ps (record { identity = p; program = c; ended = false }) (rw there refl) q

-- the world with another program for p
abbrev pub world_with : {S U K : Type 0} → SnapState S U K → S → ℕ → Client U K → SnapState S U K
world_with w memory p c = record { memory = memory; most = w.most; participants = with_participant (record { identity = p; program = c; ended = false }) w.participants }
