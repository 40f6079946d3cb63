-- the steps of a snapshot object over any places keep the tie
use Rattle.std.proofs.Common.{◌≡◌, ◌≢◌, ℕ, ◌+◌, ◌<◌, ◌≤◌, false, List, ◌⊎◌, length, Option, Some, None, inl, inr, refl, sym, ap, ◌∙◌, arith}
use Rattle.model_snapshot.proofs.Common.{eqb_tells, set_at, Write, Participant, participant_of, with_participant, length-with_participant, Record, Client, Nothing, SnapState, way_now, ways_of, segment_in, KeepsWalks, Idle}
use Rattle.std.proofs.Math.Nat.{mul-le-mul_right, mul-le-mul_left}
use Rattle.model_steps.proofs.cited.SetAtLemmas.{set_at-same, set_at-other, set_at-as_is}
use Rattle.model_snapshot.specs.Snapshot.{Task, SnapObject, with_task, with_moment}
use Rattle.model_snapshot.proofs.LawfulPlaces.{LawfulPlaces}
use Rattle.model_snapshot.proofs.Histories.{number, IsHelp, IsHistory, past', moment', past_kept, past_other, past_here, help_kept, history_more, history_joined, nothing_there}
use Rattle.model_snapshot.proofs.Collecting.{collecting_later, collecting_joined}
use Rattle.model_snapshot.proofs.Tied.{Era, place_by, most_reads, IsDoing, CarriesOn, IsTied, era_now, tied_next, reached_now, put_there, world_with}

carries_same : {S R V U K : Type 0} (t : LawfulPlaces S R V U K) (e : Era S) (own : ℕ) → CarriesOn t e e own
carries_same t e own = record { beginning = refl; bound = omega arith; mine = refl; scans = λ since steps s g. g; helps = λ n view k. k }

module _ {S R V U K : Type 0} (t : LawfulPlaces S R V U K) (w : SnapState S U K) (o : SnapObject) (i : IsTied t w o) (p : ℕ) (v : Participant (Client U K)) (there : participant_of p w.participants ≡ Some v) (c : Client U K) where
  abbrev ps : List (Participant (Client U K))
  ps = with_participant (record { identity = p; program = c; ended = false }) w.participants

  many : length ps ≡ length w.participants
  many = length-with_participant w.participants (record { identity = p; program = c; ended = false })

  way : ways_of w.participants p ≡ Some v.program.walker
  way = ap way_now there

  -- p goes on with the same way
  module _ (same : c.walker ≡ v.program.walker) where
    ways_same : set_at (ways_of w.participants) p (Some c.walker) ≡ ways_of w.participants
    ways_same = set_at-as_is (ways_of w.participants) p (Some c.walker) (ap Some same ∙ sym way)

    ways_at : (q : ℕ) → set_at (ways_of w.participants) p (Some c.walker) q ≡ ways_of w.participants q
    ways_at q = ap (λ (g : ℕ → Option U). g q) ways_same

    -- and changes no segment; of the others so many updates were asked as before
    pub tied_with : (updates : ℕ → ℕ) → ((q : ℕ) → q ≢ p → updates q ≡ o.updates q) → updates p ≡ c.updates → (task : Task) (steps since : ℕ) → IsDoing t (era_now t w o i) task steps since p c →
        IsTied t (world_with w w.memory p c) (record (with_task o p task steps since) { updates = updates })
    tied_with updates of_others asked task steps since doing =
        tied_next t w o i p c ps (put_there w.participants p v c there) (record (with_task o p task steps since) { updates = updates }) w.memory (length w.participants) i.past i.place i.who (record {
          others = λ q n. (set_at-other o.task p task q n, set_at-other o.steps p steps q n, set_at-other o.since p since q n, of_others q n);
          asked = asked;
          most = refl;
          many = many;
          counted = i.counted;
          consistent = rw ways_same i.consistent;
          listed = λ q u h. i.listed q u (sym (ways_at q) ∙ h);
          placed = λ q. i.placed q ∙ ap (place_by t.known.place_of) (sym (ways_at q));
          history = i.history;
          present = i.present;
          reported = i.reported;
          beginning = refl;
          doing = rw (set_at-same o.task p task, set_at-same o.steps p steps, set_at-same o.since p since) doing;
          carries = λ q own u n there at. carries_same t (era_now t w o i) own;
        })

    -- or writes its own
    module _ (x : ℕ) (here : t.known.place_of v.program.walker ≡ Some x) (r : Record) (by : r.identity ≡ p) (one_more : number (i.past o.last x) + 1 ≡ r.number) (help : IsHelp o.last i.past o.moment x r.number r.view) where
      own : i.place p ≡ Some x
      own = i.placed p ∙ ap (place_by t.known.place_of) way ∙ here

      abbrev wrote : ℕ → ℕ → Option Record
      wrote = past' o.last i.past o.moment i.place i.history p x own r by one_more help

      abbrev shows : ℕ → ℕ → Option ℕ
      shows = moment' o.last i.past o.moment i.place i.history p x own r by one_more help

      kept_past : (n : ℕ) → n ≤ o.last → wrote n ≡ i.past n
      kept_past = past_kept o.last i.past o.moment i.place i.history p x own r by one_more help

      other : (y : ℕ) → y ≢ x → wrote (o.last + 1) y ≡ i.past o.last y
      other = past_other o.last i.past o.moment i.place i.history p x own r by one_more help

      here_now : wrote (o.last + 1) x ≡ Some r
      here_now = past_here o.last i.past o.moment i.place i.history p x own r by one_more help

      abbrev written : S
      written = t.known.memory.after w.memory (Write (t.known.walks.segment x) (t.known.walks.stored (Some r)))

      abbrev after : Era S
      after = record { memory = written; begun = length w.participants; last = o.last + 1; past = wrote; moment = shows; place = i.place; who = i.who }

      carries_later : (y : ℕ) → y ≢ x → CarriesOn t (era_now t w o i) after y
      carries_later y n =
          let k = (t.laws.written w.memory (length w.participants) (ways_of w.participants) i.consistent p x v.program.walker way here r).kept in
          let same_most = k.most in
          record {
            beginning = k.beginning;
            bound = rw (same_most, most_reads) (omega arith);
            mine = other y n;
            scans = λ since steps s g. record {
              collects = g.collects;
              reads = g.reads;
              walk = k.read s.walk g.reads g.walk;
              beginning = λ e. g.beginning e ∙ sym k.beginning;
              count = rw same_most g.count;
              collecting = collecting_later (length w.participants) o.last i.past wrote i.place i.who y since g.collects (t.known.ties.IsAhead w.memory s.walk) (t.known.ties.IsAhead written s.walk) (t.known.ties.IsUpcoming s.walk) s.is_first s.differs s.sightings kept_past (other y n) (k.ahead s.walk) g.collecting;
            };
            helps = λ m view h. help_kept o.last i.past o.moment i.place i.history p x own r by one_more help y m view h;
          }

      pub tied_written : (steps since : ℕ) → c.identity ≡ p → c.walk ≡ t.known.walk_from w.memory → c.pending ≡ Nothing → c.updates ≡ r.number → c.updates ≡ v.program.updates → IsTied t (world_with w written p c) (with_moment (with_task o p Idle steps since) p (Some r.value))
      tied_written steps since named walk idle updates kept =
          let k = t.laws.written w.memory (length w.participants) (ways_of w.participants) i.consistent p x v.program.walker way here r in
          let mine : t.known.place_of c.walker ≡ Some x = ap t.known.place_of same ∙ here in
          let done : IsDoing t after Idle steps since p c = record {
            identity = named;
            walk = walk ∙ sym k.kept.beginning;
            at = rw idle (x, mine, updates ∙ sym (ap number here_now), inl refl);
          } in
          tied_next t w o i p c ps (put_there w.participants p v c there) (with_moment (with_task o p Idle steps since) p (Some r.value)) written (length w.participants) wrote i.place i.who (record {
            others = λ q n. (set_at-other o.task p Idle q n, set_at-other o.steps p steps q n, set_at-other o.since p since q n, refl);
            asked = i.asked p v there ∙ sym kept;
            most = k.kept.most;
            many = many;
            counted = i.counted;
            consistent = rw ways_same k.consistent;
            listed = λ q u h. i.listed q u (sym (ways_at q) ∙ h);
            placed = λ q. i.placed q ∙ ap (place_by t.known.place_of) (sym (ways_at q));
            history = history_more o.last i.past o.moment i.place i.history p x own r by one_more help;
            present = λ y. elim (eqb_tells y x) [
              | inl e ↦ ap (wrote (o.last + 1)) e.1 ∙ here_now ∙ sym (ap (segment_in t.known written) e.1 ∙ k.own)
              | inr e ↦ other y e.1 ∙ i.present y ∙ sym (k.others y e.1)
            ];
            reported = i.reported;
            beginning = k.kept.beginning;
            doing = rw (set_at-same o.task p Idle, set_at-same o.steps p steps, set_at-same o.since p since) done;
            carries = λ q y u n on at. carries_later y (λ e.
                let theirs : i.place q ≡ Some x = i.placed q ∙ ap (place_by t.known.place_of) on ∙ at ∙ ap Some e in
                n (i.history.distinct q p x theirs own));
          })

-- p has begun, or has made an access on its way
module _ {S R V U K : Type 0} (t : LawfulPlaces S R V U K) (w : SnapState S U K) (o : SnapObject) (i : IsTied t w o) (p : ℕ) (c : Client U K) (memory : S) (n : ℕ) (who : ℕ → ℕ) (absent : i.place p ≡ None) (up : length w.participants ≤ n) (more : t.known.ties.reads (t.known.most_of w.memory) (length w.participants) ≤ t.known.ties.reads (t.known.most_of w.memory) n) (same : (j : ℕ) → j < length w.participants → who j ≡ i.who j) (last_one : (j : ℕ) × (j < n) × (who j ≡ p)) (consistent : t.known.ties.IsConsistent memory n (set_at (ways_of w.participants) p (Some c.walker))) (segments : (x : ℕ) → segment_in t.known memory x ≡ segment_in t.known w.memory x) (kept : KeepsWalks t.known w.memory memory) where
  abbrev place' : ℕ → Option ℕ
  place' = set_at i.place p (t.known.place_of c.walker)

  pub free : (q x : ℕ) → i.place q ≡ Some x → t.known.place_of c.walker ≡ Some x → ⊥
  free q x e at =
      let it = reached_now t w o i q x e in
      let other : q ≢ p = λ k. let two : None ≡ Some x = sym absent ∙ ap i.place (sym k) ∙ e in absurd (cc) in
      other (t.laws.distinct memory n (set_at (ways_of w.participants) p (Some c.walker)) consistent q p x it.0 c.walker (set_at-other (ways_of w.participants) p (Some c.walker) q other ∙ it.1) (set_at-same (ways_of w.participants) p (Some c.walker)) it.2 at)

  pub nothing_yet : (x k : ℕ) → t.known.place_of c.walker ≡ Some x → k ≤ o.last → i.past k x ≡ None
  nothing_yet = nothing_there o.last i.past o.moment i.place i.history p (t.known.place_of c.walker) absent free

  abbrev pub era_joined : Era S
  era_joined = record { memory = memory; begun = n; last = o.last; past = i.past; moment = o.moment; place = place'; who = who }

  carries_joined : (own : ℕ) → CarriesOn t (era_now t w o i) era_joined own
  carries_joined own =
      let same_most = kept.most in
      record {
        beginning = kept.beginning;
        bound = rw (same_most, most_reads) (
            let one = mul-le-mul_left (length w.participants + 1) more in
            let l : length w.participants + 1 ≤ n + 1 = omega arith in
            let three = mul-le-mul_right (t.known.ties.reads (t.known.most_of w.memory) n) l in
            omega arith);
        mine = refl;
        scans = λ since steps s g. record {
          collects = g.collects;
          reads = g.reads;
          walk = kept.read s.walk g.reads g.walk;
          beginning = λ e. g.beginning e ∙ sym kept.beginning;
          count = rw same_most (
              let was = g.count in
              let one = mul-le-mul_left g.collects more in
              omega arith);
          collecting = collecting_joined (length w.participants) n o.last i.past i.place i.who who p (t.known.place_of c.walker) own since g.collects (t.known.ties.IsAhead w.memory s.walk) (t.known.ties.IsAhead memory s.walk) (t.known.ties.IsUpcoming s.walk) s.is_first s.differs s.sightings up same absent nothing_yet (kept.ahead s.walk) g.collecting;
        };
        helps = λ m view k. k;
      }

  -- the object has p at this task, and may have been told its place
  pub tied_joined : (ps : List (Participant (Client U K))) → ((q : ℕ) → participant_of q ps ≡ set_at (λ u. participant_of u w.participants) p (Some (record { identity = p; program = c; ended = false })) q) → length ps ≡ n →
      (o' : SnapObject) → o'.begun ≡ n → o'.last ≡ o.last → o'.moment ≡ o.moment → ((q : ℕ) → q ≢ p → (o'.task q ≡ o.task q) × (o'.steps q ≡ o.steps q) × (o'.since q ≡ o.since q) × (o'.updates q ≡ o.updates q)) → o'.updates p ≡ c.updates → ((q x : ℕ) → o'.place q ≡ Some x → (o.place q ≡ Some x) ⊎ ((q ≡ p) × (t.known.place_of c.walker ≡ Some x))) →
      IsDoing t era_joined (o'.task p) (o'.steps p) (o'.since p) p c → IsTied t (record { memory = memory; most = w.most; participants = ps }) o'
  tied_joined ps put many o' counted last moment others asked reported doing =
      let history : IsHistory o.last i.past o.moment place' = history_joined o.last i.past o.moment i.place i.history p (t.known.place_of c.walker) absent free in
      let kept_place : (q x : ℕ) → i.place q ≡ Some x → place' q ≡ Some x = λ q x e. elim (eqb_tells q p) [
        | inl u ↦ absurd (let k : None ≡ Some x = sym absent ∙ ap i.place (sym u.1) ∙ e in cc)
        | inr u ↦ rw u.0 e
      ] in
      tied_next t w o i p c ps put o' memory n i.past place' who (record {
        others = others;
        asked = asked;
        most = kept.most;
        many = many;
        counted = counted;
        consistent = consistent;
        listed = λ q u h. elim (eqb_tells q p) [
          | inl e ↦ (last_one.0, last_one.1, last_one.2 ∙ sym e.1)
          | inr e ↦
              let it = i.listed q u (rw e.0 at h) in
              (it.0, (let l = it.1 in omega arith), same it.0 it.1 ∙ it.2)
        ];
        placed = λ q. elim (eqb_tells q p) [ inl e ↦ rw e.0 refl | inr e ↦ rw e.0 (i.placed q) ];
        history = rw (last, moment) history;
        present = λ x. rw last (i.present x ∙ sym (segments x));
        reported = λ q x e. elim (reported q x e) [
          | inl k ↦ kept_place q x (i.reported q x k)
          | inr k ↦ rw k.0 (set_at-same i.place p (t.known.place_of c.walker) ∙ k.1)
        ];
        beginning = kept.beginning;
        doing = rw (last, moment) doing;
        carries = λ q own u e on at. rw (last, moment) (carries_joined own);
      })
