-- what ties a tree, its participants and their collects to the object of the law of collects
use Rattle.std.proofs.Common.{◌≡◌, ◌≢◌, ℕ, ◌+◌, ◌≤◌, ◌==◌, Bool, true, false, List, [], ◌∷◌, length, Option, Some, None, inl, inr, refl, sym, ap, subst, ◌∙◌, arith, ne_eqb, is_some, IsSome}
use Rattle.model_splitter.proofs.tree_lemmas.WorldCommon.{fun_ext, eqb_tells, leb_tells, Decides-eqb, set_at, MemorySteps, participant_of, beginner, Write, Participant, Record, length-with_participant, set_at-same, set_at-other, set_at-cases, TreeRegister, Mark, Contents, TreeValue, Held, Walker, Collect, Client, Task, Nothing, Collecting, IsTreeMemory, segment_at, segment_in, word_in, place_by, with_task, IsTree, count_to, place_read, collect_reads, marked_in, HasGrown, walkers, TreeState}
use Rattle.model_splitter.specs.tree.CollectLaw.{CollectObject, with_moment}
use Rattle.model_steps.proofs.cited.CountLemmas.{count_none, count_set}
use Rattle.model_splitter.proofs.cited.tree.collects.WalkLemmas.{place_from}
use Rattle.model_splitter.proofs.tree_lemmas.UnderWay.{UnderWay, under_way_later, TellsOf}
use Rattle.model_splitter.proofs.tree_lemmas.CallCases.{turned, turned_stands}
use Rattle.model_splitter.proofs.tree_lemmas.PlacesTied.{walkers_kept}

-- its collect, where one is under way
abbrev pub collect_of : Task → Option Collect
collect_of (Collecting c) = Some c
collect_of task = None

abbrev pub collect_in : Option (Participant Client) → Option Collect
collect_in None = None
collect_in (Some v) = collect_of v.program.task

-- its place, once it has one
abbrev pub place_now : {S : Type 0} → TreeState S → ℕ → Option ℕ
place_now w q = place_by (walkers w.participants q)

pub some_is : {T : Type 0} (o : Option T) → IsSome o → (x : T) × (o ≡ Some x)
some_is None h = absurd (cc)
some_is (Some x) h = (x, refl)

-- as many have begun at most as stand in the list
pub few_begun : (ps : List (Participant Client)) (n : ℕ) → count_to (λ q. is_some (participant_of q ps)) n ≤ length ps
few_begun [] n = let none = count_none n in omega arith
few_begun (p ∷ ps) n =
    let same : (λ q. is_some (participant_of q (p ∷ ps))) ≡ set_at (λ q. is_some (participant_of q ps)) p.identity true = fun_ext (λ q. elim (eqb_tells p.identity q) [
      | inl e ↦ rw (e.0, (Decides-eqb q p.identity).1 (sym e.1)) refl
      | inr e ↦ rw (e.0, ne_eqb q p.identity (λ k. e.1 (sym k))) refl
    ]) in
    let one = count_set (λ q. is_some (participant_of q ps)) p.identity n in
    rw same (omega (arith, one, few_begun ps n))

-- a participant has become another
module _ {S : Type 0} (w : TreeState S) (s : S) (id : ℕ) (who : Participant Client) (c : Client) (here : participant_of id w.participants ≡ Some who) where
  -- the collects that are under way then
  pub collects_turned : (P : ℕ → Collect → Type 0) → ((d : Collect) → collect_of c.task ≡ Some d → P id d) → ((q : ℕ) (d : Collect) → q ≢ id → collect_in (participant_of q w.participants) ≡ Some d → P q d) →
      (q : ℕ) (d : Collect) → collect_in (participant_of q (turned w s id c).participants) ≡ Some d → P q d
  collects_turned P own others q d h = set_at-cases (λ u. participant_of u w.participants) id (Some (beginner id c)) (λ o. collect_in o ≡ Some d → P q d) q
      (λ e k. subst (λ (i : ℕ). P i d) (sym e) (own d k)) (λ n k. others q d n k) (ap collect_in (sym (turned_stands w s id c who here q)) ∙ h)

  pub place_kept : c.walker ≡ who.program.walker → (q : ℕ) → place_now (turned w s id c) q ≡ place_now w q
  place_kept walk q = ap (λ (f : ℕ → Option Walker). place_by (f q)) (walkers_kept w s id who c here walk)

module _ {S : Type 0} (memory : MemorySteps S TreeRegister TreeValue) where
  -- what the memory holds agrees with the object: each segment holds what its owner stored last, and each collect under
  -- way has come so far
  pub record Agrees (w : TreeState S) (o : CollectObject) : Type 0 where
    pub many : o.begun ≡ length w.participants
    pub owned : (k : ℕ) (r : Record) → segment_at memory w.memory k ≡ Some r → (place_now w r.identity ≡ Some k) × (o.moment o.last r.identity ≡ Some r.value)
    pub held : (q k : ℕ) → place_now w q ≡ Some k → IsSome (o.moment o.last q) → (r : Record) × (segment_at memory w.memory k ≡ Some r) × (r.identity ≡ q)
    pub placed : (q : ℕ) → IsSome (o.moment o.last q) → IsSome (place_now w q)
    pub grows : (i q : ℕ) → i ≤ o.last → IsSome (o.moment i q) → IsSome (o.moment o.last q)
    pub under_way : (q : ℕ) (c : Collect) → collect_in (participant_of q w.participants) ≡ Some c → UnderWay (marked_in memory w.memory) (place_now w) o.moment o.last (o.since q) (o.steps q) c

  -- what a collect reads
  pub tells : IsTreeMemory memory → (w : TreeState S) (o : CollectObject) → Agrees w o → (c : Collect) → TellsOf (marked_in memory w.memory) (place_now w) (o.moment o.last) c.walk (memory.register w.memory (collect_reads c)).0
  tells tree w o t c = record {
    sees = λ e. rw e refl;
    of_place = λ r h. elim c.walk.is_reading_contents as (λ x. c.walk.is_reading_contents ≡ x → (k : ℕ) × (place_read c.walk ≡ Some k) × (place_now w r.identity ≡ Some k) × (o.moment o.last r.identity ≡ Some r.value)) [
      | true ↦ λ e.
          let is : segment_at memory w.memory c.walk.at ≡ Some r = rw e at h in
          let own = t.owned c.walk.at r is in
          (c.walk.at, rw e refl, own.0, own.1)
      | false ↦ λ e.
          let is : segment_in (memory.register w.memory (Mark c.walk.at)).0 ≡ Some r = rw e at h in
          let never : None ≡ Some r = sym (ap segment_in (tree.marks w.memory c.walk.at)) ∙ is in
          absurd (cc)
    ] refl;
    of_owner = λ q k read here some.
        let at = place_from c.walk k read in
        let own = t.held q k here some in
        (own.0, rw (at.0, at.1) own.1, own.2);
  }

  -- a call that stores nothing: no segment changes, and no mark and no place is lost
  pub unstored : (w new : TreeState S) (o : CollectObject) → Agrees w o → ((k : ℕ) → segment_at memory new.memory k ≡ segment_at memory w.memory k) →
      HasGrown (marked_in memory w.memory) (marked_in memory new.memory) → ((q k : ℕ) → place_now w q ≡ Some k → place_now new q ≡ Some k) →
      (begun : ℕ) (collects : ℕ → Bool) (since steps : ℕ → ℕ) → begun ≡ length new.participants →
      ((q : ℕ) (c : Collect) → collect_in (participant_of q new.participants) ≡ Some c → UnderWay (marked_in memory w.memory) (place_now w) o.moment o.last (since q) (steps q) c) →
      Agrees new (record { begun = begun; last = o.last; moment = o.moment; collects = collects; since = since; steps = steps })
  unstored w new o t segments grown places begun collects since steps many going = record {
    many = many;
    owned = λ k r h. let was = t.owned k r (sym (segments k) ∙ h) in (places r.identity k was.0, was.1);
    held = λ q k h some.
        let at = some_is (place_now w q) (t.placed q some) in
        let was = t.held q k (at.1 ∙ sym (places q at.0 at.1) ∙ h) some in
        (was.0, segments k ∙ was.1, was.2);
    placed = λ q some. let at = some_is (place_now w q) (t.placed q some) in ap is_some (places q at.0 at.1);
    grows = t.grows;
    under_way = λ q c h. under_way_later (marked_in memory w.memory) (marked_in memory new.memory) (place_now w) (place_now new) o.moment o.moment o.last o.last (since q) (steps q) c
        grown places (λ i l. refl) (omega arith) (going q c h);
  }

  -- the segment of its place is written
  module _ (tree : IsTreeMemory memory) (b : ℕ) (w : TreeState S) (law : IsTree memory b w.memory (walkers w.participants)) (o : CollectObject) (t : Agrees w o)
      (id : ℕ) (who : Participant Client) (here : participant_of id w.participants ≡ Some who) (k : ℕ) (own : place_now w id ≡ Some k) (r : Record) (by : r.identity ≡ id) where
    abbrev wrote : TreeState S
    wrote = turned w (memory.after w.memory (Write (Contents k) (Held (Some r)))) id (with_task who.program Nothing)

    spared : (x : TreeRegister) → x ≢ Contents k → memory.register wrote.memory x ≡ memory.register w.memory x
    spared x other = tree.others w.memory (Write (Contents k) (Held (Some r))) x other

    segment_here : segment_at memory wrote.memory k ≡ Some r
    segment_here = ap segment_in (tree.takes_segment w.memory k (Some r) (law.placed id k own))

    segment_there : (j : ℕ) → j ≢ k → segment_at memory wrote.memory j ≡ segment_at memory w.memory j
    segment_there j other = ap (λ x. segment_in x.0) (spared (Contents j) (λ h. other (let both : j ≡ k = cc in both)))

    place_same : (q : ℕ) → place_now wrote q ≡ place_now w q
    place_same = place_kept w wrote.memory id who (with_task who.program Nothing) here refl

    abbrev o' : CollectObject
    o' = with_moment o id r.value

    last_is : o'.moment o'.last ≡ set_at (o.moment o.last) id (Some r.value)
    last_is = set_at-same o.moment (o.last + 1) (set_at (o.moment o.last) id (Some r.value))

    before_is : (i : ℕ) → i ≤ o.last → o'.moment i ≡ o.moment i
    before_is i h = set_at-other o.moment (o.last + 1) (set_at (o.moment o.last) id (Some r.value)) i (λ e. omega arith)

    last_here : o'.moment o'.last id ≡ Some r.value
    last_here = ap (λ f. f id) last_is ∙ set_at-same (o.moment o.last) id (Some r.value)

    last_there : (q : ℕ) → q ≢ id → o'.moment o'.last q ≡ o.moment o.last q
    last_there q other = ap (λ f. f q) last_is ∙ set_at-other (o.moment o.last) id (Some r.value) q other

    pub stored : Agrees wrote o'
    stored = record {
      many = t.many ∙ sym (length-with_participant w.participants (beginner id (with_task who.program Nothing)));
      owned = λ j x h. elim (eqb_tells j k) [
        | inl e ↦
            let is : Some r ≡ Some x = sym segment_here ∙ ap (segment_at memory wrote.memory) (sym e.1) ∙ h in
            let same : r ≡ x = cc in
            subst (λ (y : Record). (place_now wrote y.identity ≡ Some j) × (o'.moment o'.last y.identity ≡ Some y.value)) same
            (place_same r.identity ∙ ap (place_now w) by ∙ own ∙ ap Some (sym e.1), ap (o'.moment o'.last) by ∙ last_here)
        | inr e ↦
            let was = t.owned j x (sym (segment_there j e.1) ∙ h) in
            let other : x.identity ≢ id = (λ i. e.1 (let both : Some j ≡ Some k = sym was.0 ∙ ap (place_now w) i ∙ own in let is : j ≡ k = cc in is)) in
            (place_same x.identity ∙ was.0, last_there x.identity other ∙ was.1)
      ];
      held = λ q j h some. elim (eqb_tells q id) [
        | inl e ↦
            let both : Some k ≡ Some j = sym own ∙ ap (place_now w) (sym e.1) ∙ sym (place_same q) ∙ h in
            let is : k ≡ j = cc in
            (r, subst (λ (x : ℕ). segment_at memory wrote.memory x ≡ Some r) is segment_here, by ∙ sym e.1)
        | inr e ↦
            let at : place_now w q ≡ Some j = sym (place_same q) ∙ h in
            let was = t.held q j at (ap is_some (sym (last_there q e.1)) ∙ some) in
            (was.0, segment_there j (λ i. e.1 (law.distinct q id k (at ∙ ap Some i) own)) ∙ was.1, was.2)
      ];
      placed = λ q some. elim (eqb_tells q id) [
        | inl e ↦ ap is_some (place_same q ∙ ap (place_now w) e.1 ∙ own)
        | inr e ↦ ap is_some (place_same q) ∙ t.placed q (ap is_some (sym (last_there q e.1)) ∙ some)
      ];
      grows = λ i q l some. elim (eqb_tells q id) [
        | inl e ↦ ap is_some (ap (o'.moment o'.last) e.1 ∙ last_here)
        | inr e ↦ elim (leb_tells i o.last) [
          | inl m ↦ ap is_some (last_there q e.1) ∙ t.grows i q m.1 (ap (λ f. is_some (f q)) (sym (before_is i m.1)) ∙ some)
          | inr m ↦ let is : i ≡ o.last + 1 = omega (arith, m.1, l) in ap (λ x. is_some (o'.moment x q)) (sym is) ∙ some
        ]
      ];
      under_way = collects_turned w wrote.memory id who (with_task who.program Nothing) here (λ q d. UnderWay (marked_in memory wrote.memory) (place_now wrote) o'.moment o'.last (o.since q) (o.steps q) d)
          (λ d h. absurd (cc))
          (λ q d n h. under_way_later (marked_in memory w.memory) (marked_in memory wrote.memory) (place_now w) (place_now wrote) o.moment o'.moment o.last o'.last (o.since q) (o.steps q) d
          (λ j m. ap (λ x. word_in x.0 == 1) (spared (Mark j) (λ e. absurd (cc))) ∙ m) (λ u j m. place_same u ∙ m) before_is (omega arith) (t.under_way q d h));
    }
