-- a collect under way
use Rattle.std.proofs.Common.{◌≡◌, ℕ, suc, ◌+◌, ◌<◌, ◌≤◌, ◌==◌, Bool, true, false, cond, List, length, Option, Some, None, ◌⊎◌, inl, inr, refl, sym, ap, subst, ◌∙◌, arith, is_some, IsSome}
use Rattle.model_splitter.proofs.tree_lemmas.WorldCommon.{eqb_tells, leb_tells, Decides-eqb, set_at, Record, TreeValue, CollectWalk, Collect, segment_in, place_read, finds_mark, walk_resumed, walk_is_over, first_collect, view_with, collect_after, count_to, Sees, HasGrown, HasRead, IsPathMarked, IsUpcoming, IsAhead, count_le, count_more}
use Rattle.model_steps.specs.View.{IsRising, value_of, inserted}
use Rattle.model_steps.proofs.cited.ViewLemmas.{IsRising-inserted, value_of-inserted, length-inserted}
use Rattle.model_splitter.proofs.cited.tree.collects.WalkLemmas.{ahead_at_first, ahead_kept, ahead_resumed, upcoming_before, read_once}
use Rattle.model_splitter.proofs.cited.tree.collects.ReadCount.{read_at_first, read_here, read_kept, read_resumed}

-- what a collect, since a moment and after so many steps, has come to. The places, the marks and the moments are those
-- of now. Of each identity that has a pair it is known that its place lies behind
pub record UnderWay (marked : ℕ → Bool) (place : ℕ → Option ℕ) (moment : ℕ → ℕ → Option ℕ) (last since steps : ℕ) (c : Collect) : Type 0 where
  pub since_then : since ≤ last
  pub rising : IsRising c.view
  pub stored : (q value : ℕ) → value_of q c.view ≡ Some value → (i : ℕ) × (since ≤ i) × (i ≤ last) × (moment i q ≡ Some value)
  pub still : (q : ℕ) → IsSome (moment since q) → IsSome (value_of q c.view) ⊎ ((k : ℕ) × (place q ≡ Some k) × IsAhead marked c.walk k)
  pub nodes : ℕ
  pub reads : HasRead marked c.walk nodes steps
  pub seen : ℕ → Bool
  pub above_all : ℕ
  pub counted : (n : ℕ) → above_all ≤ n → length c.view ≤ count_to seen n
  pub behind : (q : ℕ) → seen q ≡ true → (k : ℕ) × (place q ≡ Some k) × (IsUpcoming c.walk k → ⊥)

-- a collect that begins: whoever has stored has a place, of which the whole path is marked
pub under_way_at_first : (marked : ℕ → Bool) (place : ℕ → Option ℕ) (moment : ℕ → ℕ → Option ℕ) (last : ℕ) → ((q : ℕ) → IsSome (moment last q) → (k : ℕ) × (place q ≡ Some k) × IsPathMarked marked k) → UnderWay marked place moment last last 0 first_collect
under_way_at_first marked place moment last placed = record {
  since_then = omega arith;
  rising = tt;
  stored = λ q value h. absurd (cc);
  still = λ q some. let h = placed q some in inr (h.0, h.1, ahead_at_first marked h.0 h.2);
  nodes = 0;
  reads = read_at_first marked;
  seen = λ q. false;
  above_all = 0;
  counted = λ n h. omega arith;
  behind = λ q h. absurd (cc);
}

-- while nodes are made, places come and others store
pub under_way_later : (marked later : ℕ → Bool) (place place' : ℕ → Option ℕ) (moment moment' : ℕ → ℕ → Option ℕ) (last last' since steps : ℕ) (c : Collect) →
    HasGrown marked later → ((q k : ℕ) → place q ≡ Some k → place' q ≡ Some k) → ((i : ℕ) → i ≤ last → moment' i ≡ moment i) → last ≤ last' →
    UnderWay marked place moment last since steps c → UnderWay later place' moment' last' since steps c
under_way_later marked later place place' moment moment' last last' since steps c grown places moments more u = record {
  since_then = omega (arith, u.since_then);
  rising = u.rising;
  stored = λ q value h.
      let s = u.stored q value h in
      (s.0, s.1, omega (arith, s.2), ap (λ f. f q) (moments s.0 s.2) ∙ s.3);
  still = λ q some.
      let was : IsSome (moment since q) = subst (λ (f : ℕ → Option ℕ). IsSome (f q)) (moments since u.since_then) some in
      elim (u.still q was) [
        | inl h ↦ inl h
        | inr h ↦ inr (h.0, places q h.0 h.1, ahead_kept marked later c.walk h.0 grown h.2)
      ];
  nodes = u.nodes;
  reads = read_kept marked later c.walk u.nodes steps grown u.reads;
  seen = u.seen;
  above_all = u.above_all;
  counted = u.counted;
  behind = λ q h. let b = u.behind q h in (b.0, places q b.0 b.1, b.2);
}

-- a view with what a segment holds
record Gathered (view more : List (ℕ × ℕ)) (found : Option Record) : Type 0 where
  rising : IsRising view → IsRising more
  value : (q value : ℕ) → value_of q more ≡ Some value → (value_of q view ≡ Some value) ⊎ ((r : Record) × (found ≡ Some r) × (r.identity ≡ q) × (r.value ≡ value))
  kept : (q : ℕ) → IsSome (value_of q view) → IsSome (value_of q more)
  there : (r : Record) → found ≡ Some r → IsSome (value_of r.identity more)
  longer : length more ≤ length view + 1
  as_long : found ≡ None → length more ≡ length view

value_in_inserted : (view : List (ℕ × ℕ)) (r : Record) (q value : ℕ) → value_of q (inserted view (r.identity, r.value)) ≡ Some value → (value_of q view ≡ Some value) ⊎ ((r.identity ≡ q) × (r.value ≡ value))
value_in_inserted view r q value h = elim (eqb_tells r.identity q) [
  | inl e ↦ let k : Some r.value ≡ Some value = rw e.0 at (sym (value_of-inserted q view (r.identity, r.value)) ∙ h) in inr (e.1, cc)
  | inr e ↦ inl (rw e.0 at (sym (value_of-inserted q view (r.identity, r.value)) ∙ h))
]

kept_in_inserted : (view : List (ℕ × ℕ)) (r : Record) (q : ℕ) → IsSome (value_of q view) → IsSome (value_of q (inserted view (r.identity, r.value)))
kept_in_inserted view r q h = rw (value_of-inserted q view (r.identity, r.value)) (elim (r.identity == q) as (λ b. is_some (cond b (Some r.value) (value_of q view)) ≡ true) [ true ↦ refl | false ↦ h ])

there_in_inserted : (view : List (ℕ × ℕ)) (r : Record) → IsSome (value_of r.identity (inserted view (r.identity, r.value)))
there_in_inserted view r = let own : (r.identity == r.identity) ≡ true = (Decides-eqb r.identity r.identity).1 refl in rw (value_of-inserted r.identity view (r.identity, r.value), own) refl

gathered : (view : List (ℕ × ℕ)) (found : Option Record) → (IsSome found → length view < 64) → Gathered view (view_with view found) found
gathered view None room = record {
  rising = λ h. h;
  value = λ q value h. inl h;
  kept = λ q h. h;
  there = λ r e. absurd (cc);
  longer = omega arith;
  as_long = λ e. refl;
}
gathered view (Some r) room = elim (leb_tells 64 (length view)) [
  | inl l ↦ absurd (omega (arith, l.1, room refl))
  | inr l ↦ rw l.0 (record {
    rising = IsRising-inserted view (r.identity, r.value);
    value = λ q value h. elim (value_in_inserted view r q value h) [ inl e ↦ inl e | inr e ↦ inr (r, refl, e.0, e.1) ];
    kept = kept_in_inserted view r;
    there = λ s e. let same : r ≡ s = cc in subst (λ (x : Record). IsSome (value_of x.identity (inserted view (r.identity, r.value)))) same (there_in_inserted view r);
    longer = length-inserted view (r.identity, r.value);
    as_long = λ e. absurd (cc);
  })
]

-- what is known of a read: a mark holds no record, and a segment what its owner stored last
pub record TellsOf (marked : ℕ → Bool) (place : ℕ → Option ℕ) (stored : ℕ → Option ℕ) (w : CollectWalk) (got : TreeValue) : Type 0 where
  pub sees : Sees marked w got
  pub of_place : (r : Record) → segment_in got ≡ Some r → (k : ℕ) × (place_read w ≡ Some k) × (place r.identity ≡ Some k) × (stored r.identity ≡ Some r.value)
  pub of_owner : (q k : ℕ) → place_read w ≡ Some k → place q ≡ Some k → IsSome (stored q) → (r : Record) × (segment_in got ≡ Some r) × (r.identity ≡ q)

module _ (marked : ℕ → Bool) (place : ℕ → Option ℕ) (moment : ℕ → ℕ → Option ℕ) (last since steps : ℕ) (c : Collect) (got : TreeValue)
    (few : (n : ℕ) → count_to (λ q. is_some (place q)) n ≤ 64) (grows : (i q : ℕ) → i ≤ last → IsSome (moment i q) → IsSome (moment last q)) where
  abbrev next_walk : CollectWalk
  next_walk = walk_resumed c.walk got

  -- who is read has not been seen
  unseen : (u : UnderWay marked place moment last since steps c) → TellsOf marked place (moment last) c.walk got → (r : Record) → segment_in got ≡ Some r → u.seen r.identity ≡ false
  unseen u t r e = elim (u.seen r.identity) as (λ b. u.seen r.identity ≡ b → b ≡ false) [
    | true ↦ λ s.
        let b = u.behind r.identity s in
        let o = t.of_place r e in
        let same : Some b.0 ≡ Some o.0 = sym b.1 ∙ o.2 in
        let is : b.0 ≡ o.0 = cc in
        absurd (b.2 (subst (λ (x : ℕ). IsUpcoming c.walk x) (sym is) (read_here marked c.walk u.nodes steps o.0 u.reads o.1)))
    | false ↦ λ s. refl
  ] refl

  -- one more than those seen has a place, so there is room for its pair
  room : (u : UnderWay marked place moment last since steps c) → TellsOf marked place (moment last) c.walk got → IsSome (segment_in got) → length c.view < 64
  room u t some = elim (segment_in got) as (λ o. segment_in got ≡ o → IsSome o → length c.view < 64) [
    | None ↦ λ e h. absurd (cc)
    | Some r ↦ λ e h.
        let o = t.of_place r e in
        let n : ℕ = u.above_all + suc r.identity in
        let one : count_to (set_at u.seen r.identity true) n ≡ count_to u.seen n + 1 = count_more u.seen r.identity n (unseen u t r e) (omega arith) in
        let le : count_to (set_at u.seen r.identity true) n ≤ count_to (λ q. is_some (place q)) n =
        count_le (set_at u.seen r.identity true) (λ q. is_some (place q)) (λ q k. elim (eqb_tells q r.identity) [
          | inl s ↦ rw (s.1, o.2) refl
          | inr s ↦ let b = u.behind q (rw s.0 at k) in rw b.1 refl
        ]) n in
        omega (arith, one, le, few n, u.counted n (omega arith))
  ] refl some

  abbrev next_view : List (ℕ × ℕ)
  next_view = view_with c.view (segment_in got)

  -- whoever had stored when the collect began has a pair now, or is still ahead
  pub read_still : (u : UnderWay marked place moment last since steps c) → TellsOf marked place (moment last) c.walk got → (q : ℕ) → IsSome (moment since q) →
      IsSome (value_of q next_view) ⊎ ((walk_is_over c.walk got ≡ false) × ((k : ℕ) × (place q ≡ Some k) × IsAhead marked next_walk k))
  read_still u t q some =
      let g = gathered c.view (segment_in got) (room u t) in
      elim (u.still q some) [
        | inl h ↦ inl (g.kept q h)
        | inr h ↦ elim (ahead_resumed marked c.walk got h.0 t.sees h.2) [
          | inl read ↦
              let o = t.of_owner q h.0 read h.1 (grows since q u.since_then some) in
              inl (subst (λ (x : ℕ). IsSome (value_of x next_view)) o.2 (g.there o.0 o.1))
          | inr a ↦ inr (a.0, (h.0, h.1, a.1))
        ]
      ]

  -- each pair was that identity's value at some moment of the collect
  pub read_stored : (u : UnderWay marked place moment last since steps c) → TellsOf marked place (moment last) c.walk got → (q value : ℕ) → value_of q next_view ≡ Some value → (i : ℕ) × (since ≤ i) × (i ≤ last) × (moment i q ≡ Some value)
  read_stored u t q value h =
      let g = gathered c.view (segment_in got) (room u t) in
      elim (g.value q value h) [
        | inl e ↦ u.stored q value e
        | inr e ↦
            let o = t.of_place e.0 e.1 in
            (last, u.since_then, omega arith, ap (moment last) (sym e.2) ∙ o.3 ∙ ap Some e.3)
      ]

  pub read_rising : (u : UnderWay marked place moment last since steps c) → TellsOf marked place (moment last) c.walk got → IsRising next_view
  read_rising u t = let g = gathered c.view (segment_in got) (room u t) in g.rising u.rising

  -- a collect that goes on
  pub under_way_read : UnderWay marked place moment last since steps c → TellsOf marked place (moment last) c.walk got → walk_is_over c.walk got ≡ false → UnderWay marked place moment last since (steps + 1) (collect_after c got)
  under_way_read u t on =
      let g = gathered c.view (segment_in got) (room u t) in
      let still : (q : ℕ) → IsSome (moment since q) → IsSome (value_of q next_view) ⊎ ((k : ℕ) × (place q ≡ Some k) × IsAhead marked next_walk k) = (λ q some. elim (read_still u t q some) [ inl h ↦ inl h | inr h ↦ inr h.1 ]) in
      let reads = read_resumed marked c.walk got u.nodes steps t.sees u.reads on in
      let before : (q : ℕ) → u.seen q ≡ true → (k : ℕ) × (place q ≡ Some k) × (IsUpcoming next_walk k → ⊥) = (λ q h. let b = u.behind q h in (b.0, b.1, λ v. b.2 (upcoming_before c.walk got b.0 v))) in
      let on_with : (seen : ℕ → Bool) (above_all : ℕ) → ((n : ℕ) → above_all ≤ n → length next_view ≤ count_to seen n) → ((q : ℕ) → seen q ≡ true → (k : ℕ) × (place q ≡ Some k) × (IsUpcoming next_walk k → ⊥)) → UnderWay marked place moment last since (steps + 1) (collect_after c got) =
      (λ seen above_all counted behind. record {
        since_then = u.since_then;
        rising = read_rising u t;
        stored = read_stored u t;
        still = still;
        nodes = u.nodes + cond (finds_mark c.walk got) 1 0;
        reads = reads;
        seen = seen;
        above_all = above_all;
        counted = counted;
        behind = behind;
      }) in
      elim (segment_in got) as (λ o. segment_in got ≡ o → UnderWay marked place moment last since (steps + 1) (collect_after c got)) [
        | None ↦ λ e. on_with u.seen u.above_all (λ n h. omega (arith, g.as_long e, u.counted n h)) before
        | Some r ↦ λ e.
            let o = t.of_place r e in
            on_with (set_at u.seen r.identity true) (u.above_all + suc r.identity)
            (λ n h.
            let one : count_to (set_at u.seen r.identity true) n ≡ count_to u.seen n + 1 = count_more u.seen r.identity n (unseen u t r e) (omega arith) in
            omega (arith, one, g.longer, u.counted n (omega arith)))
            (λ q h. elim (eqb_tells q r.identity) [ inl s ↦ (o.0, ap place s.1 ∙ o.2, read_once c.walk got o.0 o.1) | inr s ↦ before q (rw s.0 at h) ])
      ] refl
