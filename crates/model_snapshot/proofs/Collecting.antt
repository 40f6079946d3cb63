-- a scan under way: what its collects tell of the past
use Rattle.std.proofs.Common.{◌≡◌, ◌≢◌, ℕ, ◌+◌, ◌<◌, ◌≤◌, ◌==◌, Bool, true, false, not, ◌&&◌, ◌||◌, ◌⊎◌, List, [], length, map, Option, Some, None, inl, inr, refl, sym, ap, ◌∙◌, arith, option_map}
use Rattle.model_snapshot.proofs.Common.{length-map, set_at, set_at-same, set_at-other, Record, Sighting, met_in, number_met, sighting_of, noted, with_sighting, carried_over, shown_by, IsMoment, count_to}
use Rattle.std.proofs.lemmas.Bool.{cases_Bool, or_cases, or_parts, or_left, or_right}
use Rattle.std.proofs.lemmas.Bool.Decides.{eqb_tells, leb_tells}
use Rattle.model_steps.proofs.cited.CountLemmas.{count_to-lt, count_to-mono, count_to-gain, count_to-longer}
use Rattle.model_snapshot.proofs.SightingLemmas.{is_known, sighting_of-with, is_known-with, length-with-known, length-with-unknown, noted-known, noted-room, sighting_of-carried, is_known-carried}
use Rattle.model_snapshot.proofs.Shown.{AreMet, met-carried, met-set, met-with, number_met-is, shown_rising, shown_is}
use Rattle.model_snapshot.proofs.Histories.{number, value, value_in, IsHistory}

abbrev pub changed_in : List Sighting → ℕ → Bool
changed_in ss x = (sighting_of x ss).changed

-- whether a place that someone has passes a test
abbrev pub passes_at : (ℕ → Bool) → Option ℕ → Bool
passes_at f None = false
passes_at f (Some x) = f x

-- how many of the first b participants have a place that passes a test
abbrev pub count_of : (ℕ → ℕ) → (ℕ → Option ℕ) → ℕ → (ℕ → Bool) → ℕ
count_of who place b f = count_to (λ i. passes_at f (place (who i))) b

-- who has a place is one of the first b participants
abbrev pub IsRoll : (ℕ → ℕ) → (ℕ → Option ℕ) → ℕ → Type 0
IsRoll who place b = (p x : ℕ) → place p ≡ Some x → (i : ℕ) × (i < b) × (who i ≡ p)

passes_too : (f g : ℕ → Bool) (o : Option ℕ) → ((x : ℕ) → f x ≡ true → g x ≡ true) → passes_at f o ≡ true → passes_at g o ≡ true
passes_too f g None h k = k
passes_too f g (Some x) h k = h x k

-- a test that more places pass
count_of-mono : (who : ℕ → ℕ) (place : ℕ → Option ℕ) (b : ℕ) (f g : ℕ → Bool) → ((x : ℕ) → f x ≡ true → g x ≡ true) → count_of who place b f ≤ count_of who place b g
count_of-mono who place b f g h = count_to-mono (λ i. passes_at f (place (who i))) (λ i. passes_at g (place (who i))) b (λ i l k. passes_too f g (place (who i)) h k)

module _ (who : ℕ → ℕ) (place : ℕ → Option ℕ) (b : ℕ) (roll : IsRoll who place b) (p x : ℕ) (own : place p ≡ Some x) where
  -- the place of p fails
  count_of-lt : (f : ℕ → Bool) → f x ≡ false → count_of who place b f < b
  count_of-lt f h =
      let it = roll p x own in
      let there : place (who it.0) ≡ Some x = ap place it.2 ∙ own in
      count_to-lt (λ i. passes_at f (place (who i))) b it.0 it.1 (ap (passes_at f) there ∙ h)

  -- the place of p passes now
  count_of-gain : (f g : ℕ → Bool) → f x ≡ false → g x ≡ true → ((y : ℕ) → f y ≡ true → g y ≡ true) → count_of who place b f + 1 ≤ count_of who place b g
  count_of-gain f g before now h =
      let it = roll p x own in
      let there : place (who it.0) ≡ Some x = ap place it.2 ∙ own in
      count_to-gain (λ i. passes_at f (place (who i))) (λ i. passes_at g (place (who i))) b it.0 it.1 (ap (passes_at f) there ∙ before) (ap (passes_at g) there ∙ now) (λ i l k. passes_too f g (place (who i)) h k)

-- what was read at x since the moment t
pub record WasRead (last : ℕ) (past : ℕ → ℕ → Option Record) (t x : ℕ) (r : Record) : Type 0 where
  pub index : ℕ
  pub no_earlier : t ≤ index
  pub no_later : index ≤ last
  pub is : past index x ≡ Some r

-- One who has the place `own` has made so many collects of a scan since a moment, and another is under way, for which
-- these places are ahead and those may be met. The moment at which this collect began, and what it has seen, are the past
pub record IsCollecting (b last : ℕ) (past : ℕ → ℕ → Option Record) (place : ℕ → Option ℕ) (who : ℕ → ℕ) (own since collects : ℕ) (Ahead Upcoming : ℕ → Type 0) (is_first differs : Bool) (ss : List Sighting) : Type 0 where
  pub begun : ℕ
  pub seen : ℕ → Option Record
  pub since_begun : since ≤ begun
  pub begun_last : begun ≤ last
  pub first : is_first ≡ true → (collects ≡ 0) × (differs ≡ false) × ((x : ℕ) → changed_in ss x ≡ false)
  -- what is kept of the collect before
  pub low : is_first ≡ false → (x : ℕ) → number (past since x) ≤ (sighting_of x ss).before
  pub high : is_first ≡ false → (x : ℕ) → (sighting_of x ss).before ≤ number (past begun x)
  -- who was seen to change wrote within the scan
  pub changed_unread : (x : ℕ) → changed_in ss x ≡ true → seen x ≡ None → number (past since x) < (sighting_of x ss).before
  pub changed_read : (x : ℕ) (r : Record) → changed_in ss x ≡ true → seen x ≡ Some r → number (past since x) < r.number
  pub settled : is_first ≡ false → differs ≡ false → (x : ℕ) (r : Record) → seen x ≡ Some r → (sighting_of x ss).before ≡ r.number
  pub now : (x : ℕ) → (sighting_of x ss).now ≡ option_map met_in (seen x)
  pub met : AreMet seen ss
  -- what was not seen was empty as the collect began, or is ahead
  pub unread : (x : ℕ) → seen x ≡ None → (past begun x ≡ None) ⊎ Ahead x
  pub read : (x : ℕ) (r : Record) → seen x ≡ Some r → WasRead last past begun x r
  pub upcoming : (x : ℕ) → Upcoming x → seen x ≡ None
  pub known : length ss ≤ count_of who place b (is_known ss)
  -- a participant does not write during its scan
  pub own_kept : number (past since own) ≡ number (past last own)
  pub own_same : changed_in ss own ≡ false
  -- each collect after the first that does not end the scan shows one more to change
  pub counted : collects ≤ 1 + count_of who place b (changed_in ss)
  pub differing : differs ≡ true → collects ≤ count_of who place b (changed_in ss)

-- a scan that has read nothing, for which every segment that is not empty is ahead
pub collecting_new : (b last : ℕ) (past : ℕ → ℕ → Option Record) (place : ℕ → Option ℕ) (who : ℕ → ℕ) (own : ℕ) (Ahead Upcoming : ℕ → Type 0) → ((x : ℕ) → (past last x ≡ None) ⊎ Ahead x) →
    IsCollecting b last past place who own last 0 Ahead Upcoming true false []
collecting_new b last past place who own Ahead Upcoming ahead = record {
  begun = last;
  seen = λ x. None;
  since_begun = omega arith;
  begun_last = omega arith;
  first = λ _. (refl, refl, λ x. refl);
  low = λ e. absurd (cc);
  high = λ e. absurd (cc);
  changed_unread = λ x e. absurd (cc);
  changed_read = λ x r e. absurd (cc);
  settled = λ e. absurd (cc);
  now = λ x. refl;
  unread = λ x e. ahead x;
  read = λ x r e. absurd (cc);
  upcoming = λ x u. refl;
  met = tt;
  known = omega arith;
  own_kept = refl;
  own_same = refl;
  counted = omega arith;
  differing = λ e. absurd (cc);
}

-- a scan goes on where no fewer have places, and what was ahead was empty or is ahead
pub still_collecting : (b b' last : ℕ) (past : ℕ → ℕ → Option Record) (place place' : ℕ → Option ℕ) (who who' : ℕ → ℕ) (own since collects : ℕ) (Ahead Ahead' Upcoming Upcoming' : ℕ → Type 0) (f d : Bool) (ss : List Sighting) (c : IsCollecting b last past place who own since collects Ahead Upcoming f d ss) →
    ((g : ℕ → Bool) → count_of who place b g ≤ count_of who' place' b' g) → ((x : ℕ) → Ahead x → (past c.begun x ≡ None) ⊎ Ahead' x) → ((x : ℕ) → Upcoming' x → Upcoming x) →
    IsCollecting b' last past place' who' own since collects Ahead' Upcoming' f d ss
still_collecting b b' last past place place' who who' own since collects Ahead Ahead' Upcoming Upcoming' f d ss c count still fewer = record {
  begun = c.begun;
  seen = c.seen;
  since_begun = c.since_begun;
  begun_last = c.begun_last;
  first = c.first;
  low = c.low;
  high = c.high;
  changed_unread = c.changed_unread;
  changed_read = c.changed_read;
  settled = c.settled;
  now = c.now;
  unread = λ x e. elim (c.unread x e) [ inl none ↦ inl none | inr k ↦ still x k ];
  read = c.read;
  upcoming = λ x u. c.upcoming x (fewer x u);
  met = c.met;
  known = (let k = count (is_known ss) in let was = c.known in omega arith);
  own_kept = c.own_kept;
  own_same = c.own_same;
  counted = (let k = count (changed_in ss) in let was = c.counted in omega arith);
  differing = λ e. let k = count (changed_in ss) in let was = c.differing e in omega arith;
}

module _ (b last : ℕ) (past : ℕ → ℕ → Option Record) (moment : ℕ → ℕ → Option ℕ) (place : ℕ → Option ℕ) (who : ℕ → ℕ) (h : IsHistory last past moment place) (roll : IsRoll who place b) (own since collects : ℕ) (Ahead Upcoming : ℕ → Type 0) (f d : Bool) (ss : List Sighting) (c : IsCollecting b last past place who own since collects Ahead Upcoming f d ss) where
  -- one's own segment is not seen to change
  pub few_collects : (p : ℕ) → place p ≡ Some own → collects ≤ b
  few_collects p mine =
      let some = count_of-lt who place b roll p own mine (changed_in ss) c.own_same in
      let counted = c.counted in
      omega arith

  -- there is room to note each segment that was written
  pub has_room : b ≤ 64 → (x : ℕ) (r : Record) → past last x ≡ Some r → (is_known ss x ≡ true) ⊎ (length ss < 64)
  has_room few x r here = elim (cases_Bool (is_known ss x)) [
    | inl y ↦ inl y
    | inr n ↦
        let some = count_of-lt who place b roll r.identity x (h.owned x last r (omega arith) here) (is_known ss) n in
        let many = c.known in
        inr (omega arith)
  ]

  since_last : since ≤ last
  since_last = let a = c.since_begun in let e = c.begun_last in omega arith

  high_now : f ≡ false → (x : ℕ) → (sighting_of x ss).before ≤ number (past last x)
  high_now e x = let a = c.high e x in let grown = h.grows x c.begun last c.begun_last (omega arith) in omega arith

  -- who was seen to change was compared
  compared : (x : ℕ) → changed_in ss x ≡ true → f ≡ false
  compared x e = elim (cases_Bool f) [ inr n ↦ n | inl y ↦ absurd (let k = (c.first y).2 x in let two : true ≡ false = sym e ∙ k in cc) ]

  -- what is empty was empty
  was_empty : (x i : ℕ) → i ≤ last → past last x ≡ None → past i x ≡ None
  was_empty x i k none =
      let grown = h.grows x i last k (omega arith) in
      let zero_now : number (past last x) ≡ 0 = ap number none in
      h.same x i last k (omega arith) (omega arith) ∙ none

  -- a read that shows no record is passed
  pub pass : (Ahead' Upcoming' : ℕ → Type 0) → ((x : ℕ) → Ahead x → (past last x ≡ None) ⊎ Ahead' x) → ((x : ℕ) → Upcoming' x → Upcoming x) → IsCollecting b last past place who own since collects Ahead' Upcoming' f d ss
  pass Ahead' Upcoming' still fewer =
      still_collecting b b last past place place who who own since collects Ahead Ahead' Upcoming Upcoming' f d ss c (λ g. omega arith)
      (λ x k. elim (still x k) [ inl none ↦ inl (was_empty x c.begun c.begun_last none) | inr on ↦ inr on ]) fewer

  -- the second change of a segment: its record holds a moment of this scan
  pub borrowed : (x : ℕ) (r : Record) → past last x ≡ Some r → c.seen x ≡ None → f ≡ false → (sighting_of x ss).before ≢ r.number → changed_in ss x ≡ true → (i : ℕ) × (since ≤ i) × (i ≤ last) × IsMoment r.view (moment i)
  borrowed x r here unseen e other twice =
      let help = h.helps x last r (omega arith) here in
      let low = c.changed_unread x twice unseen in
      let high = high_now e x in
      let now : number (past last x) ≡ r.number = ap number here in
      let before = help.count in
      (help.index, elim (leb_tells since help.index) [ inl k ↦ k.1 | inr k ↦ absurd (let early = h.grows x help.index since (let g = k.1 in omega arith) since_last in omega arith) ], help.inside, help.is)

  -- a collect that is over and equal to the one before shows the moment at which it began
  pub clean : ((x : ℕ) → Ahead x → ⊥) → f ≡ false → d ≡ false → (i : ℕ) × (since ≤ i) × (i ≤ last) × IsMoment (shown_by [] ss) (moment i)
  clean over e g =
      let seen_owner : (x : ℕ) (r : Record) → c.seen x ≡ Some r → place r.identity ≡ Some x = (λ x r some. let rd = c.read x r some in h.owned x rd.index r rd.no_later rd.is) in
      let stood : (x : ℕ) → c.seen x ≡ past c.begun x = λ x. elim (c.seen x) as (λ o. c.seen x ≡ o → o ≡ past c.begun x) [
        | None ↦ λ none. elim (c.unread x none) [ inl k ↦ sym k | inr k ↦ absurd (over x k) ]
        | Some r ↦ λ some.
            let rd = c.read x r some in
            let equal = c.settled e g x r some in
            let high = c.high e x in
            let grown = h.grows x c.begun rd.index rd.no_earlier rd.no_later in
            let then : number (past rd.index x) ≡ r.number = ap number rd.is in
            sym (h.same x c.begun rd.index c.begun_last rd.no_later (omega arith) ∙ rd.is)
      ] refl in (
        c.begun,
        c.since_begun,
        c.begun_last,
        record {
          rising = shown_rising [] ss tt;
          values = λ q. shown_is c.seen place seen_owner h.distinct ss c.now c.met q ∙ elim (place q) as (λ o. value_in c.seen o ≡ value_in (past c.begun) o) [ None ↦ refl | Some x ↦ ap value (stood x) ] ∙ sym (h.shows c.begun q c.begun_last);
        },
      )

  -- a collect is over, and another begins
  pub next_collect : ((x : ℕ) → Ahead x → ⊥) → (Ahead' Upcoming' : ℕ → Type 0) → ((x : ℕ) → (past last x ≡ None) ⊎ Ahead' x) → (f ≡ true) ⊎ (d ≡ true) → IsCollecting b last past place who own since (collects + 1) Ahead' Upcoming' false false (map carried_over ss)
  next_collect over Ahead' Upcoming' ahead why =
      let before_is : (x : ℕ) → (sighting_of x (map carried_over ss)).before ≡ number (c.seen x) = λ x. ap (λ (s : Sighting). s.before) (sighting_of-carried ss x) ∙ ap number_met (c.now x) ∙ number_met-is (c.seen x) in
      let changed_is : (x : ℕ) → changed_in (map carried_over ss) x ≡ changed_in ss x = λ x. ap (λ (s : Sighting). s.changed) (sighting_of-carried ss x) in
      let count = count_of-mono who place b (changed_in ss) (changed_in (map carried_over ss)) (λ x e. changed_is x ∙ e) in
      let many = count_of-mono who place b (is_known ss) (is_known (map carried_over ss)) (λ x e. is_known-carried ss x ∙ e) in
      let empty : (x : ℕ) → c.seen x ≡ None → past c.begun x ≡ None = λ x e. (elim (c.unread x e) [ inl k ↦ k | inr k ↦ absurd (over x k) ]) in
      record {
        begun = last;
        seen = λ x. None;
        since_begun = since_last;
        begun_last = omega arith;
        first = λ e. absurd (cc);
        low = λ e x. rw (before_is x) (elim (c.seen x) as (λ o. c.seen x ≡ o → number (past since x) ≤ number o) [
          | None ↦ λ none.
              let grown = h.grows x since c.begun c.since_begun c.begun_last in
              let zero_then : number (past c.begun x) ≡ 0 = ap number (empty x none) in
              omega arith
          | Some r ↦ λ some.
              let rd = c.read x r some in
              let grown = h.grows x since rd.index (let a = c.since_begun in let l = rd.no_earlier in omega arith) rd.no_later in
              let then : number (past rd.index x) ≡ r.number = ap number rd.is in
              omega arith
        ] refl);
        high = λ e x. rw (before_is x) (elim (c.seen x) as (λ o. c.seen x ≡ o → number o ≤ number (past last x)) [
          | None ↦ λ none. omega arith
          | Some r ↦ λ some.
              let rd = c.read x r some in
              let grown = h.grows x rd.index last rd.no_later (omega arith) in
              let then : number (past rd.index x) ≡ r.number = ap number rd.is in
              omega arith
        ] refl);
        changed_unread = λ x e k. rw (before_is x) (
            let was : changed_in ss x ≡ true = sym (changed_is x) ∙ e in
            elim (c.seen x) as (λ o. c.seen x ≡ o → number (past since x) < number o) [
              | None ↦ λ none.
                  let low = c.changed_unread x was none in
                  let high = c.high (compared x was) x in
                  let zero_then : number (past c.begun x) ≡ 0 = ap number (empty x none) in
                  absurd (omega arith)
              | Some r ↦ λ some. c.changed_read x r was some
            ] refl);
        changed_read = λ x r e k. absurd (cc);
        settled = λ e g x r k. absurd (cc);
        now = λ x. ap (λ (s : Sighting). s.now) (sighting_of-carried ss x);
        unread = λ x e. ahead x;
        read = λ x r k. absurd (cc);
        upcoming = λ x u. refl;
        met = met-carried (λ x. None) ss;
        known = (let same = length-map ss carried_over in let was = c.known in omega arith);
        own_kept = c.own_kept;
        own_same = changed_is own ∙ c.own_same;
        counted = elim why [
          | inl y ↦ let none = (c.first y).0 in omega arith
          | inr y ↦ let some = c.differing y in omega arith
        ];
        differing = λ e. absurd (cc);
      }

  -- a segment that was written is passed, where it is not seen to change for the second time
  module _ (few : b ≤ 64) (x : ℕ) (r : Record) (here : past last x ≡ Some r) (unseen : c.seen x ≡ None) (Ahead' Upcoming' : ℕ → Type 0) (still : (y : ℕ) → y ≢ x → Ahead y → Ahead' y) (fewer : (y : ℕ) → Upcoming' y → Upcoming y × (y ≢ x)) (change : Bool) (change_is : change ≡ (not f && not ((sighting_of x ss).before == r.number))) (not_second : (change && changed_in ss x) ≡ false) where
    abbrev new : Sighting
    new = record { place = x; before = (sighting_of x ss).before; now = Some (met_in r); changed = changed_in ss x || change }

    owner : place r.identity ≡ Some x
    owner = h.owned x last r (omega arith) here

    changes : change ≡ true → (f ≡ false) × ((sighting_of x ss).before ≢ r.number) × (changed_in ss x ≡ false)
    changes y =
        let test : (not f && not ((sighting_of x ss).before == r.number)) ≡ true = sym change_is ∙ y in
        let never : (true && changed_in ss x) ≡ false = rw y at not_second in
        elim (cases_Bool f) [
          | inl g ↦ absurd (let k : false ≡ true = rw g at test in cc)
          | inr g ↦ elim (eqb_tells (sighting_of x ss).before r.number) [
            | inl e ↦ absurd (let k : false ≡ true = rw (g, e.0) at test in cc)
            | inr e ↦ (g, e.1, never)
          ]
        ]

    unchanged : change ≡ false → f ≡ false → (sighting_of x ss).before ≡ r.number
    unchanged n g =
        let test : (not f && not ((sighting_of x ss).before == r.number)) ≡ false = sym change_is ∙ n in
        elim (eqb_tells (sighting_of x ss).before r.number) [
          | inl e ↦ e.1
          | inr e ↦ absurd (let k : true ≡ false = rw (g, e.0) at test in cc)
        ]

    noted_is : noted new ss ≡ with_sighting new ss
    noted_is = elim (cases_Bool (is_known ss x)) [
      | inl y ↦ noted-known new ss y
      | inr n ↦
          let some = count_of-lt who place b roll r.identity x owner (is_known ss) n in
          let many = c.known in
          noted-room new ss (omega arith)
    ]

    at_x : sighting_of x (noted new ss) ≡ new
    at_x = rw noted_is (sighting_of-with new ss x ∙ set_at-same (λ y. sighting_of y ss) x new)

    elsewhere : (y : ℕ) → y ≢ x → sighting_of y (noted new ss) ≡ sighting_of y ss
    elsewhere y n = rw noted_is (sighting_of-with new ss y ∙ set_at-other (λ z. sighting_of z ss) x new y n)

    before_same : (y : ℕ) → (sighting_of y (noted new ss)).before ≡ (sighting_of y ss).before
    before_same y = elim (eqb_tells y x) [
      | inl e ↦ ap (λ (z : ℕ). (sighting_of z (noted new ss)).before) e.1 ∙ ap (λ (s : Sighting). s.before) at_x ∙ sym (ap (λ (z : ℕ). (sighting_of z ss).before) e.1)
      | inr e ↦ ap (λ (s : Sighting). s.before) (elsewhere y e.1)
    ]

    changed_here : changed_in (noted new ss) x ≡ (changed_in ss x || change)
    changed_here = ap (λ (s : Sighting). s.changed) at_x

    changed_other : (y : ℕ) → y ≢ x → changed_in (noted new ss) y ≡ changed_in ss y
    changed_other y n = ap (λ (s : Sighting). s.changed) (elsewhere y n)

    abbrev seen' : ℕ → Option Record
    seen' = set_at c.seen x (Some r)

    seen_here : seen' x ≡ Some r
    seen_here = set_at-same c.seen x (Some r)

    seen_other : (y : ℕ) → y ≢ x → seen' y ≡ c.seen y
    seen_other y n = set_at-other c.seen x (Some r) y n

    now_number : number (past last x) ≡ r.number
    now_number = ap number here

    -- what this one sees changed has a number above that of the moment since which it scans
    rises_here : changed_in (noted new ss) x ≡ true → number (past since x) < r.number
    rises_here e = elim (cases_Bool change) [
      | inl y ↦
          let w = changes y in
          let low = c.low w.0 x in
          let high = high_now w.0 x in
          let other = w.1 in
          let now = now_number in
          omega arith
      | inr n ↦
          let was : changed_in ss x ≡ true = (elim (or_cases (changed_in ss x) change (sym changed_here ∙ e)) [ inl y ↦ y | inr y ↦ absurd (let k : true ≡ false = sym y ∙ n in cc) ]) in
          let low = c.changed_unread x was unseen in
          let same = unchanged n (compared x was) in
          omega arith
    ]

    stays_changed : (y : ℕ) → changed_in ss y ≡ true → changed_in (noted new ss) y ≡ true
    stays_changed y e = elim (eqb_tells y x) [
      | inl u ↦ ap (changed_in (noted new ss)) u.1 ∙ changed_here ∙ or_left (changed_in ss x) change (sym (ap (changed_in ss) u.1) ∙ e)
      | inr u ↦ changed_other y u.1 ∙ e
    ]

    count_kept : count_of who place b (changed_in ss) ≤ count_of who place b (changed_in (noted new ss))
    count_kept = count_of-mono who place b (changed_in ss) (changed_in (noted new ss)) stays_changed

    count_more : change ≡ true → count_of who place b (changed_in ss) + 1 ≤ count_of who place b (changed_in (noted new ss))
    count_more y = count_of-gain who place b roll r.identity x owner (changed_in ss) (changed_in (noted new ss)) (changes y).2 (changed_here ∙ or_right (changed_in ss x) change y) stays_changed

    marks : (y : ℕ) → is_known (with_sighting new ss) y ≡ set_at (is_known ss) x true y
    marks = is_known-with new ss

    stays_known : (y : ℕ) → is_known ss y ≡ true → is_known (with_sighting new ss) y ≡ true
    stays_known y e = marks y ∙ (elim (eqb_tells y x) [ inl u ↦ rw u.0 refl | inr u ↦ rw u.0 e ])

    known_count : length (noted new ss) ≤ count_of who place b (is_known (noted new ss))
    known_count = rw noted_is (elim (cases_Bool (is_known ss x)) [
      | inl y ↦
          let same = length-with-known new ss y in
          let more = count_of-mono who place b (is_known ss) (is_known (with_sighting new ss)) stays_known in
          let was = c.known in
          omega arith
      | inr n ↦
          let one = length-with-unknown new ss n in
          let more = count_of-gain who place b roll r.identity x owner (is_known ss) (is_known (with_sighting new ss)) n (marks x ∙ set_at-same (is_known ss) x true) stays_known in
          let was = c.known in
          omega arith
    ])

    -- what is not seen now was not seen before, and is elsewhere
    unseen_before : (y : ℕ) → seen' y ≡ None → (y ≢ x) × (c.seen y ≡ None)
    unseen_before y e = elim (eqb_tells y x) [
      | inl u ↦ absurd (let k : Some r ≡ None = sym seen_here ∙ ap seen' (sym u.1) ∙ e in cc)
      | inr u ↦ (u.1, sym (seen_other y u.1) ∙ e)
    ]

    -- what is seen is the record at x, or was seen elsewhere
    seen_cases : (y : ℕ) (s : Record) → seen' y ≡ Some s → ((y ≡ x) × (r ≡ s)) ⊎ ((y ≢ x) × (c.seen y ≡ Some s))
    seen_cases y s e = elim (eqb_tells y x) [
      | inl u ↦ inl (u.1, (let k : Some r ≡ Some s = sym seen_here ∙ ap seen' (sym u.1) ∙ e in cc))
      | inr u ↦ inr (u.1, sym (seen_other y u.1) ∙ e)
    ]

    pub pass_record : IsCollecting b last past place who own since collects Ahead' Upcoming' f (d || change) (noted new ss)
    pass_record = record {
      begun = c.begun;
      seen = seen';
      since_begun = c.since_begun;
      begun_last = c.begun_last;
      first = λ e.
          let was = c.first e in
          let none : change ≡ false = (elim (cases_Bool change) [ inr n ↦ n | inl y ↦ absurd (let k : true ≡ false = sym e ∙ (changes y).0 in cc) ]) in (
            was.0,
            rw (was.1, none) refl,
            λ y. elim (eqb_tells y x) [
              | inl g ↦ ap (changed_in (noted new ss)) g.1 ∙ changed_here ∙ rw (was.2 x, none) refl
              | inr g ↦ changed_other y g.1 ∙ was.2 y
            ],
          );
      low = λ e y. rw (before_same y) (c.low e y);
      high = λ e y. rw (before_same y) (c.high e y);
      changed_unread = λ y e k. let was = unseen_before y k in rw (before_same y) (c.changed_unread y (sym (changed_other y was.0) ∙ e) was.1);
      changed_read = λ y s e k. elim (seen_cases y s k) [
        | inl g ↦
            let rises = rises_here (ap (changed_in (noted new ss)) (sym g.0) ∙ e) in
            let old : number (past since y) ≡ number (past since x) = ap (λ (z : ℕ). number (past since z)) g.0 in
            let same : r.number ≡ s.number = ap (λ (z : Record). z.number) g.1 in
            omega arith
        | inr g ↦ c.changed_read y s (sym (changed_other y g.0) ∙ e) g.1
      ];
      settled = λ e g y s k.
          let both = or_parts d change g in
          elim (seen_cases y s k) [
            | inl u ↦ before_same y ∙ ap (λ (z : ℕ). (sighting_of z ss).before) u.0 ∙ unchanged both.1 e ∙ ap (λ (z : Record). z.number) u.1
            | inr u ↦ before_same y ∙ c.settled e both.0 y s u.1
          ];
      now = λ y. elim (eqb_tells y x) [
        | inl u ↦ ap (λ (z : ℕ). (sighting_of z (noted new ss)).now) u.1 ∙ ap (λ (s : Sighting). s.now) at_x ∙ sym (ap (λ (z : ℕ). option_map met_in (seen' z)) u.1 ∙ ap (option_map met_in) seen_here)
        | inr u ↦ ap (λ (s : Sighting). s.now) (elsewhere y u.1) ∙ c.now y ∙ sym (ap (option_map met_in) (seen_other y u.1))
      ];
      unread = λ y e. let was = unseen_before y e in elim (c.unread y was.1) [ inl k ↦ inl k | inr k ↦ inr (still y was.0 k) ];
      read = λ y s k. elim (seen_cases y s k) [
        | inl u ↦ record { index = last; no_earlier = c.begun_last; no_later = omega arith; is = ap (past last) u.0 ∙ here ∙ ap Some u.1 }
        | inr u ↦ c.read y s u.1
      ];
      upcoming = λ y u. let was = fewer y u in seen_other y was.1 ∙ c.upcoming y was.0;
      met = rw noted_is (met-with seen' new ss (r, seen_here, refl) (met-set c.seen x r unseen ss c.met));
      known = known_count;
      own_kept = c.own_kept;
      own_same = elim (eqb_tells own x) [
        | inl u ↦
            let was : changed_in ss x ≡ false = ap (changed_in ss) (sym u.1) ∙ c.own_same in
            let none : change ≡ false = (elim (cases_Bool change) [
              | inr n ↦ n
              | inl y ↦
                  let w = changes y in
                  let low = c.low w.0 own in
                  let high = high_now w.0 own in
                  let kept = c.own_kept in
                  let before : (sighting_of own ss).before ≡ (sighting_of x ss).before = ap (λ (z : ℕ). (sighting_of z ss).before) u.1 in
                  let mine : number (past last own) ≡ number (past last x) = ap (λ (z : ℕ). number (past last z)) u.1 in
                  let now = now_number in
                  absurd (w.1 (omega arith))
            ]) in
            ap (changed_in (noted new ss)) u.1 ∙ changed_here ∙ rw (was, none) refl
        | inr u ↦ changed_other own u.1 ∙ c.own_same
      ];
      counted = let more = count_kept in let was = c.counted in omega arith;
      differing = λ e. elim (cases_Bool change) [
        | inl y ↦ let more = count_more y in let was = c.counted in omega arith
        | inr n ↦
            let more = count_kept in
            let old : d ≡ true = (elim (or_cases d change e) [ inl y ↦ y | inr y ↦ absurd (let k : true ≡ false = sym y ∙ n in cc) ]) in
            let was = c.differing old in
            omega arith
      ];
    }

-- a scan goes on after another has written
pub collecting_later : (b last : ℕ) (past past' : ℕ → ℕ → Option Record) (place : ℕ → Option ℕ) (who : ℕ → ℕ) (own since collects : ℕ) (Ahead Ahead' Upcoming : ℕ → Type 0) (f d : Bool) (ss : List Sighting) →
    ((i : ℕ) → i ≤ last → past' i ≡ past i) → past' (last + 1) own ≡ past last own → ((x : ℕ) → Ahead x → Ahead' x) →
    IsCollecting b last past place who own since collects Ahead Upcoming f d ss → IsCollecting b (last + 1) past' place who own since collects Ahead' Upcoming f d ss
collecting_later b last past past' place who own since collects Ahead Ahead' Upcoming f d ss kept mine still c =
    let in_begun : c.begun ≤ last = c.begun_last in
    let in_since : since ≤ last = (let a = c.since_begun in omega arith) in
    let at_since : past' since ≡ past since = kept since in_since in
    let at_begun : past' c.begun ≡ past c.begun = kept c.begun in_begun in
    record {
      begun = c.begun;
      seen = c.seen;
      since_begun = c.since_begun;
      begun_last = omega arith;
      first = c.first;
      low = λ e x. rw at_since (c.low e x);
      high = λ e x. rw at_begun (c.high e x);
      changed_unread = λ x e k. rw at_since (c.changed_unread x e k);
      changed_read = λ x r e k. rw at_since (c.changed_read x r e k);
      settled = c.settled;
      now = c.now;
      unread = λ x e. elim (c.unread x e) [ inl k ↦ inl (ap (λ (g : ℕ → Option Record). g x) at_begun ∙ k) | inr k ↦ inr (still x k) ];
      read = λ x r k. let rd = c.read x r k in record { index = rd.index; no_earlier = rd.no_earlier; no_later = (let l = rd.no_later in omega arith); is = ap (λ (g : ℕ → Option Record). g x) (kept rd.index rd.no_later) ∙ rd.is };
      upcoming = c.upcoming;
      met = c.met;
      known = c.known;
      own_kept = rw at_since (c.own_kept ∙ sym (ap number mine));
      own_same = c.own_same;
      counted = c.counted;
      differing = c.differing;
    }

-- who has a place is counted among more participants too
count_joined : (who who' : ℕ → ℕ) (place place' : ℕ → Option ℕ) (b b' : ℕ) (f : ℕ → Bool) → b ≤ b' → ((i : ℕ) → i < b → who' i ≡ who i) → ((q x : ℕ) → place q ≡ Some x → place' q ≡ Some x) → count_of who place b f ≤ count_of who' place' b' f
count_joined who who' place place' b b' f l same kept =
    let more = count_to-mono (λ i. passes_at f (place (who i))) (λ i. passes_at f (place' (who' i))) b (λ i m. elim (place (who i)) as (λ o. place (who i) ≡ o → passes_at f o ≡ true → passes_at f (place' (who' i)) ≡ true) [
      | None ↦ λ e k. absurd (cc)
      | Some x ↦ λ e k. ap (λ (q : ℕ). passes_at f (place' q)) (same i m) ∙ ap (passes_at f) (kept (who i) x e) ∙ k
    ] refl) in
    let longer = count_to-longer (λ i. passes_at f (place' (who' i))) b b' l in
    omega arith

-- a scan goes on after p has begun, or has reached a place where nothing stood
pub collecting_joined : (b b' last : ℕ) (past : ℕ → ℕ → Option Record) (place : ℕ → Option ℕ) (who who' : ℕ → ℕ) (p : ℕ) (new : Option ℕ) (own since collects : ℕ) (Ahead Ahead' Upcoming : ℕ → Type 0) (f d : Bool) (ss : List Sighting) →
    b ≤ b' → ((i : ℕ) → i < b → who' i ≡ who i) → place p ≡ None → ((x i : ℕ) → new ≡ Some x → i ≤ last → past i x ≡ None) → ((x : ℕ) → Ahead x → Ahead' x) →
    IsCollecting b last past place who own since collects Ahead Upcoming f d ss → IsCollecting b' last past (set_at place p new) who' own since collects Ahead' Upcoming f d ss
collecting_joined b b' last past place who who' p new own since collects Ahead Ahead' Upcoming f d ss more same absent empty still c =
    let kept : (q x : ℕ) → place q ≡ Some x → set_at place p new q ≡ Some x = λ q x e. elim (eqb_tells q p) [
      | inl u ↦ absurd (let k : None ≡ Some x = sym absent ∙ ap place (sym u.1) ∙ e in cc)
      | inr u ↦ rw u.0 e
    ] in
    still_collecting b b' last past place (set_at place p new) who who' own since collects Ahead Ahead' Upcoming Upcoming f d ss c
    (λ g. count_joined who who' place (set_at place p new) b b' g more same kept) (λ x k. inr (still x k)) (λ x u. u)
