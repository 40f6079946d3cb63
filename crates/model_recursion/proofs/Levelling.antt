-- one level splits each group of the level above
use Rattle.std.proofs.Common.{◌≡◌, ℕ, suc, ◌+◌, ◌<◌, ◌≤◌, ◌⊎◌, inl, inr, Bool, true, false, cond, ◌&&◌, ◌==◌, refl, sym, ap, subst, ◌∙◌, arith, if◌then◌else◌}
use Rattle.std.proofs.lemmas.Bool.Decides.{leb_tells, Decides-eqb}
use Rattle.model_steps.specs.Count.{count_to}
use Rattle.model_steps.proofs.cited.CountLemmas.{count_to-gain, count_to-mono}
use Rattle.model_recursion.specs.Spot.{Fate, Spot, has_written, was_full, went_straight, has_turned, is_in}
use Rattle.model_recursion.specs.Spot.Fate.{Absent, Reading, Straight, Turned, Named}
use Rattle.model_recursion.specs.Ranges.{IsWithin, IsTurn, IsLast}
use Rattle.model_recursion.specs.Levels.{Level, size, KeepsLocally, Follows, Covers, IsSplit}
use Rattle.model_recursion.proofs.Counting.{count_some, count_tells, count_two}
use Rattle.model_recursion.proofs.Ranging.{within_first, within_more, within_turn, turn_first, ways_apart, turn_moves, turn_back, turn_one, last_straight, last_turned}

both_true : (a b : Bool) → a && b ≡ true → (a ≡ true) × (b ≡ true)
both_true true b h = (refl, h)
both_true false b h = absurd (cc)

and_true : (a b : Bool) → a ≡ true → b ≡ true → a && b ≡ true
and_true a b e f = rw (e, f) refl

eq_true : (a b : ℕ) → a ≡ b → (a == b) ≡ true
eq_true a b e = (Decides-eqb a b).1 e

true_eq : (a b : ℕ) → (a == b) ≡ true → a ≡ b
true_eq a b h = (Decides-eqb a b).0 h

pub in_tells : (f : ℕ) (s : Spot) → is_in f s ≡ true → (has_written s.fate ≡ true) × (s.first ≡ f)
in_tells f s h = let b = both_true (has_written s.fate) (s.first == f) h in (b.0, true_eq s.first f b.1)

pub in_is : (f : ℕ) (s : Spot) → has_written s.fate ≡ true → s.first ≡ f → is_in f s ≡ true
in_is f s w e = and_true (has_written s.fate) (s.first == f) w (eq_true s.first f e)

-- it went straight on from there, or turned
stay_in : ℕ → Spot → Bool
stay_in f s = went_straight s.fate && (s.first == f)

turn_in : ℕ → Spot → Bool
turn_in f s = has_turned s.fate && (s.first == f)

one_way : (f : ℕ) (t : Fate) (g : ℕ) → (if went_straight t && (g == f) then 1 else 0) + (if has_turned t && (g == f) then 1 else 0) ≤ (if has_written t && (g == f) then 1 else 0)
one_way f Absent g = omega arith
one_way f Reading g = elim (g == f) as (λ b. 0 + 0 ≤ cond b 1 0) [ true ↦ omega arith | false ↦ omega arith ]
one_way f Straight g = omega arith
one_way f Turned g = omega arith
one_way f Named g = elim (g == f) as (λ b. 0 + 0 ≤ cond b 1 0) [ true ↦ omega arith | false ↦ omega arith ]

straight_written : (t : Fate) → went_straight t ≡ true → has_written t ≡ true
straight_written Absent h = absurd (cc)
straight_written Reading h = refl
straight_written Straight h = refl
straight_written Turned h = refl
straight_written Named h = refl

turned_written : (t : Fate) → has_turned t ≡ true → has_written t ≡ true
turned_written Absent h = absurd (cc)
turned_written Reading h = refl
turned_written Straight h = refl
turned_written Turned h = refl
turned_written Named h = refl

stay_is_in : (f : ℕ) (s : Spot) → stay_in f s ≡ true → is_in f s ≡ true
unfolding stay_in
stay_is_in f s h = let b = both_true (went_straight s.fate) (s.first == f) h in and_true (has_written s.fate) (s.first == f) (straight_written s.fate b.0) b.1

turn_is_in : (f : ℕ) (s : Spot) → turn_in f s ≡ true → is_in f s ≡ true
unfolding turn_in
turn_is_in f s h = let b = both_true (has_turned s.fate) (s.first == f) h in and_true (has_written s.fate) (s.first == f) (turned_written s.fate b.0) b.1

not_stay : (f : ℕ) (s : Spot) → went_straight s.fate ≡ false → stay_in f s ≡ false
unfolding stay_in
not_stay f s h = rw h refl

not_turn : (f : ℕ) (s : Spot) → has_turned s.fate ≡ false → turn_in f s ≡ false
unfolding turn_in
not_turn f s h = rw h refl

is_stay : (f : ℕ) (s : Spot) → s.fate ≡ Straight → s.first ≡ f → stay_in f s ≡ true
unfolding stay_in
is_stay f s h e = and_true (went_straight s.fate) (s.first == f) (ap went_straight h) (eq_true s.first f e)

is_turn : (f : ℕ) (s : Spot) → s.fate ≡ Turned → s.first ≡ f → turn_in f s ≡ true
unfolding turn_in
is_turn f s h e = and_true (has_turned s.fate) (s.first == f) (ap has_turned h) (eq_true s.first f e)

straight_count : ℕ → Level → ℕ → ℕ
straight_count n at f = count_to (λ q. stay_in f (at q)) n

turned_count : ℕ → Level → ℕ → ℕ
turned_count n at f = count_to (λ q. turn_in f (at q)) n

-- those that went straight on and those that turned are no more than all
ways_few : (n : ℕ) (at : Level) (f : ℕ) → straight_count n at f + turned_count n at f ≤ size n at f
unfolding size straight_count turned_count stay_in turn_in
ways_few n at f = count_two (λ q. stay_in f (at q)) (λ q. turn_in f (at q)) (λ q. is_in f (at q)) n (λ q. one_way f (at q).fate (at q).first)

-- fewer, where one did not
straight_fewer : (n : ℕ) (at : Level) (f q : ℕ) → q < n → is_in f (at q) ≡ true → went_straight (at q).fate ≡ false → straight_count n at f + 1 ≤ size n at f
unfolding size straight_count
straight_fewer n at f q l i h = count_to-gain (λ p. stay_in f (at p)) (λ p. is_in f (at p)) n q l (not_stay f (at q) h) i (λ p _. stay_is_in f (at p))

turned_fewer : (n : ℕ) (at : Level) (f q : ℕ) → q < n → is_in f (at q) ≡ true → has_turned (at q).fate ≡ false → turned_count n at f + 1 ≤ size n at f
unfolding size turned_count
turned_fewer n at f q l i h = count_to-gain (λ p. turn_in f (at p)) (λ p. is_in f (at p)) n q l (not_turn f (at q) h) i (λ p _. turn_is_in f (at p))

turned_some : (n : ℕ) (at : Level) (p : ℕ) → p < n → (at p).fate ≡ Turned → 1 ≤ turned_count n at (at p).first
unfolding turned_count
turned_some n at p l h = count_some (λ q. turn_in (at p).first (at q)) n p l (is_turn (at p).first (at p) h refl)

pub size_some : (n : ℕ) (at : Level) (f p : ℕ) → p < n → is_in f (at p) ≡ true → 1 ≤ size n at f
unfolding size
size_some n at f p l h = count_some (λ q. is_in f (at q)) n p l h

pub size_tells : (n : ℕ) (at : Level) (f : ℕ) → (size n at f ≡ 0) ⊎ ((q : ℕ) × (q < n) × (is_in f (at q) ≡ true))
unfolding size
size_tells n at f = count_tells (λ q. is_in f (at q)) n

module _ (n k : ℕ) (above below : Level) (keeps : KeepsLocally n k above) (follows : Follows k above below) (split : IsSplit n (suc k) above) where
  written_straight : (p : ℕ) → (above p).fate ≡ Straight → has_written (above p).fate ≡ true
  written_straight p h = ap has_written h

  written_turned : (p : ℕ) → (above p).fate ≡ Turned → has_written (above p).fate ≡ true
  written_turned p h = ap has_written h

  some_there : (p : ℕ) → has_written (above p).fate ≡ true → 1 ≤ size n above (above p).first
  some_there p w = size_some n above (above p).first p (keeps.low p w) (in_is (above p).first (above p) w refl)

  covers_first : (p : ℕ) → has_written (above p).fate ≡ true → Covers n above p (above p).first
  covers_first p w = record { here = w; within = within_first (above p).first (size n above (above p).first) (some_there p w) }

  full_there : (p : ℕ) → (above p).fate ≡ Turned → suc k ≤ size n above (above p).first
  full_there p h = keeps.full p (ap was_full h)

  turned_at_most : (p : ℕ) → (above p).fate ≡ Turned → turned_count n above (above p).first ≤ k
  turned_at_most p h =
      let r = keeps.one_keeps p (ap has_turned h) in
      let fewer = turned_fewer n above (above p).first r.seat r.low r.inside r.holds in
      let few = split.few (above p).first in
      omega arith

  some_level : (p : ℕ) → (above p).fate ≡ Turned → 1 ≤ k
  some_level p h = let most = turned_at_most p h in let some = turned_some n above p (keeps.low p (written_turned p h)) h in omega arith

  straight_at_most : (f : ℕ) → straight_count n above f ≤ k
  straight_at_most f = elim (leb_tells (suc k) (size n above f)) [
    | inl l ↦
        let r = keeps.one_stays f l.1 in
        let fewer = straight_fewer n above f r.seat r.low r.inside r.holds in
        let few = split.few f in
        omega arith
    | inr l ↦ let all = ways_few n above f in let less = l.1 in omega arith
  ]

  covers_turned : (p : ℕ) → (above p).fate ≡ Turned → (g : ℕ) → IsTurn k (above p).first g → Covers n above p g
  covers_turned p h g t = record { here = written_turned p h; within = turn_first k (above p).first g (size n above (above p).first) t (some_level p h) (full_there p h) }

  -- who came to one instance came one way, from one instance
  same_straight : (p q : ℕ) → (above p).fate ≡ Straight → (below p).first ≡ (above p).first → has_written (below q).fate ≡ true → (below q).first ≡ (below p).first → ((above q).fate ≡ Straight) × ((above q).first ≡ (above p).first)
  same_straight p q s first w same = elim ((follows q w).way) [
    | inl a ↦ (a.0, sym a.1 ∙ same ∙ first)
    | inr a ↦ absurd (
        let there : Covers n above q (above p).first = subst (λ (g : ℕ). Covers n above q g) (same ∙ first) (covers_turned q a.0 (below q).first a.1) in
        let one = split.apart p q (above p).first (covers_first p (written_straight p s)) there in
        turn_moves k (above q).first (below q).first a.1 (sym one ∙ sym first ∙ sym same))
  ]

  same_turned : (p q : ℕ) → (above p).fate ≡ Turned → IsTurn k (above p).first (below p).first → has_written (below p).fate ≡ true → has_written (below q).fate ≡ true → (below q).first ≡ (below p).first → ((above q).fate ≡ Turned) × ((above q).first ≡ (above p).first)
  same_turned p q s turn v w same = elim ((follows q w).way) [
    | inl a ↦ absurd (let b = same_straight q p a.0 a.1 v (sym same) in let e = b.0 in cc)
    | inr a ↦ (a.0, turn_back k (above q).first (above p).first (below p).first (subst (λ (g : ℕ). IsTurn k (above q).first g) same a.1) turn)
  ]

  size_straight : (p : ℕ) → (above p).fate ≡ Straight → (below p).first ≡ (above p).first → size n below (below p).first ≤ straight_count n above (above p).first
  unfolding size straight_count
  size_straight p s first = count_to-mono (λ q. is_in (below p).first (below q)) (λ q. stay_in (above p).first (above q)) n
      (λ q _ h. let t = in_tells (below p).first (below q) h in let b = same_straight p q s first t.0 t.1 in is_stay (above p).first (above q) b.0 b.1)

  size_turned : (p : ℕ) → (above p).fate ≡ Turned → IsTurn k (above p).first (below p).first → has_written (below p).fate ≡ true → size n below (below p).first ≤ turned_count n above (above p).first
  unfolding size turned_count
  size_turned p s turn w = count_to-mono (λ q. is_in (below p).first (below q)) (λ q. turn_in (above p).first (above q)) n
      (λ q _ h. let t = in_tells (below p).first (below q) h in let b = same_turned p q s turn w t.0 t.1 in is_turn (above p).first (above q) b.0 b.1)

  few_with : (p : ℕ) → has_written (below p).fate ≡ true → size n below (below p).first ≤ k
  few_with p w = elim ((follows p w).way) [
    | inl a ↦ let l = size_straight p a.0 a.1 in let m = straight_at_most (above p).first in omega arith
    | inr a ↦ let l = size_turned p a.0 a.1 w in let m = turned_at_most p a.0 in omega arith
  ]

  few_below : (f : ℕ) → size n below f ≤ k
  few_below f = elim (size_tells n below f) [
    | inl none ↦ omega arith
    | inr some ↦ let t = in_tells f (below some.0) some.2 in subst (λ (g : ℕ). size n below g ≤ k) t.1 (few_with some.0 t.0)
  ]

  -- each range is within the one that it came from
  pub nested : (p name : ℕ) → Covers n below p name → Covers n above p name
  nested p name c = elim ((follows p c.here).way) [
    | inl a ↦
        let l = size_straight p a.0 a.1 in
        let m = ways_few n above (above p).first in
        let w : IsWithin (above p).first (size n below (below p).first) name = subst (λ (f : ℕ). IsWithin f (size n below (below p).first) name) a.1 c.within in
        record { here = written_straight p a.0; within = within_more (above p).first (size n below (below p).first) (size n above (above p).first) name (omega arith) w }
    | inr a ↦ record { here = written_turned p a.0; within = within_turn k (above p).first (below p).first (size n below (below p).first) (size n above (above p).first) name a.1 (full_there p a.0) (few_with p c.here) c.within }
  ]

  -- one that went straight on and one that turned have no name in common
  apart_ways : (p q name : ℕ) → Covers n below p name → Covers n below q name → (above p).first ≡ (above q).first → (above p).fate ≡ Straight → (below p).first ≡ (above p).first → (above q).fate ≡ Turned → IsTurn k (above q).first (below q).first → ⊥
  apart_ways p q name c d one s first t turn =
      let y = size_straight p s first in
      let z = size_turned q t turn d.here in
      let both = ways_few n above (above p).first in
      let few = split.few (above p).first in
      let moved : turned_count n above (above q).first ≡ turned_count n above (above p).first = ap (turned_count n above) (sym one) in
      ways_apart k (above p).first (below q).first (size n below (below p).first) (size n below (below q).first) name (subst (λ (f : ℕ). IsTurn k f (below q).first) (sym one) turn) (omega arith)
      (subst (λ (f : ℕ). IsWithin f (size n below (below p).first) name) first c.within) d.within

  apart_below : (p q name : ℕ) → Covers n below p name → Covers n below q name → (below p).first ≡ (below q).first
  apart_below p q name c d =
      let one = split.apart p q name (nested p name c) (nested q name d) in
      elim ((follows p c.here).way) [
        | inl a ↦ elim ((follows q d.here).way) [
          | inl b ↦ a.1 ∙ one ∙ sym b.1
          | inr b ↦ absurd (apart_ways p q name c d one a.0 a.1 b.0 b.1)
        ]
        | inr a ↦ elim ((follows q d.here).way) [
          | inl b ↦ absurd (apart_ways q p name d c (sym one) b.0 b.1 a.0 a.1)
          | inr b ↦ turn_one k (above q).first (below p).first (below q).first (subst (λ (f : ℕ). IsTurn k f (below p).first) one a.1) b.1
        ]
      ]

  pub split_below : IsSplit n k below
  split_below = record { few = few_below; apart = apart_below }

  -- the name of one who is named is in no range of those that went on
  pub last_free : (p q name : ℕ) → IsLast k (above p).first name → (above p).first ≡ (above q).first → Covers n below q name → ⊥
  last_free p q name l one c =
      let last : IsLast k (above q).first name = subst (λ (f : ℕ). IsLast k f name) one l in
      elim ((follows q c.here).way) [
        | inl a ↦ last_straight k (above q).first (size n below (below q).first) name last (few_with q c.here) (subst (λ (f : ℕ). IsWithin f (size n below (below q).first) name) a.1 c.within)
        | inr a ↦ last_turned k (above q).first (below q).first (size n below (below q).first) name last a.1 c.within
      ]
