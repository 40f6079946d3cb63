-- nobody comes deeper than participants have begun, and few nodes are made
use Rattle.std.proofs.Common.{◌≡◌, ℕ, zero, suc, ◌+◌, ◌-◌, ◌*◌, ◌/◌, ◌^◌, ◌<◌, ◌≤◌, min, Bool, true, false, ◌==◌, not, ◌⊎◌, inl, inr, List, [], ◌∷◌, length, get_or, Option, refl, sym, ap, subst, ◌∙◌, arith, if◌then◌else◌}
use Rattle.model_splitter.proofs.tree_lemmas.Common.{cases_Bool, eqb_tells, leb_tells, Decides-eqb, nat_tests, Right, Down, Gone, Walker, left_child, right_child, count_to, count_le, pow_pos, NodesAgree}
use Rattle.std.proofs.Math.Nat.{pow-succ'}
use Rattle.model_splitter.proofs.cited.StageLemmas.{gone_right, gone_down}
use Rattle.model_splitter.specs.Invariant.{IsSplitter}
use Rattle.model_splitter.proofs.cited.DoorKept.{law_of}
use Rattle.model_splitter.specs.tree.Depth.{depth_in, depth_of}
use Rattle.model_splitter.proofs.tree_lemmas.nodes.AgreeKept.{right_entered, down_entered}

-- how many of a list pass a test
count_in : (ℕ → Bool) → List ℕ → ℕ
count_in f [] = 0
count_in f (p ∷ ids) = (if f p then 1 else 0) + count_in f ids

count_in-length : (f : ℕ → Bool) (ids : List ℕ) → count_in f ids ≤ length ids
unfolding count_in
count_in-length f [] = omega arith
count_in-length f (p ∷ ids) = let rest = count_in-length f ids in grind arith

-- two tests of which no number passes both, and one that all of these pass
count_in-both : (f g h : ℕ → Bool) (ids : List ℕ) → ((p : ℕ) → f p ≡ true → h p ≡ true) → ((p : ℕ) → g p ≡ true → h p ≡ true) → ((p : ℕ) → f p ≡ true → g p ≡ true → ⊥) → count_in f ids + count_in g ids ≤ count_in h ids
unfolding count_in
count_in-both f g h [] fh gh apart = omega arith
count_in-both f g h (p ∷ ids) fh gh apart =
    let rest = count_in-both f g h ids fh gh apart in
    let f_h = fh p in
    let g_h = gh p in
    let not_both = apart p in
    grind arith

count_in-some : (f : ℕ → Bool) (ids : List ℕ) (i p : ℕ) → i < length ids → get_or ids i 0 ≡ p → f p ≡ true → 1 ≤ count_in f ids
unfolding count_in
count_in-some f [] i p l e t = absurd (omega arith)
count_in-some f (q ∷ ids) zero p l e t = let own : f q ≡ true = ap f e ∙ t in rw own (omega arith)
count_in-some f (q ∷ ids) (suc i) p l e t = let rest = count_in-some f ids i p (omega arith) e t in omega arith

-- where one fails a test who passes another that all of the first pass, fewer pass the first
count_in-fewer : (f h : ℕ → Bool) (ids : List ℕ) (i p : ℕ) → ((q : ℕ) → f q ≡ true → h q ≡ true) → i < length ids → get_or ids i 0 ≡ p → h p ≡ true → f p ≡ false → count_in f ids + 1 ≤ count_in h ids
count_in-fewer f h ids i p fh l e t n =
    let some = count_in-some (λ q. q == p) ids i p l e ((Decides-eqb p p).1 refl) in
    let both = count_in-both f (λ q. q == p) h ids fh (λ q k. ap h ((Decides-eqb q p).0 k) ∙ t) (λ q a k. absurd (let never : true ≡ false = sym a ∙ ap f ((Decides-eqb q p).0 k) ∙ n in cc)) in
    omega arith

count_in-witness : (f : ℕ → Bool) (ids : List ℕ) → 1 ≤ count_in f ids → (p : ℕ) × (f p ≡ true)
unfolding count_in
count_in-witness f [] l = absurd (omega arith)
count_in-witness f (p ∷ ids) l = elim (cases_Bool (f p)) [
  | inl e ↦ (p, e)
  | inr e ↦ count_in-witness f ids (let k : 1 ≤ 0 + count_in f ids = rw e at l in omega arith)
]

-- the sum of the first n numbers of a row
sum_to : (ℕ → ℕ) → ℕ → ℕ
sum_to f zero = 0
sum_to f (suc n) = sum_to f n + f n

sum_to-grows : (f : ℕ → ℕ) (n m : ℕ) → n ≤ m → sum_to f n ≤ sum_to f m
unfolding sum_to
sum_to-grows f n zero l = let none : n ≡ 0 = omega arith in rw none (omega arith)
sum_to-grows f n (suc m) l = elim (eqb_tells n (suc m)) [
  | inl e ↦ rw e.1 (omega arith)
  | inr e ↦ let other = e.1 in let rest = sum_to-grows f n m (omega arith) in omega arith
]

-- where each node that passes a test weighs one more at least than its two children, no more nodes pass than the root weighs
module _ (f : ℕ → Bool) (weight : ℕ → ℕ) (none : weight 0 ≡ 0) (no_node : f 0 ≡ false)
    (split : (k : ℕ) → 1 ≤ k → (if f k then 1 else 0) + weight (2 * k) + weight (2 * k + 1) ≤ weight k) where
  weighed : (n : ℕ) → count_to f (suc n) + sum_to weight (2 * n + 2) ≤ weight 1 + sum_to weight (suc n)
  unfolding sum_to
  weighed zero = rw no_node (omega arith)
  weighed (suc n) =
      let before = weighed n in
      let here = split (suc n) (omega arith) in
      let longer : 2 * suc n + 2 ≡ suc (suc (2 * n + 2)) = omega arith in
      let sums : sum_to weight (2 * suc n + 2) ≡ sum_to weight (2 * n + 2) + weight (2 * n + 2) + weight (suc (2 * n + 2)) = ap (sum_to weight) longer in
      let even : 2 * n + 2 ≡ 2 * suc n = omega arith in
      let odd : suc (2 * n + 2) ≡ 2 * suc n + 1 = omega arith in
      let first : weight (2 * n + 2) ≡ weight (2 * suc n) = ap weight even in
      let second : weight (suc (2 * n + 2)) ≡ weight (2 * suc n + 1) = ap weight odd in
      omega (arith, before, here, sums, first, second)

  pub few_pass : (n : ℕ) → count_to f n ≤ weight 1
  few_pass zero = omega arith
  few_pass (suc n) =
      let all = weighed n in
      let more = sum_to-grows weight (suc n) (2 * n + 2) (omega arith) in
      omega (arith, all, more)

-- the depth of a node, from far enough above
depth_in-same : (n m k : ℕ) → k ≤ n → k ≤ m → depth_in n k ≡ depth_in m k
depth_in-same zero zero k l h = refl
depth_in-same (suc n) (suc m) k l h = let deeper = depth_in-same n m (k / 2) (omega arith) (omega arith) in grind (arith, nat_tests)
depth_in-same n m k l h = let none : k ≡ 0 = omega arith in rw none refl

-- a child lies one deeper
pub depth_step : (k : ℕ) → 2 ≤ k → depth_of k ≡ suc (depth_of (k / 2))
depth_step zero l = absurd (omega arith)
depth_step (suc k) l = let deeper = depth_in-same k (suc k / 2) (suc k / 2) (omega arith) (omega arith) in grind (arith, nat_tests)

pub depth_left : (k : ℕ) → 1 ≤ k → depth_of (2 * k) ≡ suc (depth_of k)
depth_left k l = let half : (2 * k) / 2 ≡ k = omega arith in depth_step (2 * k) (omega arith) ∙ ap (λ i. suc (depth_of i)) half

pub depth_right : (k : ℕ) → 1 ≤ k → depth_of (2 * k + 1) ≡ suc (depth_of k)
depth_right k l = let half : (2 * k + 1) / 2 ≡ k = omega arith in depth_step (2 * k + 1) (omega arith) ∙ ap (λ i. suc (depth_of i)) half

-- nodes of a depth below d have numbers below 2 ^ d
pub below_power : (d k : ℕ) → depth_of k < d → k < 2 ^ d
below_power zero k l = absurd (omega arith)
below_power (suc d) k l =
    let next = pow-succ' 2 d in
    elim (leb_tells k 1) [
      | inl e ↦ let m = e.1 in let some = pow_pos d in omega arith
      | inr e ↦ let m = e.1 in let deeper = depth_step k (omega arith) in let before = below_power d (k / 2) (omega arith) in omega arith
    ]

-- a number is twice its half, or one more
pub halves : (k : ℕ) → (k ≡ 2 * (k / 2)) ⊎ (k ≡ 2 * (k / 2) + 1)
halves k = elim (leb_tells k (2 * (k / 2))) [ inl l ↦ inl (let m = l.1 in omega arith) | inr l ↦ inr (let m = l.1 in omega arith) ]

module _ (b : ℕ) (mark x_of y_of : ℕ → ℕ) (walker : ℕ → Option Walker) (g : NodesAgree b mark x_of y_of walker) where
  -- how many came to node k
  comers : ℕ → ℕ
  comers k = count_in (g.came k) g.identities

  from_down : (k p : ℕ) → 1 ≤ k → g.came (2 * k) p ≡ true → g.came k p ≡ true
  from_down k p l h = g.entered k p (down_entered (g.stage k p) (g.came_down k p l h))

  from_right : (k p : ℕ) → 1 ≤ k → g.came (2 * k + 1) p ≡ true → g.came k p ≡ true
  from_right k p l h = g.entered k p (right_entered (g.stage k p) (g.came_right k p l h))

  apart : (k p : ℕ) → 1 ≤ k → g.came (2 * k) p ≡ true → g.came (2 * k + 1) p ≡ true → ⊥
  apart k p l h i =
      let down = gone_down (g.stage k p) (g.came_down k p l h) in
      let right = gone_right (g.stage k p) (g.came_right k p l i) in
      let both : Gone Down ≡ Gone Right = sym down ∙ right in
      cc

  law_at : (k : ℕ) → IsSplitter (g.stage k)
  law_at k = law_of (x_of k) (y_of k) (g.stage k) (g.splitters k)

  -- those who went down from a node, and those who went right, are fewer than those who came to it
  fewer_down : (k p : ℕ) → 1 ≤ k → g.came (2 * k) p ≡ true → comers (2 * k) + 1 ≤ comers k
  unfolding comers
  fewer_down k p l h =
      let x = (law_at k).not_all_down p (down_entered (g.stage k p) (g.came_down k p l h)) in
      let came : g.came k x.0 ≡ true = g.entered k x.0 x.1 in
      let at = g.listed k x.0 came in
      count_in-fewer (g.came (2 * k)) (g.came k) g.identities at.0 x.0 (λ q. from_down k q l) at.1 at.2 came
      (elim (cases_Bool (g.came (2 * k) x.0)) [ inl y ↦ absurd (x.2 (gone_down (g.stage k x.0) (g.came_down k x.0 l y))) | inr n ↦ n ])

  fewer_right : (k p : ℕ) → 1 ≤ k → g.came (2 * k + 1) p ≡ true → comers (2 * k + 1) + 1 ≤ comers k
  unfolding comers
  fewer_right k p l h =
      let x = (law_at k).not_all_right p (right_entered (g.stage k p) (g.came_right k p l h)) in
      let came : g.came k x.0 ≡ true = g.entered k x.0 x.1 in
      let at = g.listed k x.0 came in
      count_in-fewer (g.came (2 * k + 1)) (g.came k) g.identities at.0 x.0 (λ q. from_right k q l) at.1 at.2 came
      (elim (cases_Bool (g.came (2 * k + 1) x.0)) [ inl y ↦ absurd (x.2 (gone_right (g.stage k x.0) (g.came_right k x.0 l y))) | inr n ↦ n ])

  some_comers : (k p : ℕ) → g.came k p ≡ true → 1 ≤ comers k
  unfolding comers
  some_comers k p h = let at = g.listed k p h in count_in-some (g.came k) g.identities at.0 p at.1 at.2 h

  all_comers : (k : ℕ) → comers k ≤ b
  unfolding comers
  all_comers k = let most = count_in-length (g.came k) g.identities in let many = g.many in omega arith

  -- depth and comers together are never more than have begun
  crowd : (n k p : ℕ) → k ≤ n → g.came k p ≡ true → depth_of k + comers k ≤ b
  crowd zero k p l h = absurd (let some = g.node k p h in omega arith)
  crowd (suc n) k p l h = elim (leb_tells k 1) [
    | inl e ↦ let some = g.node k p h in let least = e.1 in let root : k ≡ 1 = omega arith in rw root (let all = all_comers 1 in omega arith)
    | inr e ↦
        let more = e.1 in
        let step = depth_step k (omega arith) in
        let low : 1 ≤ k / 2 = omega arith in
        elim (halves k) [
          | inl d ↦
              let came : g.came (2 * (k / 2)) p ≡ true = subst (λ (i : ℕ). g.came i p ≡ true) d h in
              let before = crowd n (k / 2) p (omega arith) (from_down (k / 2) p low came) in
              let fewer = fewer_down (k / 2) p low came in
              let same : comers k ≡ comers (2 * (k / 2)) = ap comers d in
              omega arith
          | inr d ↦
              let came : g.came (2 * (k / 2) + 1) p ≡ true = subst (λ (i : ℕ). g.came i p ≡ true) d h in
              let before = crowd n (k / 2) p (omega arith) (from_right (k / 2) p low came) in
              let fewer = fewer_right (k / 2) p low came in
              let same : comers k ≡ comers (2 * (k / 2) + 1) = ap comers d in
              omega arith
        ]
  ]

  -- so nobody comes to a depth of b
  pub shallow : (k p : ℕ) → g.came k p ≡ true → depth_of k < b
  shallow k p h = let all = crowd k k p (omega arith) h in let some = some_comers k p h in omega arith

  -- whether anyone came to node k
  abbrev is_met : ℕ → Bool
  is_met k = not (comers k == 0)

  abbrev weight : ℕ → ℕ
  weight k = 2 * comers k - 1

  few_down : (k : ℕ) → 1 ≤ k → (comers (2 * k) ≡ 0) ⊎ (comers (2 * k) + 1 ≤ comers k)
  unfolding comers
  few_down k l = elim (leb_tells 1 (comers (2 * k))) [
    | inl e ↦ let x = count_in-witness (g.came (2 * k)) g.identities e.1 in inr (fewer_down k x.0 l x.1)
    | inr e ↦ let m = e.1 in inl (omega arith)
  ]

  few_right : (k : ℕ) → 1 ≤ k → (comers (2 * k + 1) ≡ 0) ⊎ (comers (2 * k + 1) + 1 ≤ comers k)
  unfolding comers
  few_right k l = elim (leb_tells 1 (comers (2 * k + 1))) [
    | inl e ↦ let x = count_in-witness (g.came (2 * k + 1)) g.identities e.1 in inr (fewer_right k x.0 l x.1)
    | inr e ↦ let m = e.1 in inl (omega arith)
  ]

  together : (k : ℕ) → 1 ≤ k → comers (2 * k) + comers (2 * k + 1) ≤ comers k
  unfolding comers
  together k l = count_in-both (g.came (2 * k)) (g.came (2 * k + 1)) (g.came k) g.identities (λ q. from_down k q l) (λ q. from_right k q l) (λ q. apart k q l)

  weights_split : (k : ℕ) → 1 ≤ k → (if is_met k then 1 else 0) + weight (2 * k) + weight (2 * k + 1) ≤ weight k
  weights_split k l =
      let both = together k l in
      let down = few_down k l in
      let right = few_right k l in
      grind (arith, nat_tests)

  met : (k p : ℕ) → g.came k p ≡ true → is_met k ≡ true
  met k p h = let some = some_comers k p h in grind (arith, nat_tests)

  none_at_zero : comers 0 ≡ 0
  unfolding comers
  none_at_zero = elim (leb_tells 1 (comers 0)) [
    | inl e ↦ let x = count_in-witness (g.came 0) g.identities e.1 in absurd (let low = g.node 0 x.0 x.1 in omega arith)
    | inr e ↦ let m = e.1 in omega arith
  ]

  -- of numbers to each of which someone came there are at most 2b - 1
  pub few_met : (f : ℕ → Bool) → ((k : ℕ) → f k ≡ true → (p : ℕ) × (g.came k p ≡ true)) → (n : ℕ) → count_to f n ≤ 2 * b - 1
  few_met f each n =
      let fewer = count_le f is_met (λ k h. let x = each k h in met k x.0 x.1) n in
      let no_weight : weight 0 ≡ 0 = rw none_at_zero refl in
      let not_met : is_met 0 ≡ false = rw none_at_zero refl in
      let few = few_pass is_met weight no_weight not_met weights_split n in
      let all = all_comers 1 in
      omega arith

double_min : (k top largest : ℕ) → k < top → 2 * top ≤ largest → (2 * k ≡ min (k * 2) largest) × (2 * k + 1 ≡ min (min (k * 2) largest + 1) largest)
double_min k top largest l h = (omega arith, omega arith)

-- where at most 64 have begun, no number of a child is too large for a place
pub small_place : (b : ℕ) → b ≤ 64 → (mark x_of y_of : ℕ → ℕ) (walker : ℕ → Option Walker) (g : NodesAgree b mark x_of y_of walker) (k p : ℕ) → g.came k p ≡ true → (2 * k ≡ left_child k) × (2 * k + 1 ≡ right_child k)
small_place b few mark x_of y_of walker g k p h =
    let low = shallow b mark x_of y_of walker g k p h in
    double_min k (2 ^ 64) (2 ^ 128 - 1) (below_power 64 k (omega arith)) (omega arith)
