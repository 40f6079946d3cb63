-- from the top level down
use Rattle.std.proofs.Common.{◌≡◌, ℕ, zero, suc, ◌+◌, ◌-◌, ◌*◌, ◌<◌, ◌≤◌, inl, inr, sym, ap, subst, arith}
use Rattle.std.proofs.lemmas.Bool.Decides.{eqb_tells, leb_tells}
use Rattle.model_recursion.specs.Spot.{has_written, was_full}
use Rattle.model_recursion.specs.Ranges.{IsWithin}
use Rattle.model_recursion.specs.Levels.{Level, size, Covers, IsSplit, IsRun, HasName}
use Rattle.model_recursion.proofs.Levelling.{split_below, nested, last_free}
use Rattle.model_recursion.proofs.Ranging.{within_last, first_range}

module _ (n m : ℕ) (rows : ℕ → Level) where
  less : (low high : ℕ) → low ≤ high → IsRun n m low rows → IsRun n m high rows
  less low high l run = record { locals = λ k a b. run.locals k (omega arith) b; chains = λ k a b. run.chains k (omega arith) b; top = run.top; top_first = run.top_first }

  pub split_at : (d x : ℕ) → x + d ≡ m → IsRun n m x rows → IsSplit n x (rows x)
  split_at zero x e run = let same : x ≡ m = omega arith in subst (λ (y : ℕ). IsSplit n y (rows y)) (sym same) run.top
  split_at (suc d) x e run =
      split_below n x (rows (suc x)) (rows x) (run.locals x (omega arith) (omega arith)) (run.chains x (omega arith) (omega arith)) (split_at d (suc x) (omega arith) (less x (suc x) (omega arith) run))

  pub split_in : (x : ℕ) → x ≤ m → IsRun n m x rows → IsSplit n x (rows x)
  split_in x l run = split_at (m - x) x (omega arith) run

  -- a range is within each that it came from
  pub nested_up : (d x y p name : ℕ) → x + d ≡ y → y ≤ m → IsRun n m x rows → Covers n (rows x) p name → Covers n (rows y) p name
  nested_up zero x y p name e l run c = let same : x ≡ y = omega arith in subst (λ (z : ℕ). Covers n (rows z) p name) same c
  nested_up (suc d) x y p name e l run c =
      let above = less x (suc x) (omega arith) run in
      nested_up d (suc x) y p name (omega arith) l above
      (nested n x (rows (suc x)) (rows x) (run.locals x (omega arith) (omega arith)) (run.chains x (omega arith) (omega arith)) (split_at d' (suc x) (omega arith) above) p name c)
    where
      d' : ℕ
      d' = m - suc x

  -- and within that of the whole
  pub within_top : (x p name : ℕ) → x ≤ m → IsRun n m x rows → Covers n (rows x) p name → (1 ≤ name) × (name + 1 ≤ 2 * size n (rows m) 1)
  within_top x p name l run c =
      let t = nested_up (m - x) x m p name (omega arith) (omega arith) run c in
      let w : IsWithin 1 (size n (rows m) 1) name = subst (λ (f : ℕ). IsWithin f (size n (rows m) f) name) (run.top_first p t.here) t.within in
      first_range (size n (rows m) 1) name w

  module _ (run : IsRun n m 0 rows) where
    at : (x : ℕ) → IsRun n m x rows
    at x = less 0 x (omega arith) run

    pub covers_name : (k p name : ℕ) → k < m → HasName k rows p name → Covers n (rows (suc k)) p name
    covers_name k p name l h = record { here = ap has_written h.named; within = within_last k (rows (suc k) p).first (size n (rows (suc k)) (rows (suc k) p).first) name h.last ((run.locals k (omega arith) l).full p (ap was_full h.named)) }

    -- names are within range
    pub name_within : (k p name : ℕ) → k < m → HasName k rows p name → (1 ≤ name) × (name + 1 ≤ 2 * size n (rows m) 1)
    name_within k p name l h = within_top (suc k) p name (omega arith) (at (suc k)) (covers_name k p name l h)

    one_higher : (k j p q name : ℕ) → k < m → j ≤ k → HasName k rows p name → HasName j rows q name → p ≡ q
    one_higher k j p q name l below h g =
        let mine = covers_name k p name l h in
        let other = covers_name j q name (omega arith) g in
        elim (eqb_tells j k) [
          | inl e ↦
              let there : HasName k rows q name = subst (λ (i : ℕ). HasName i rows q name) e.1 g in
              (run.locals k (omega arith) l).one_named p q h.named there.named ((split_in (suc k) (omega arith) (at (suc k))).apart p q name mine (covers_name k q name l there))
          | inr e ↦ absurd (
              let lower : suc j ≤ k = (let n = e.1 in omega arith) in
              let c : Covers n (rows k) q name = nested_up (k - suc j) (suc j) k q name (omega arith) (omega arith) (at (suc j)) other in
              let d : Covers n (rows (suc k)) q name = nested_up 1 k (suc k) q name (omega arith) (omega arith) (at k) c in
              let split = split_in (suc k) (omega arith) (at (suc k)) in
              let one = split.apart p q name mine d in
              last_free n k (rows (suc k)) (rows k) (run.locals k (omega arith) l) (run.chains k (omega arith) l) split p q name h.last one c)
        ]

    -- and no two have one
    pub one_name : (k j p q name : ℕ) → k < m → j < m → HasName k rows p name → HasName j rows q name → p ≡ q
    one_name k j p q name l i h g = elim (leb_tells j k) [
      | inl below ↦ one_higher k j p q name l below.1 h g
      | inr above ↦ let over = above.1 in sym (one_higher j k q p name i (omega arith) g h)
    ]
