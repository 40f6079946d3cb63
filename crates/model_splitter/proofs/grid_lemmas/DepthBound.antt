-- nobody comes deeper than participants have begun
use Rattle.std.proofs.Common.{◌≡◌, ℕ, zero, suc, ◌<◌, ◌≤◌, Bool, true, false, ◌==◌, ◌&&◌, inl, inr, List, [], ◌∷◌, length, get_or, Option, Some, None, refl, sym, ap, ◌∙◌, arith}
use Rattle.model_splitter.proofs.grid_lemmas.Common.{Decides-eqb, Walker, door_number, count_to, StandsAt, DoorsAgree}
use Rattle.std.proofs.lemmas.Bool.{cases_Bool, or_left, or_right}
use Rattle.model_splitter.proofs.cited.StageLemmas.{gone_right, gone_down}
use Rattle.model_splitter.specs.Invariant.{IsSplitter}
use Rattle.model_splitter.proofs.cited.DoorKept.{law_of}
use Rattle.model_splitter.proofs.grid_lemmas.Diagonals.{depth_bound, taken_bound, is_taken}

-- where each stands
spot : Option Walker → ℕ × ℕ
spot None = (0, 1)
spot (Some u) = (u.door.depth, u.door.column)

spots : (ℕ → Option Walker) → List ℕ → List (ℕ × ℕ)
spots walker [] = []
spots walker (p ∷ ids) = spot (walker p) ∷ spots walker ids

spots_many : (walker : ℕ → Option Walker) (ids : List ℕ) → length (spots walker ids) ≡ length ids
unfolding spots
spots_many walker [] = refl
spots_many walker (p ∷ ids) = ap suc (spots_many walker ids)

-- where one of those listed stands is taken
taken_at : (walker : ℕ → Option Walker) (ids : List ℕ) (i p d c : ℕ) → i < length ids → get_or ids i 0 ≡ p → StandsAt walker p d c → is_taken (spots walker ids) d c ≡ true
unfolding spots spot
taken_at walker [] i p d c l e s = absurd (omega arith)
taken_at walker (q ∷ ids) zero p d c l e s =
    let own : walker q ≡ Some s.walk = ap walker e ∙ s.is in
    let first : (d == s.walk.door.depth) ≡ true = (Decides-eqb d s.walk.door.depth).1 (sym s.depth_is) in
    let second : (c == s.walk.door.column) ≡ true = (Decides-eqb c s.walk.door.column).1 (sym s.column_is) in
    or_left ((d == (spot (walker q)).0) && (c == (spot (walker q)).1)) (is_taken (spots walker ids) d c) (rw (own, first, second) refl)
taken_at walker (q ∷ ids) (suc i) p d c l e s =
    or_right ((d == (spot (walker q)).0) && (c == (spot (walker q)).1)) (is_taken (spots walker ids) d c) (taken_at walker ids i p d c (omega arith) e s)

none_count : (f : ℕ → Bool) (n : ℕ) → ((c : ℕ) → c < n → f c ≡ false) → count_to f n ≡ 0
none_count f zero h = refl
none_count f (suc n) h = let last : f n ≡ false = h n (omega arith) in let before = none_count f n (λ c l. h c (omega arith)) in rw last (omega arith)

module _ (limit b : ℕ) (x_of y_of : ℕ → ℕ) (walker : ℕ → Option Walker) (g : DoorsAgree limit b x_of y_of walker) where
  free : (d c p : ℕ) → is_taken (spots walker g.identities) d c ≡ false → StandsAt walker p d c → ⊥
  free d c p h s =
      let at = g.listed p s.walk s.is in
      let t : is_taken (spots walker g.identities) d c ≡ true = taken_at walker g.identities at.0 p d c at.1 at.2 s in
      cc

  -- a door that was reached and where no one stands was left both ways
  leads : (d c : ℕ) → c ≤ d → g.reached d c ≡ true → is_taken (spots walker g.identities) d c ≡ false → (g.reached (suc d) c ≡ true) × (g.reached (suc d) (suc c) ≡ true)
  leads d c k h f = elim (g.here d c h) [
    | inl s ↦ absurd (free d c s.0 f s.1)
    | inr e ↦
        let law : IsSplitter (g.stage (door_number d c)) = law_of (x_of (door_number d c)) (y_of (door_number d c)) (g.stage (door_number d c)) (g.doors (door_number d c)) in
        let x = law.not_all_down e.0 e.1 in
        let y = law.not_all_right e.0 e.1 in (
          elim (g.left d c x.0 k x.1) [
            | inl s ↦ absurd (free d c x.0 f s)
            | inr o ↦ elim o [ inl r ↦ r.1 | inr r ↦ absurd (x.2 (gone_down (g.stage (door_number d c) x.0) r.0)) ]
          ],
          elim (g.left d c y.0 k y.1) [
            | inl s ↦ absurd (free d c y.0 f s)
            | inr o ↦ elim o [ inr r ↦ r.1 | inl r ↦ absurd (y.2 (gone_right (g.stage (door_number d c) y.0) r.0)) ]
          ],
        )
  ]

  -- no door that was reached is deeper than b - 1
  tight : (d c : ℕ) → 0 < b → g.reached d c ≡ true → d < b
  tight d c some h =
      let beyond : (e : ℕ) → e < suc limit → g.reached limit e ≡ false = λ e l. elim (cases_Bool (g.reached limit e)) [ inl y ↦ absurd (let low = g.within limit e y in omega arith) | inr n ↦ n ] in
      let low = depth_bound g.reached (is_taken (spots walker g.identities)) leads g.comes (g.root some) d c limit (g.inside d c h) h (let deep = g.within d c h in omega arith) (none_count (g.reached limit) (suc limit) beyond) in
      let high = taken_bound (spots walker g.identities) limit in
      let many = spots_many walker g.identities in
      let all = g.many in
      omega arith

  pub tightened : 0 < b → DoorsAgree b b x_of y_of walker
  tightened some = record {
    stage = g.stage;
    reached = g.reached;
    identities = g.identities;
    many = g.many;
    listed = g.listed;
    nobody = g.nobody;
    walks = g.walks;
    absent = g.absent;
    doors = g.doors;
    entered = g.entered;
    left = g.left;
    here = g.here;
    comes = g.comes;
    inside = g.inside;
    within = λ d c h. tight d c some h;
    root = g.root;
  }
