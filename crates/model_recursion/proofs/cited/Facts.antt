-- what follows of a state whose words and seats agree
use Rattle.std.proofs.Common.{◌≡◌, ℕ, zero, suc, ◌+◌, ◌-◌, ◌*◌, ◌<◌, ◌≤◌, nat_lt, inl, inr, true, false, Option, Some, None, refl, sym, ap, subst, ◌∙◌, arith}
use Rattle.std.proofs.lemmas.Bool.{cases_Bool}
use Rattle.std.proofs.lemmas.Bool.Decides.{eqb_tells, nat_tests}
use Rattle.model_steps.specs.Count.{count_to}
use Rattle.model_steps.proofs.cited.CountLemmas.{count_to-lt, count_to-gain}
use Rattle.model_recursion.specs.Program.{Phase}
use Rattle.model_recursion.specs.Spot.{Fate, Spot, has_written, was_full, went_straight, has_turned, is_in}
use Rattle.model_recursion.specs.Spot.Fate.{Absent, Reading, Straight, Turned, Named}
use Rattle.model_recursion.specs.Ranges.{IsInstance}
use Rattle.model_recursion.specs.Levels.{CameFrom, Level, size, SomeIn, KeepsLocally, Follows, Covers, IsSplit, IsRun}
use Rattle.model_recursion.specs.Invariant.{rank, members_of, StandsAt, Stays, IsConsistent}
use Rattle.model_recursion.specs.Program.Phase.{Collecting}
use Rattle.model_recursion.specs.declared.namer.Namer.{Namer}
use Rattle.model_recursion.proofs.Levelling.{in_tells, in_is, split_below}
use Rattle.model_recursion.proofs.Ranging.{parity}
use Rattle.model_recursion.proofs.Descent.{split_in, within_top}

full_not_straight : (t : Fate) → was_full t ≡ true → went_straight t ≡ false
full_not_straight Absent h = refl
full_not_straight Reading h = refl
full_not_straight Straight h = absurd (cc)
full_not_straight Turned h = refl
full_not_straight Named h = refl

not_in : (f : ℕ) (s : Spot) → has_written s.fate ≡ false → is_in f s ≡ false
not_in f s h = rw h refl

-- who has written is a seat
abbrev pub AreSeats : ℕ → Level → Type 0
AreSeats m at = (p : ℕ) → has_written (at p).fate ≡ true → (1 ≤ p) × (p ≤ m)

pub nobody_at_0 : (m : ℕ) (at : Level) → AreSeats m at → has_written (at 0).fate ≡ false
nobody_at_0 m at seats = elim (cases_Bool (has_written (at 0).fate)) [ inl e ↦ absurd (let s = seats 0 e in let low = s.0 in omega arith) | inr e ↦ e ]

-- at the top all are in one instance
pub split_top : (m : ℕ) (at : Level) → AreSeats m at → ((p : ℕ) → has_written (at p).fate ≡ true → (at p).first ≡ 1) → IsSplit (suc m) m at
unfolding size
split_top m at seats first = record {
  few = λ f. let less = count_to-lt (λ q. is_in f (at q)) (suc m) 0 (omega arith) (not_in f (at 0) (nobody_at_0 m at seats)) in omega arith;
  apart = λ p q name c d. first p c.here ∙ sym (first q d.here);
}

module _ (m : ℕ) (ids : ℕ → ℕ) (word : ℕ → ℕ → ℕ → ℕ) (who : ℕ → Option Namer) (g : IsConsistent m ids word who) where
  pub are_seats : (x : ℕ) → AreSeats m (g.rows x)
  are_seats x p h = elim (who p) as (λ o. who p ≡ o → (1 ≤ p) × (p ≤ m)) [
    | None ↦ λ e. absurd (let none = g.absent p e x in let gone : has_written (g.rows x p).fate ≡ false = ap has_written none in cc)
    | Some u ↦ λ e. let s = g.stands p u e in (s.some, s.few)
  ] refl

  -- who has written has an identity
  pub some_ids : (x p : ℕ) → has_written (g.rows x p).fate ≡ true → 1 ≤ ids p
  some_ids x p h = elim (who p) as (λ o. who p ≡ o → 1 ≤ ids p) [
    | None ↦ λ e. absurd (let none = g.absent p e x in let gone : has_written (g.rows x p).fate ≡ false = ap has_written none in cc)
    | Some u ↦ λ e. (g.stands p u e).some_id
  ] refl

  -- how many seats come after one
  above : ℕ → ℕ
  above p = count_to (λ q. nat_lt (rank ids p) (rank ids q)) (suc m)

  -- fewer come after one that comes after it
  fewer_above : (p q : ℕ) → q < suc m → rank ids p < rank ids q → above q + 1 ≤ above p
  unfolding above
  fewer_above p q low more = count_to-gain (λ i. nat_lt (rank ids q) (rank ids i)) (λ i. nat_lt (rank ids p) (rank ids i)) (suc m) q low (grind (arith, nat_tests)) (grind (arith, nat_tests)) (λ i _ h. grind (arith, nat_tests))

  -- from one that turned to one after it, up to one that did not
  climb : (d k p : ℕ) → above p < d → k < m → has_turned (g.rows (suc k) p).fate ≡ true → SomeIn (suc m) (g.rows (suc k)) (g.rows (suc k) p).first (λ s. has_turned s ≡ false)
  climb zero k p few l h = absurd (omega arith)
  climb (suc d) k p few l h =
      let up = g.turned k p l h in
      let low = up.low in
      let less = fewer_above p up.seat low up.more in
      let t = in_tells (g.rows (suc k) p).first (g.rows (suc k) up.seat) up.inside in
      elim (cases_Bool (has_turned (g.rows (suc k) up.seat).fate)) [
        | inr stays ↦ record { seat = up.seat; low = up.low; inside = up.inside; holds = stays }
        | inl turns ↦ subst (λ (f : ℕ). SomeIn (suc m) (g.rows (suc k)) f (λ s. has_turned s ≡ false)) t.1 (climb d k up.seat (omega arith) l turns)
      ]

  -- who stays reads, or was full
  stays_so : (k f : ℕ) → Stays m g.rows who (suc k) f → SomeIn (suc m) (g.rows (suc k)) f (λ s. went_straight s ≡ false)
  stays_so k f s = record {
    seat = s.seat;
    low = s.low;
    inside = s.inside;
    holds = elim s.so [
      | inl full ↦ full_not_straight (g.rows (suc k) s.seat).fate full
      | inr reads ↦
          let at = (g.stands s.seat reads.0 reads.2).at in
          let there : StandsAt m ids (members_of g.rows reads.0.level reads.0.first) (g.rows reads.0.level s.seat) reads.0 (Collecting reads.1) =
          subst (λ (phase : Phase). StandsAt m ids (members_of g.rows reads.0.level reads.0.first) (g.rows reads.0.level s.seat) reads.0 phase) reads.5 at in
          let fate : (g.rows (suc k) s.seat).fate ≡ Reading = subst (λ (x : ℕ). (g.rows x s.seat).fate ≡ Reading) reads.3 there.0 in
          ap went_straight fate
    ];
  }

  pub keeps_locally : (k : ℕ) → k < m → KeepsLocally (suc m) k (g.rows (suc k))
  unfolding size
  keeps_locally k l = record {
    low = λ p h. let s = are_seats (suc k) p h in let few = s.1 in omega arith;
    full = λ p h. g.full k p l h;
    one_stays = λ f many. stays_so k f (g.stays k f l many);
    one_keeps = λ p h. climb (suc (above p)) k p (omega arith) l h;
    one_named = λ p q a b same.
        let up : rank ids q ≤ rank ids p = g.named k p q l a (in_is (g.rows (suc k) p).first (g.rows (suc k) q) (ap has_written b) (sym same)) in
        let down : rank ids p ≤ rank ids q = g.named k q p l b (in_is (g.rows (suc k) q).first (g.rows (suc k) p) (ap has_written a) same) in
        let p_few = (are_seats (suc k) p (ap has_written a)).1 in
        let q_few = (are_seats (suc k) q (ap has_written b)).1 in
        let few = g.few in
        omega arith;
  }

  pub is_run : (low : ℕ) → IsRun (suc m) m low g.rows
  is_run low = record {
    locals = λ k _ l. keeps_locally k l;
    chains = λ k _ l p h. g.chain k p l h;
    top = split_top m (g.rows m) (are_seats m) g.top;
    top_first = g.top;
  }

  -- what a level may be, below those that are there
  pub split_for : (x : ℕ) (at : Level) → x ≤ m → AreSeats m at → (x < m → Follows x (g.rows (suc x)) at) → (x ≡ m → (p : ℕ) → has_written (at p).fate ≡ true → (at p).first ≡ 1) → IsSplit (suc m) x at
  split_for x at l seats follows top = elim (eqb_tells x m) [
    | inl e ↦ subst (λ (y : ℕ). IsSplit (suc m) y at) (sym e.1) (split_top m at seats (top e.1))
    | inr e ↦
        let below : x < m = (let n = e.1 in omega arith) in
        split_below (suc m) x (g.rows (suc x)) at (keeps_locally x below) (follows below) (split_in (suc m) m g.rows (suc x) (omega arith) (is_run (suc x)))
  ]

  -- at most so many are at an instance
  pub few_at : (x f : ℕ) → x ≤ m → count_to (members_of g.rows x f) (suc m) ≤ x
  unfolding size
  few_at x f l = (split_in (suc m) m g.rows x l (is_run x)).few f

  -- and no name that they have is out of range
  pub names_at : (x p name : ℕ) → x ≤ m → Covers (suc m) (g.rows x) p name → (1 ≤ name) × (name + 1 ≤ 2 * m)
  names_at x p name l c =
      let w = within_top (suc m) m g.rows x p name l (is_run x) c in
      let few = (is_run x).top.few 1 in
      let high = w.1 in
      (w.0, omega arith)

  -- an instance that a seat has come to is one that there is
  came_instance : (k : ℕ) (above below : Spot) → CameFrom k above below → IsInstance m (suc k) above.first → IsInstance m k below.first
  came_instance k above below came h = elim came.way [
    | inl a ↦ subst (λ (f : ℕ). IsInstance m k f) (sym a.1) (record { up = λ o. (let l = h.up o in omega arith); down_from = λ e. (let l = h.down_from e in omega arith); down_to = h.down_to })
    | inr a ↦ elim (parity above.first) [
      | inl o ↦ let t = a.1.up o in let l = h.up o in record { up = λ z. absurd (omega arith); down_from = λ _. omega arith; down_to = λ _. omega arith }
      | inr e ↦ let t = a.1.down e in let l = h.down_to e in record { up = λ _. omega arith; down_from = λ z. absurd (omega arith); down_to = λ z. absurd (omega arith) }
    ]
  ]

  top_instance : (f : ℕ) → f ≡ 1 → IsInstance m m f
  top_instance f e = record { up = λ _. omega arith; down_from = λ z. absurd (omega arith); down_to = λ z. absurd (omega arith) }

  instance_at : (d x p : ℕ) → x + d ≡ m → has_written (g.rows x p).fate ≡ true → IsInstance m x (g.rows x p).first
  instance_at zero x p e h = let same : x ≡ m = omega arith in subst (λ (y : ℕ). IsInstance m y (g.rows y p).first) (sym same) (top_instance (g.rows m p).first (g.top p (subst (λ (y : ℕ). has_written (g.rows y p).fate ≡ true) same h)))
  instance_at (suc d) x p e h =
      let came = g.chain x p (omega arith) h in
      let above : has_written (g.rows (suc x) p).fate ≡ true = elim came.way [ inl a ↦ ap has_written a.0 | inr a ↦ ap has_written a.0 ] in
      came_instance x (g.rows (suc x) p) (g.rows x p) came (instance_at d (suc x) p (omega arith) above)

  pub instance_of : (p : ℕ) (u : Namer) → who p ≡ Some u → IsInstance m u.level u.first
  instance_of p u is =
      let st = g.stands p u is in
      let to = st.to in
      elim (eqb_tells u.level m) [
        | inl e ↦ subst (λ (y : ℕ). IsInstance m y u.first) (sym e.1) (top_instance u.first (st.top e.1))
        | inr e ↦
            let below : u.level < m = (let n = e.1 in omega arith) in
            let came = st.came below in
            let above : has_written (g.rows (suc u.level) p).fate ≡ true = elim came.way [ inl a ↦ ap has_written a.0 | inr a ↦ ap has_written a.0 ] in
            came_instance u.level (g.rows (suc u.level) p) (record { fate = Reading; first = u.first }) came (instance_at (m - suc u.level) (suc u.level) p (omega arith) above)
      ]
