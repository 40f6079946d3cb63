-- the tables of moments after one more moment
use Rattle.std.proofs.Common.{◌≡◌, ◌≢◌, ℕ, zero, suc, ◌+◌, ◌-◌, ◌<◌, ◌≤◌, ◌==◌, inl, inr, Bool, true, false, ltb, cond, List, length, refl, sym, ap, ◌∙◌, subst, arith, Some, None, Option, unwrap_or, count_by, slice_index, slice_set, get_or, nat_eq, replicate, nat_lt, if◌then◌else◌}
use Rattle.text_checker.proofs.judges_lemmas.Common.{cases_Bool, false≢true, ne_eqb, ltb-true, ltb-false, eqb_tells, pointwise, get, set_at, set_at-same, set_at-other, set_at-cases, Moments, crowded, turned_at, IsPast, HoldsMoments}
use Rattle.std.proofs.lemmas.List.{get_or-set_same, get_or-set_other, set_past, length-set}
use Rattle.std.proofs.lemmas.List.Sums.{sum_by-set}
use Rattle.std.specs.Bool.{beq}
use Rattle.std.specs.Cmp.{booleans_Decides}
use Rattle.text_checker.proofs.judges_lemmas.seats.Past.{same_row}

-- moments up to the last are as before, and the new one is the last
pub by_moment : {X : Type 0} (f : ℕ → X) (last : ℕ) (new : X) (P : X → Type 0) (i : ℕ) → i ≤ last + 1 → (i ≤ last → P (f i)) → (i ≡ last + 1 → P new) → P (set_at f (last + 1) new i)
by_moment f last new P i l old now = set_at-cases f (last + 1) new P i now (λ other. old (omega arith))

pub earlier : {X : Type 0} (f : ℕ → X) (last : ℕ) (new : X) (i : ℕ) → i ≤ last → set_at f (last + 1) new i ≡ f i
earlier f last new i l = set_at-other f (last + 1) new i (λ e. absurd (omega arith))

-- a number that neither was nor is at the seat has as many as before
count-set : (row : List ℕ) (seat s n : ℕ) → (n ≡ s → ⊥) → (n ≡ slice_index row seat → ⊥) → count_by (λ x. x == n) (slice_set row seat s) ≡ count_by (λ x. x == n) row
count-set row seat s n a b = elim (cases_Bool (ltb seat (length row))) [
  | inl y ↦
      let l : seat < length row = ltb-true _ _ y in
      let e = sum_by-set (λ x. cond {A = ℕ} (x == n) 1 0) row seat s 0 l in
      let p : cond {A = ℕ} (s == n) 1 0 ≡ 0 = rw (ne_eqb s n (λ k. a (sym k))) refl in
      let q : cond {A = ℕ} (get_or row seat 0 == n) 1 0 ≡ 0 = rw (ne_eqb (get_or row seat 0) n (λ k. b (sym k))) refl in
      omega (arith, e, p, q)
  | inr y ↦ ap (λ (x : List ℕ). count_by (λ x. x == n) x) (set_past row seat s (ltb-false _ _ y))
]

same_either : {X : Type 0} (b : Bool) (x : X) → x ≡ cond b x x
same_either true x = refl
same_either false x = refl

-- the place of n after one note at k
noted : (turned m m' : List ℕ) (k at n : ℕ) → n < length turned →
    slice_index (turned_at turned m m' k at) n ≡ (if beq (crowded n m) (crowded n m') then slice_index turned n else if n == k then at else slice_index turned n)
noted turned m m' k at n l = elim (eqb_tells n k) [
  | inl y ↦ rw (y.0, ← y.1) (elim (beq (crowded n m) (crowded n m')) as (λ b. slice_index (cond b turned (slice_set turned n at)) n ≡ cond b (slice_index turned n) at) [ true ↦ refl | false ↦ get_or-set_same turned n at 0 l ])
  | inr y ↦
      let same : slice_index turned n ≡ cond (beq (crowded n m) (crowded n m')) (slice_index turned n) (slice_index turned n) = same_either (beq (crowded n m) (crowded n m')) (slice_index turned n) in
      rw y.0 (elim (beq (crowded k m) (crowded k m')) as (λ b. slice_index (cond b turned (slice_set turned k at)) n ≡ cond (beq (crowded n m) (crowded n m')) (slice_index turned n) (slice_index turned n)) [
        | true ↦ same
        | false ↦ get_or-set_other turned k n at 0 y.1 ∙ same
      ])
]

noted-length : (turned m m' : List ℕ) (k at : ℕ) → length (turned_at turned m m' k at) ≡ length turned
noted-length turned m m' k at = elim (beq (crowded k m) (crowded k m')) as (λ b. length (cond b turned (slice_set turned k at)) ≡ length turned) [ true ↦ refl | false ↦ length-set turned k at ]

-- and after two notes, at the new number of a seat and at the old
noted_twice : (turned row : List ℕ) (seat s at n : ℕ) → n < length turned →
    slice_index (turned_at (turned_at turned row (slice_set row seat s) s at) row (slice_set row seat s) (slice_index row seat) at) n ≡ (if beq (crowded n row) (crowded n (slice_set row seat s)) then slice_index turned n else at)
noted_twice turned row seat s at n l =
    let next : List ℕ = slice_set row seat s in
    let one = noted turned row next s at n l in
    let two = noted (turned_at turned row next s at) row next (slice_index row seat) at n (rw (noted-length turned row next s at) l) in
    elim (cases_Bool (beq (crowded n row) (crowded n next))) [
      | inl y ↦ rw y ((rw y at two) ∙ (rw y at one))
      | inr y ↦ elim (eqb_tells n (slice_index row seat)) [
        | inl w ↦ rw y (rw (y, w.0) at two)
        | inr w ↦ elim (eqb_tells n s) [
          | inl v ↦ rw y ((rw (y, w.0) at two) ∙ (rw (y, v.0) at one))
          | inr v ↦ absurd (false≢true (sym y ∙ (booleans_Decides _ _).1 (ap (nat_lt 1) (sym (count-set row seat s n v.1 w.1)))))
        ]
      ]
    ]

module _ (rows : ℕ → List ℕ) (last : ℕ) (new : List ℕ) where
  abbrev rows' : ℕ → List ℕ
  rows' = set_at rows (last + 1) new

  -- the table of a number
  turned_next : (n past : ℕ) → IsPast (λ i. crowded n (rows i) ≢ crowded n (rows last)) last past →
      IsPast (λ i. crowded n (rows' i) ≢ crowded n new) (last + 1) (if beq (crowded n (rows last)) (crowded n new) then past else last + 1)
  turned_next n past is = elim (cases_Bool (beq (crowded n (rows last)) (crowded n new))) [
    | inl y ↦
        let e : crowded n (rows last) ≡ crowded n new = (booleans_Decides _ _).0 y in
        let w = is.within in
        rw y (record {
          above = λ i l. by_moment rows last new (λ r. crowded n r ≢ crowded n new → i < past) i l (λ k d. is.above i k (λ h. d (h ∙ e))) (λ k d. absurd (d refl));
          reached = λ l. by_moment rows last new (λ r. crowded n r ≢ crowded n new) (past - 1) (omega arith) (λ k h. is.reached l (h ∙ sym e)) (λ k. absurd (omega arith));
          within = omega arith;
        })
    | inr y ↦
        let d : crowded n (rows last) ≢ crowded n new = λ h. false≢true (sym y ∙ (booleans_Decides _ _).1 h) in
        rw y (record {
          above = λ i l. by_moment rows last new (λ r. crowded n r ≢ crowded n new → i < last + 1) i l (λ k h. omega arith) (λ k h. absurd (h refl));
          reached = λ l. (let was : last ≡ last + 1 - 1 = omega arith in
              subst (λ (j : ℕ). crowded n (rows' j) ≢ crowded n new) was (by_moment rows last new (λ r. crowded n r ≢ crowded n new) last (omega arith) (λ k. d) (λ k. absurd (omega arith))));
          within = omega arith;
        })
  ]

  -- the table of rows
  seen_next : (row : List ℕ) (past : Option ℕ) → IsPast (λ i. rows i ≡ row) last (unwrap_or past 0) →
      IsPast (λ i. rows' i ≡ row) (last + 1) (unwrap_or (cond (pointwise nat_eq new row) (Some (last + 1 + 1)) past) 0)
  seen_next row past is = elim (cases_Bool (pointwise nat_eq new row)) [
    | inl y ↦ rw y (record {
      above = λ i l passes. omega arith;
      reached = λ l. (let was : last + 1 ≡ last + 1 + 1 - 1 = omega arith in subst (λ (j : ℕ). rows' j ≡ row) was (set_at-same rows (last + 1) new ∙ (same_row _ _).0 y));
      within = omega arith;
    })
    | inr y ↦
        let d : new ≢ row = λ e. false≢true (sym y ∙ (same_row _ _).1 e) in
        let w = is.within in
        rw y (record {
          above = λ i l. by_moment rows last new (λ r. r ≡ row → i < unwrap_or past 0) i l (is.above i) (λ k e. absurd (d e));
          reached = λ l. by_moment rows last new (λ r. r ≡ row) (unwrap_or past 0 - 1) (omega arith) (λ k. is.reached l) (λ k. absurd (omega arith));
          within = omega arith;
        })
  ]

-- the tables hold the moments after a proposal
pub proposed : (m new : Moments) (last : ℕ) (rows : ℕ → List ℕ) (seat s at : ℕ) → HoldsMoments m last rows → at ≡ m.last + 1 →
    new.last ≡ at → new.present ≡ slice_set m.present seat s →
    new.turned ≡ turned_at (turned_at m.turned m.present (slice_set m.present seat s) s at) m.present (slice_set m.present seat s) (slice_index m.present seat) at →
    ((row : List ℕ) → get (pointwise nat_eq) new.seen row ≡ cond (pointwise nat_eq (slice_set m.present seat s) row) (Some (at + 1)) (get (pointwise nat_eq) m.seen row)) →
    HoldsMoments new (last + 1) (set_at rows (last + 1) (slice_set (rows last) seat s))
proposed m new last rows seat s at h a l p t g =
    let at_is : at ≡ last + 1 = a ∙ ap (λ (x : ℕ). x + 1) h.last_is in
    let row : List ℕ = slice_set (rows last) seat s in
    let before : ℕ = slice_index (rows last) seat in
    let now = set_at-same rows (last + 1) row in
    let reported : new.turned ≡ turned_at (turned_at m.turned (rows last) row s (last + 1)) (rows last) row before (last + 1) =
    t ∙ (λ i. turned_at (turned_at m.turned (h.present_is i) (slice_set (h.present_is i) seat s) s (at_is i)) (h.present_is i) (slice_set (h.present_is i) seat s) (slice_index (h.present_is i) seat) (at_is i)) in
    let seen : (r : List ℕ) → get (pointwise nat_eq) new.seen r ≡ cond (pointwise nat_eq row r) (Some (last + 1 + 1)) (get (pointwise nat_eq) m.seen r) =
    (λ r. g r ∙ (λ i. cond (pointwise nat_eq (slice_set (h.present_is i) seat s) r) (Some (at_is i + 1)) (get (pointwise nat_eq) m.seen r))) in
    record {
      last_is = l ∙ at_is;
      present_is = p ∙ ap (λ (x : List ℕ). slice_set x seat s) h.present_is ∙ sym now;
      wide = λ i k. by_moment rows last row (λ r. length r ≡ 64) i k (h.wide i) (λ e. length-set (rows last) seat s ∙ h.wide last (omega arith));
      numbers = ap length reported ∙ noted-length _ (rows last) row before (last + 1) ∙ noted-length m.turned (rows last) row s (last + 1) ∙ h.numbers;
      turned = λ n k. subst (λ (r : List ℕ). IsPast (λ i. crowded n (set_at rows (last + 1) row i) ≢ crowded n r) (last + 1) (slice_index new.turned n)) (sym now)
          (subst (IsPast (λ i. crowded n (set_at rows (last + 1) row i) ≢ crowded n row) (last + 1)) (sym (ap (λ (x : List ℕ). slice_index x n) reported ∙ noted_twice m.turned (rows last) seat s (last + 1) n (rw h.numbers k)))
          (turned_next rows last row n (slice_index m.turned n) (h.turned n k)));
      seen = λ r. subst (λ (o : Option ℕ). IsPast (λ i. set_at rows (last + 1) row i ≡ r) (last + 1) (unwrap_or o 0)) (sym (seen r)) (seen_next rows last row r (get (pointwise nat_eq) m.seen r) (h.seen r));
    }

pub zero_at : (k n : ℕ) → slice_index (replicate k 0) n ≡ 0
zero_at zero n = refl
zero_at (suc k) zero = refl
zero_at (suc k) (suc n) = zero_at k n

-- one row was seen
one_seen : (row : List ℕ) → IsPast (λ i. replicate {A = ℕ} 64 0 ≡ row) 0 (unwrap_or (cond (pointwise nat_eq (replicate 64 0) row) (Some 1) None) 0)
one_seen row = elim (cases_Bool (pointwise nat_eq (replicate 64 0) row)) [
  | inl y ↦ rw y (record { above = (λ i l passes. omega arith); reached = (λ l. (same_row (replicate 64 0) row).0 y); within = omega arith })
  | inr y ↦ rw y (record { above = (λ i l passes. absurd (false≢true (sym y ∙ (same_row (replicate 64 0) row).1 passes))); reached = (λ l. absurd (omega arith)); within = omega arith })
]

-- the tables of one moment in which nobody proposes
pub first : (m : Moments) → m.last ≡ 0 → m.present ≡ replicate 64 0 → m.turned ≡ replicate 128 0 →
    ((row : List ℕ) → get (pointwise nat_eq) m.seen row ≡ cond (pointwise nat_eq (replicate 64 0) row) (Some 1) None) → HoldsMoments m 0 (λ i. replicate 64 0)
first m l p t g = record {
  last_is = l;
  present_is = p;
  wide = (λ i k. refl);
  numbers = ap length t;
  turned = (λ n k.
      let zero_is : slice_index m.turned n ≡ 0 = ap (λ (x : List ℕ). slice_index x n) t ∙ zero_at 128 n in
      record { above = (λ i l turns. absurd (turns refl)); reached = (λ l. absurd (omega arith)); within = omega arith });
  seen = (λ row. subst (λ (o : Option ℕ). IsPast (λ i. replicate {A = ℕ} 64 0 ≡ row) 0 (unwrap_or o 0)) (sym (g row)) (one_seen row));
}
