-- who has a seat, and what rows say of seats
use Rattle.std.proofs.Common.{◌≡◌, ◌≢◌, ℕ, ◌+◌, ◌<◌, ◌≤◌, ◌==◌, inl, inr, true, false, cond, List, length, refl, sym, ap, ◌∙◌, subst, arith, Some, None, Option, slice_index, slice_set}
use Rattle.text_checker.proofs.judges_lemmas.Common.{eqb_tells, get_or-set_same, get_or-set_other, set_at, set_at-same, set_at-other, set_at-is, Moments, Turn, HoldsMoments, count_of, since_of, number_reported, reported_in, Stands, HoldsTurns}
use Rattle.text_checker.proofs.judges_lemmas.seats.Crowds.{number_some}
use Rattle.text_checker.proofs.judges_lemmas.seats.People.{seen_kept, seen_set}
use Rattle.text_checker.proofs.judges_lemmas.seats.Turned.{by_moment, earlier}

-- who has been given a turn, or has another
each_turn : (turns : ℕ → Option Turn) (p : ℕ) (new : Turn) (P : ℕ → Turn → Type 0) → P p new → ((q : ℕ) (t : Turn) → q ≢ p → turns q ≡ Some t → P q t) →
    (q : ℕ) (t : Turn) → set_at turns p (Some new) q ≡ Some t → P q t
each_turn turns p new P own other q t h = elim (set_at-is turns p (Some new) q (Some t) h) [
  | inl w ↦
      let is : Some new ≡ Some t = w.1 in
      let same : new ≡ t = cc in
      subst (λ (x : ℕ). P x t) (sym w.0) (subst (P p) same own)
  | inr w ↦ other q t w.0 w.1
]

-- one who begins
abbrev pub first_turn : ℕ → Turn
first_turn seat = record { seat = seat; count = 0; since = 0; number = 0 }

pub turns_begun : (turns : ℕ → Option Turn) (many limit : ℕ) (m : Moments) (last : ℕ) (moment : ℕ → ℕ → Option ℕ) (counts sinces : ℕ → ℕ) (p : ℕ) →
    HoldsTurns turns many limit m last moment counts sinces → turns p ≡ None → HoldsTurns (set_at turns p (Some (first_turn many))) (many + 1) limit m last moment counts sinces
turns_begun turns many limit m last moment counts sinces p h none =
    let new : Turn = first_turn many in
    let each = each_turn turns p new in
    record {
      rows = h.rows;
      held = h.held;
      count = seen_kept count_of counts turns p (Some new) h.count (ap count_of none);
      since = seen_kept since_of sinces turns p (Some new) h.since (ap since_of none);
      few = h.few;
      apart = λ a b t u x y. each (λ a t. t.seat ≡ u.seat → a ≡ b)
          (each (λ b u. many ≡ u.seat → p ≡ b) (λ same. refl) (λ b u other is same. absurd (let l = h.seated b u is in omega arith)) b u y)
          (λ a t other is. each (λ b u. t.seat ≡ u.seat → a ≡ b) (λ same. absurd (let l = h.seated a t is in omega arith)) (λ b u other' is'. h.apart a b t u is is') b u y) a t x;
      seated = each (λ q t. t.seat < many + 1) (omega arith) (λ q t other is. let l = h.seated q t is in omega arith);
      taken = λ seat l. elim (eqb_tells seat many) [
        | inl y ↦ record { who = p; turn = new; is = set_at-same turns p (Some new); at = sym y.1 }
        | inr y ↦
            let d = y.1 in
            let k = h.taken seat (omega arith) in
            record { who = k.who; turn = k.turn; is = set_at-other turns p (Some new) k.who (λ e. absurd (let z : None ≡ Some k.turn = sym none ∙ ap turns (sym e) ∙ k.is in cc)) ∙ k.is; at = k.at }
      ];
      shown = λ i l. seen_kept (reported_in (h.rows i)) (moment i) turns p (Some new) (h.shown i l) (ap (reported_in (h.rows i)) none ∙ sym (ap number_reported (h.unused i l many (omega arith))));
      unused = λ i l seat k. h.unused i l seat (omega arith);
      small = h.small;
      stands = each (λ q t. 1 ≤ t.count → Stands h.rows last t) (λ some. absurd (omega arith)) (λ q t other is. h.stands q t is);
    }

-- one who proposes
abbrev pub next_turn : Turn → ℕ → ℕ → Turn
next_turn t since number = record { seat = t.seat; count = t.count + 1; since = since; number = number }

module _ (turns : ℕ → Option Turn) (many limit : ℕ) (m m' : Moments) (last : ℕ) (moment : ℕ → ℕ → Option ℕ) (counts sinces : ℕ → ℕ) (p n : ℕ) (t : Turn)
    (h : HoldsTurns turns many limit m last moment counts sinces) (is : turns p ≡ Some t) (positive : 1 ≤ n) (small : n < 128) (left : counts p < limit) (fits : many ≤ 64)
    (held : HoldsMoments m' (last + 1) (set_at h.rows (last + 1) (slice_set (h.rows last) t.seat n))) where
  abbrev turn : Turn
  turn = next_turn t (last + 1) n

  each : (P : ℕ → Turn → Type 0) → P p turn → ((q : ℕ) (u : Turn) → q ≢ p → turns q ≡ Some u → P q u) → (q : ℕ) (u : Turn) → set_at turns p (Some turn) q ≡ Some u → P q u
  each = each_turn turns p turn

  abbrev row : List ℕ
  row = slice_set (h.rows last) t.seat n

  abbrev rows' : ℕ → List ℕ
  rows' = set_at h.rows (last + 1) row

  within : t.seat < length (h.rows last)
  within = rw (h.held.wide last (omega arith)) (let l = h.seated p t is in omega arith)

  own_seat : slice_index row t.seat ≡ n
  own_seat = get_or-set_same (h.rows last) t.seat n 0 within

  other_seat : (seat : ℕ) → (seat ≡ t.seat → ⊥) → slice_index row seat ≡ slice_index (h.rows last) seat
  other_seat seat other = get_or-set_other (h.rows last) t.seat seat n 0 other

  -- others have other seats
  other_than : (q : ℕ) (u : Turn) → (q ≡ p → ⊥) → turns q ≡ Some u → u.seat ≡ t.seat → ⊥
  other_than q u other there same = other (h.apart q p u t there is same)

  -- what the new row says of each
  new_row : (q : ℕ) (o : Option Turn) → turns q ≡ o → set_at (moment last) p (Some n) q ≡ reported_in row (set_at turns p (Some turn) q)
  new_row q o there = elim (eqb_tells q p) [
    | inl y ↦ rw y.0 (sym (ap number_reported own_seat ∙ number_some n positive))
    | inr y ↦ rw y.0 (h.shown last (omega arith) q ∙ elim o as (λ x. turns q ≡ x → reported_in (h.rows last) (turns q) ≡ reported_in row (turns q)) [
      | None ↦ λ e. rw e refl
      | Some u ↦ λ e. rw e (ap number_reported (sym (other_seat u.seat (other_than q u y.1 e))))
    ] there)
  ]

  -- a row is an old one or the new one
  in_row : (P : List ℕ → Type 0) (i : ℕ) → i ≤ last + 1 → (i ≤ last → P (h.rows i)) → (i ≡ last + 1 → P row) → P (rows' i)
  in_row = by_moment h.rows last row

  shown' : (i : ℕ) → i ≤ last + 1 → (q : ℕ) → set_at moment (last + 1) (set_at (moment last) p (Some n)) i q ≡ reported_in (rows' i) (set_at turns p (Some turn) q)
  shown' i l q = in_row (λ r. set_at moment (last + 1) (set_at (moment last) p (Some n)) i q ≡ reported_in r (set_at turns p (Some turn) q)) i l
      (λ k. ap (λ f. f q) (earlier moment last (set_at (moment last) p (Some n)) i k) ∙ seen_kept (reported_in (h.rows i)) (moment i) turns p (Some turn) (h.shown i k) (ap (reported_in (h.rows i)) is) q)
      (λ k. ap (λ j. set_at moment (last + 1) (set_at (moment last) p (Some n)) j q) k ∙ ap (λ f. f q) (set_at-same moment (last + 1) (set_at (moment last) p (Some n))) ∙ new_row q (turns q) refl)

  small_seat : (seat : ℕ) → slice_index row seat < 128
  small_seat seat = elim (eqb_tells seat t.seat) [
    | inl y ↦ let e : slice_index row seat ≡ n = ap (slice_index row) y.1 ∙ own_seat in omega arith
    | inr y ↦ let e = other_seat seat y.1 in let l = h.small last (omega arith) seat in omega arith
  ]

  stands' : (q : ℕ) (u : Turn) → set_at turns p (Some turn) q ≡ Some u → 1 ≤ u.count → Stands rows' (last + 1) u
  stands' = each (λ q u. 1 ≤ u.count → Stands rows' (last + 1) u)
      (λ some. record {
        since = omega arith;
        positive = positive;
        small = small;
        in_each = λ i from l. in_row (λ r. slice_index r t.seat ≡ n) i l (λ k. absurd (omega arith)) (λ k. own_seat);
      })
      (λ q u other there some.
      let s = h.stands q u there some in
      let since = s.since in
      record {
        since = omega arith;
        positive = s.positive;
        small = s.small;
        in_each = λ i from l. in_row (λ r. slice_index r u.seat ≡ u.number) i l (s.in_each i from) (λ k. other_seat u.seat (other_than q u other there) ∙ s.in_each last since (omega arith));
      })

  pub turns_proposed : HoldsTurns (set_at turns p (Some turn)) many limit m' (last + 1) (set_at moment (last + 1) (set_at (moment last) p (Some n))) (set_at counts p (counts p + 1)) (set_at sinces p (last + 1))
  turns_proposed = record {
    rows = rows';
    held = held;
    count = seen_set count_of counts turns p (Some turn) (counts p + 1) h.count (ap (λ k. k + 1) (h.count p ∙ ap count_of is));
    since = seen_set since_of sinces turns p (Some turn) (last + 1) h.since refl;
    few = (λ q. elim (q == p) as (λ b. cond b (counts p + 1) (counts q) ≤ limit) [ true ↦ omega arith | false ↦ h.few q ]);
    apart = λ a b v u x y. each (λ a v. v.seat ≡ u.seat → a ≡ b)
        (each (λ b u. t.seat ≡ u.seat → p ≡ b) (λ same. refl) (λ b u other there same. absurd (other_than b u other there (sym same))) b u y)
        (λ a v other there. each (λ b u. v.seat ≡ u.seat → a ≡ b) (λ same. absurd (other_than a v other there same)) (λ b u other' there'. h.apart a b v u there there') b u y) a v x;
    seated = each (λ q u. u.seat < many) (h.seated p t is) (λ q u other. h.seated q u);
    taken = (λ seat l.
        let k = h.taken seat l in
        elim (eqb_tells k.who p) [
          | inl y ↦ record { who = p; turn = turn; is = set_at-same turns p (Some turn); at = (let e : Some t ≡ Some k.turn = sym is ∙ ap turns (sym y.1) ∙ k.is in let f : t ≡ k.turn = cc in ap (λ z. z.seat) f ∙ k.at) }
          | inr y ↦ record { who = k.who; turn = k.turn; is = set_at-other turns p (Some turn) k.who y.1 ∙ k.is; at = k.at }
        ]);
    shown = shown';
    unused = (λ i l seat far. in_row (λ r. slice_index r seat ≡ 0) i l (λ k. h.unused i k seat far)
        (λ k. other_seat seat (λ e. absurd (let l = h.seated p t is in omega arith)) ∙ h.unused last (omega arith) seat far));
    small = (λ i l seat. in_row (λ r. slice_index r seat < 128) i l (λ k. h.small i k seat) (λ k. small_seat seat));
    stands = stands';
  }
