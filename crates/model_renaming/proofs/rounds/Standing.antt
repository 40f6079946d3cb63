-- what stands in the moments of a renaming object, and that names are distinct
use Rattle.std.proofs.Common.{Bool, ◌≡◌, ◌≢◌, ℕ, ◌+◌, ◌-◌, ◌*◌, ◌≤◌, true, List, Option, Some, None, inl, inr, refl, sym, ap, ◌∙◌, arith}
use Rattle.model_renaming.proofs.Common.{eqb_tells, leb_tells, set_at, set_at-same, set_at-other, RenameTerms, RenameObject, IsSole, IsRecent, MayPropose, ShowsSole, after_step, Proposed}

-- p has the name n: it is p's last proposal, and in some moment since then no other proposed it
pub record IsHeld (o : RenameObject) (p n : ℕ) : Type 0 where
  pub begun : o.begun p ≡ true
  pub some : 1 ≤ o.count p
  pub index : ℕ
  pub recent : IsRecent o p index
  pub sole : IsSole (o.moment index) p n

-- from its last proposal on each proposes the same; who has proposed nothing is in no moment; and proposals are small
pub record IsStanding (o : RenameObject) : Type 0 where
  pub past : (p : ℕ) → o.since p ≤ o.last
  pub same : (p i : ℕ) → 1 ≤ o.count p → IsRecent o p i → o.moment i p ≡ o.moment o.last p
  pub absent : (p i : ℕ) → o.count p ≡ 0 → i ≤ o.last → o.moment i p ≡ None
  pub begun : (p i n : ℕ) → i ≤ o.last → o.moment i p ≡ Some n → o.begun p ≡ true
  pub small : (p i n : ℕ) → i ≤ o.last → o.moment i p ≡ Some n → (1 ≤ n) × (n ≤ 2 * o.many - 1)
  pub held : (p n : ℕ) → o.name p ≡ Some n → IsHeld o p n

module _ (o : RenameObject) (h : IsStanding o) where
  -- two recent moments show one proposal
  pub same_in : (p i j : ℕ) → 1 ≤ o.count p → IsRecent o p i → IsRecent o p j → o.moment i p ≡ o.moment j p
  same_in p i j c a b = h.same p i c a ∙ sym (h.same p j c b)

  -- no two propose n alone, each in a moment since its last proposal
  pub one_sole : (p q n i j : ℕ) → 1 ≤ o.count p → 1 ≤ o.count q → IsRecent o p i → IsRecent o q j → IsSole (o.moment i) p n → IsSole (o.moment j) q n → p ≡ q
  one_sole p q n i j some other here there mine theirs = elim (eqb_tells p q) [
    | inl e ↦ e.1
    | inr e ↦ absurd (elim (leb_tells (o.since q) i) [
      | inl l ↦
          let still : IsRecent o q i = record { no_earlier = l.1; no_later = here.no_later } in
          mine.alone q (λ k. e.1 (sym k)) (same_in q i j other still there ∙ theirs.own)
      | inr l ↦
          let a = here.no_earlier in
          let b = there.no_earlier in
          let c = l.1 in
          let still : IsRecent o p j = record { no_earlier = omega arith; no_later = there.no_later } in
          theirs.alone p e.1 (same_in p j i some still here ∙ mine.own)
    ])
  ]

  -- who proposes n alone in a moment since its last proposal may have it as its name: no one else has it
  pub nobody_has : (p n : ℕ) (view : List (ℕ × ℕ)) → o.name p ≡ None → 1 ≤ o.count p → ShowsSole o p n view → (q : ℕ) → o.name q ≢ Some n
  nobody_has p n view none some k q named =
      let his = h.held q n named in
      let same : p ≡ q = one_sole p q n k.index his.index some his.some k.recent his.recent k.sole his.sole in
      let both : None ≡ Some n = sym none ∙ ap o.name same ∙ named in
      absurd (cc)

  -- no two have one name
  pub distinct_names : (p q n : ℕ) → o.name p ≡ Some n → o.name q ≡ Some n → p ≡ q
  distinct_names p q n mine theirs = let a = h.held p n mine in let b = h.held q n theirs in one_sole p q n a.index b.index a.some b.some a.recent b.recent a.sole b.sole

  -- a name is small
  pub name_small : (p n i : ℕ) → i ≤ o.last → IsSole (o.moment i) p n → (1 ≤ n) × (n ≤ 2 * o.many - 1)
  name_small p n i l k = h.small p i n l k.own

-- nobody has begun
pub standing_fresh : (o : RenameObject) → ((p : ℕ) → o.since p ≡ 0) → ((p : ℕ) → o.count p ≡ 0) → ((i p : ℕ) → o.moment i p ≡ None) → ((p : ℕ) → o.name p ≡ None) → IsStanding o
standing_fresh o since count moment name = record {
  past = λ p. rw (since p) (omega arith);
  same = λ p i c r. moment i p ∙ sym (moment o.last p);
  absent = λ p i c l. moment i p;
  begun = λ p i n l e. absurd (let no : None ≡ Some n = sym (moment i p) ∙ e in cc);
  small = λ p i n l e. absurd (let no : None ≡ Some n = sym (moment i p) ∙ e in cc);
  held = λ p n e. absurd (let no : None ≡ Some n = sym (name p) ∙ e in cc);
}

-- with no new proposal: places, and who is spent, do not matter; more may begin, and one have a name that it may hold
standing_with : (o : RenameObject) (begun : ℕ → Bool) (many : ℕ) (place name : ℕ → Option ℕ) (spent : ℕ → Bool) → ((q : ℕ) → o.begun q ≡ true → begun q ≡ true) → o.many ≤ many → IsStanding o → ((q m : ℕ) → name q ≡ Some m → IsHeld o q m) →
    IsStanding (record o { begun = begun; many = many; place = place; name = name; spent = spent })
standing_with o begun many place name spent more up h held = record {
  past = h.past;
  same = λ q i c r. h.same q i c (record { no_earlier = r.no_earlier; no_later = r.no_later });
  absent = h.absent;
  begun = λ q i n l e. more q (h.begun q i n l e);
  small = λ q i n l e. let k = h.small q i n l e in (k.0, (let a = k.1 in omega arith));
  held = λ q m e. let k = held q m e in record { begun = more q k.begun; some = k.some; index = k.index; recent = record { no_earlier = k.recent.no_earlier; no_later = k.recent.no_later }; sole = k.sole };
}

pub standing_elsewhere : (o : RenameObject) (place : ℕ → Option ℕ) (spent : ℕ → Bool) → IsStanding o → IsStanding (record o { place = place; spent = spent })
standing_elsewhere o place spent h = standing_with o o.begun o.many place o.name spent (λ q e. e) (omega arith) h h.held

-- one more begins
pub standing_begun : (o : RenameObject) (p : ℕ) → IsStanding o → IsStanding (record o { begun = set_at o.begun p true; many = o.many + 1 })
standing_begun o p h = standing_with o (set_at o.begun p true) (o.many + 1) o.place o.name o.spent (λ q e. elim (eqb_tells q p) [ inl w ↦ rw w.0 refl | inr w ↦ rw w.0 e ]) (omega arith) h h.held

-- one has a name
pub standing_named : (o : RenameObject) (p n i : ℕ) → IsStanding o → o.begun p ≡ true → 1 ≤ o.count p → IsRecent o p i → IsSole (o.moment i) p n → IsStanding (record o { name = set_at o.name p (Some n) })
standing_named o p n i h begun some recent sole = standing_with o o.begun o.many o.place (set_at o.name p (Some n)) o.spent (λ q e. e) (omega arith) h (λ q m e. elim (eqb_tells q p) [
  | inl w ↦
      let k : Some n ≡ Some m = rw w.0 at e in
      let is : n ≡ m = cc in
      rw (w.1, ← is) (record { begun = begun; some = some; index = i; recent = recent; sole = sole })
  | inr w ↦ h.held q m (rw w.0 at e)
])

-- a proposal of p leaves what the others propose
pub others_stand : (o : RenameObject) (p n q : ℕ) → q ≢ p → (after_step o p (Proposed n)).moment (o.last + 1) q ≡ o.moment o.last q
others_stand o p n q other = ap (λ (f : ℕ → Option ℕ). f q) (set_at-same o.moment (o.last + 1) (set_at (o.moment o.last) p (Some n))) ∙ set_at-other (o.moment o.last) p (Some n) q other

-- one who has no name proposes
module _ (terms : RenameTerms) (o : RenameObject) (p s : ℕ) (h : IsStanding o) (unnamed : o.name p ≡ None) (begun : o.begun p ≡ true) (may : MayPropose terms o p s) where
  abbrev next : RenameObject
  next = after_step o p (Proposed s)

  old_moment : (i : ℕ) → i ≤ o.last → next.moment i ≡ o.moment i
  old_moment i l = set_at-other o.moment (o.last + 1) (set_at (o.moment o.last) p (Some s)) i (omega arith)

  new_moment : next.moment (o.last + 1) ≡ set_at (o.moment o.last) p (Some s)
  new_moment = set_at-same o.moment (o.last + 1) (set_at (o.moment o.last) p (Some s))

  new_own : next.moment (o.last + 1) p ≡ Some s
  new_own = ap (λ (f : ℕ → Option ℕ). f p) new_moment ∙ set_at-same (o.moment o.last) p (Some s)

  new_other : (q : ℕ) → q ≢ p → next.moment (o.last + 1) q ≡ o.moment o.last q
  new_other = others_stand o p s

  since_own : next.since p ≡ o.last + 1
  since_own = set_at-same o.since p (o.last + 1)

  since_other : (q : ℕ) → q ≢ p → next.since q ≡ o.since q
  since_other q n = set_at-other o.since p (o.last + 1) q n

  count_other : (q : ℕ) → q ≢ p → next.count q ≡ o.count q
  count_other q n = set_at-other o.count p (o.count p + 1) q n

  count_own : next.count p ≡ o.count p + 1
  count_own = set_at-same o.count p (o.count p + 1)

  -- in a moment stands what stood in an old one, or p's new proposal
  is_old : (i : ℕ) → i ≤ o.last + 1 → i ≢ o.last + 1 → i ≤ o.last
  is_old i l n = omega arith

  past' : (q : ℕ) → next.since q ≤ o.last + 1
  past' q = elim (eqb_tells q p) [
    | inl w ↦ rw w.0 (omega arith)
    | inr w ↦ let k = since_other q w.1 in let l = h.past q in omega arith
  ]

  same' : (q i : ℕ) → 1 ≤ next.count q → IsRecent next q i → next.moment i q ≡ next.moment (o.last + 1) q
  same' q i c r = elim (eqb_tells i (o.last + 1)) [
    | inl e ↦ ap (λ (n : ℕ). next.moment n q) e.1
    | inr e ↦
        let l : i ≤ o.last = is_old i r.no_later e.1 in
        elim (eqb_tells q p) [
          | inl w ↦ absurd (let a : next.since q ≡ o.last + 1 = ap next.since w.1 ∙ since_own in let b = r.no_earlier in omega arith)
          | inr w ↦
              let a = since_other q w.1 in
              let b = count_other q w.1 in
              let d = r.no_earlier in
              ap (λ (f : ℕ → Option ℕ). f q) (old_moment i l) ∙ h.same q i (omega arith) (record { no_earlier = omega arith; no_later = l }) ∙ sym (new_other q w.1)
        ]
  ]

  absent' : (q i : ℕ) → next.count q ≡ 0 → i ≤ o.last + 1 → next.moment i q ≡ None
  absent' q i c l = elim (eqb_tells q p) [
    | inl w ↦ absurd (let a : next.count q ≡ o.count p + 1 = ap next.count w.1 ∙ count_own in omega arith)
    | inr w ↦
        let b = count_other q w.1 in
        elim (eqb_tells i (o.last + 1)) [
          | inl e ↦ ap (λ (n : ℕ). next.moment n q) e.1 ∙ new_other q w.1 ∙ h.absent q o.last (omega arith) (omega arith)
          | inr e ↦ let m = is_old i l e.1 in ap (λ (f : ℕ → Option ℕ). f q) (old_moment i m) ∙ h.absent q i (omega arith) m
        ]
  ]

  stands : (T : ℕ → ℕ → Type 0) → T p s → ((q i n : ℕ) → i ≤ o.last → o.moment i q ≡ Some n → T q n) → (q i n : ℕ) → i ≤ o.last + 1 → next.moment i q ≡ Some n → T q n
  stands T own old q i n l e = elim (eqb_tells i (o.last + 1)) [
    | inr f ↦ let m = is_old i l f.1 in old q i n m (sym (ap (λ (g : ℕ → Option ℕ). g q) (old_moment i m)) ∙ e)
    | inl f ↦
        let now : next.moment (o.last + 1) q ≡ Some n = ap (λ (m : ℕ). next.moment m q) (sym f.1) ∙ e in
        elim (eqb_tells q p) [
          | inl w ↦
              let k : Some s ≡ Some n = sym new_own ∙ ap (next.moment (o.last + 1)) (sym w.1) ∙ now in
              let is : s ≡ n = cc in
              rw (w.1, ← is) own
          | inr w ↦ old q o.last n (omega arith) (sym (new_other q w.1) ∙ now)
        ]
  ]

  held' : (q n : ℕ) → o.name q ≡ Some n → IsHeld next q n
  held' q n e =
      let k = h.held q n e in
      let other : q ≢ p = λ w. (let no : None ≡ Some n = sym unnamed ∙ ap o.name (sym w) ∙ e in cc) in
      let c = count_other q other in
      let some = k.some in
      let a = since_other q other in
      let b = k.recent.no_earlier in
      let d = k.recent.no_later in
      record {
        begun = k.begun;
        some = omega arith;
        index = k.index;
        recent = record { no_earlier = omega arith; no_later = omega arith };
        sole = rw (old_moment k.index d) k.sole;
      }

  pub standing_proposed : IsStanding next
  standing_proposed = record {
    past = past';
    same = same';
    absent = absent';
    begun = stands (λ q n. o.begun q ≡ true) begun h.begun;
    small = stands (λ q n. (1 ≤ n) × (n ≤ 2 * o.many - 1)) (may.positive, may.small) h.small;
    held = held';
  }
