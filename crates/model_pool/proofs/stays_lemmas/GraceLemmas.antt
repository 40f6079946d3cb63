-- a stay that is due was kept last by a keeper that has ended
use Rattle.std.proofs.Common.{◌≡◌, ◌≢◌, ◌==◌, ◌+◌, if◌then◌else◌, not, filter, map, ℕ, List, [], ◌∷◌, ◌++◌, ◌⊎◌, inl, inr, refl, ap, sym, Bool, true, false, subst, ◌∙◌}
use Rattle.std.proofs.lemmas.Bool.{eqb-true, ltb-true, not-true, eq-eqb}
use Rattle.model_pool.specs.declared.stays.keeper.Keeper.{Keeper}
use Rattle.model_pool.specs.declared.stays.keeper.Keeper.TheVariants as keeper
use Rattle.model_pool.specs.declared.stays.kept_stay.KeptStay.{KeptStay}
use Rattle.model_pool.specs.stays.Stays.{Act, EndsLongAgo, Has, HasEnded, IsDue, IsGraced, NoneEntered, after_act, after_acts, after_end, after_quit, ended_by, open_by, quit_by, without}
use Rattle.model_pool.specs.stays.Stays.Act.{Entered, Left, Ended, Quit}

has_append : (xs ys : List KeptStay) (s : KeptStay) → Has s (xs ++ ys) → Has s xs ⊎ Has s ys
has_append [] ys s h = inr h
has_append (x ∷ xs) ys s (inl same) = inl (inl same)
has_append (x ∷ xs) ys s (inr rest) = elim (has_append xs ys s rest) [
  | inl h ↦ inl (inr h)
  | inr h ↦ inr h
]

filter_step : (p : KeptStay → Bool) (x : KeptStay) (xs : List KeptStay) (s : KeptStay) (b : Bool) → p x ≡ b → (Has s (filter p xs) → Has s xs × (p s ≡ true)) → Has s (if b then x ∷ filter p xs else filter p xs) → Has s (x ∷ xs) × (p s ≡ true)
filter_step p x xs s true is rest (inl same) = (inl same, ap p (sym same) ∙ is)
filter_step p x xs s true is rest (inr h) = (let r = rest h in (inr r.0, r.1))
filter_step p x xs s false is rest h = (let r = rest h in (inr r.0, r.1))

has_filter : (p : KeptStay → Bool) (xs : List KeptStay) (s : KeptStay) → Has s (filter p xs) → Has s xs × (p s ≡ true)
has_filter p [] s h = absurd h
has_filter p (x ∷ xs) s h = filter_step p x xs s (p x) refl (has_filter p xs s) h

has_map : (f : KeptStay → KeptStay) (xs : List KeptStay) (s : KeptStay) → Has s (map f xs) → (x : KeptStay) × Has x xs × (f x ≡ s)
has_map f [] s h = absurd h
has_map f (x ∷ xs) s (inl same) = (x, inl refl, same)
has_map f (x ∷ xs) s (inr rest) = (let r = has_map f xs s rest in (r.0, inr r.1, r.2))

-- whose stay is among the others is another
is_other : (id : ℕ) (s : KeptStay) → not (s.identity == id) ≡ true → id ≢ s.identity
is_other id s isnt same = absurd (let yes : (s.identity == id) ≡ true = eq-eqb s.identity id (sym same) in let f = not-true (s.identity == id) isnt in let both : true ≡ false = sym yes ∙ f in cc both)

none_on : (id : ℕ) (act : Act) (acts : List Act) → NoneEntered id (act ∷ []) → NoneEntered id acts → NoneEntered id (act ∷ acts)
none_on id (Entered i c) acts one rest = (one.0, rest)
none_on id (Left i) acts one rest = rest
none_on id (Ended c u) acts one rest = rest
none_on id (Quit c) acts one rest = rest

module _ (g t : ℕ) where
  later_act : (first : List KeptStay) (act : Act) (acts : List Act) (id : ℕ) → HasEnded g t (after_act first act) acts id → HasEnded g t first (act ∷ acts) id
  later_act first act acts id h = record {
    before = act ∷ h.before;
    connection = h.connection;
    act = h.act;
    later = h.later;
    parts = ap (λ (l : List Act). act ∷ l) h.parts;
    kept = h.kept;
    long = h.long;
    none = h.none;
  }

  -- a stay that is due was so before, or its keeper ended by this act
  abbrev Came : List KeptStay → Act → KeptStay → Type 0
  Came first act s = ((c : ℕ) × Has (open_by s.identity c) first × EndsLongAgo g t c act) ⊎ (Has s first × NoneEntered s.identity (act ∷ []))

  end_at : (first : List KeptStay) (id a c u : ℕ) (b : Bool) → (a == c) ≡ b → Has (open_by id a) first → IsDue g t (if b then keeper.Gone u else keeper.Open a) →
      Came first (Ended c u) (record { identity = id; keeper = if b then keeper.Gone u else keeper.Open a })
  end_at first id a c u true is has due = inl (c, subst (λ (n : ℕ). Has (open_by id n) first) (eqb-true a c is) has, (refl, ltb-true (u + g) t due))
  end_at first id a c u false is has due = absurd (cc due)

  end_of : (first : List KeptStay) (id c u : ℕ) (k : Keeper) → Has (record { identity = id; keeper = k }) first → IsDue g t (after_end c u k) → Came first (Ended c u) (record { identity = id; keeper = after_end c u k })
  end_of first id c u (keeper.Open a) has due = end_at first id a c u (a == c) refl has due
  end_of first id c u (keeper.Gone since) has due = inr (has, tt)
  end_of first id c u keeper.Quit has due = inr (has, tt)

  quit_at : (first : List KeptStay) (id a c : ℕ) (b : Bool) → (a == c) ≡ b → Has (open_by id a) first → IsDue g t (if b then keeper.Quit else keeper.Open a) →
      Came first (Quit c) (record { identity = id; keeper = if b then keeper.Quit else keeper.Open a })
  quit_at first id a c true is has due = inl (c, subst (λ (n : ℕ). Has (open_by id n) first) (eqb-true a c is) has, refl)
  quit_at first id a c false is has due = absurd (cc due)

  quit_of : (first : List KeptStay) (id c : ℕ) (k : Keeper) → Has (record { identity = id; keeper = k }) first → IsDue g t (after_quit c k) → Came first (Quit c) (record { identity = id; keeper = after_quit c k })
  quit_of first id c (keeper.Open a) has due = quit_at first id a c (a == c) refl has due
  quit_of first id c (keeper.Gone since) has due = inr (has, tt)
  quit_of first id c keeper.Quit has due = inr (has, tt)

  came : (first : List KeptStay) (act : Act) (s : KeptStay) → Has s (after_act first act) → IsDue g t s.keeper → Came first act s
  came first (Entered i c) s h due = elim (has_append (without i first) (open_by i c ∷ []) s h) [
    | inl before ↦ (let r = has_filter (λ x. not (x.identity == i)) first s before in inr (r.0, (is_other i s r.1, tt)))
    | inr (inl new) ↦ absurd (let still : IsDue g t (keeper.Open c) = subst (λ (x : KeptStay). IsDue g t x.keeper) (sym new) due in cc still)
    | inr (inr none) ↦ absurd none
  ]
  came first (Left i) s h due = (let r = has_filter (λ x. not (x.identity == i)) first s h in inr (r.0, tt))
  came first (Ended c u) s h due =
      let r = has_map (ended_by c u) first s h in
      subst (λ (x : KeptStay). Came first (Ended c u) x) r.2 (end_of first r.0.identity c u r.0.keeper r.1 (subst (λ (x : KeptStay). IsDue g t x.keeper) (sym r.2) due))
  came first (Quit c) s h due =
      let r = has_map (quit_by c) first s h in
      subst (λ (x : KeptStay). Came first (Quit c) x) r.2 (quit_of first r.0.identity c r.0.keeper r.1 (subst (λ (x : KeptStay). IsDue g t x.keeper) (sym r.2) due))

  on_act : (first : List KeptStay) (act : Act) (acts : List Act) (s : KeptStay) → IsDue g t s.keeper → NoneEntered s.identity acts → Came first act s → IsGraced g t first (act ∷ acts) s
  on_act first act acts s due none (inl e) = inl (record { before = []; connection = e.0; act = act; later = acts; parts = refl; kept = e.1; long = e.2; none = none })
  on_act first act acts s due none (inr b) = inr (b.0, due, none_on s.identity act acts b.1 none)

  on_more : (first : List KeptStay) (act : Act) (acts : List Act) (s : KeptStay) → IsDue g t s.keeper → IsGraced g t (after_act first act) acts s → IsGraced g t first (act ∷ acts) s
  on_more first act acts s due (inl h) = inl (later_act first act acts s.identity h)
  on_more first act acts s due (inr r) = on_act first act acts s due r.2 (came first act s r.0 due)

  pub graced : (first : List KeptStay) (acts : List Act) (s : KeptStay) → Has s (after_acts first acts) → IsDue g t s.keeper → IsGraced g t first acts s
  graced first [] s h due = inr (h, due, tt)
  graced first (act ∷ acts) s h due = on_more first act acts s due (graced (after_act first act) acts s h due)
