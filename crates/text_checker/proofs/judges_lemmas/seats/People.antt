-- lists of participants
use Rattle.std.proofs.Common.{◌≡◌, ◌≢◌, ℕ, suc, ◌+◌, ◌<◌, ◌==◌, inl, inr, Bool, true, false, cond, List, [], ◌∷◌, ◌++◌, length, take, drop, get_or, set, refl, sym, ap, ◌∙◌, Some, None, Option, is_some, drop-cons, ◌||◌, option_and_then, option_map, arith}
use Rattle.text_checker.proofs.judges_lemmas.Common.{eq-eqb, ne_eqb, cases_Bool, false≢true, is_held, list_any, eqb_tells, Participant, AreDistinct, beginner, participant_of, program_of, with_participant, set_at, set_at-cases, set_at-map}
use Rattle.std.proofs.lemmas.List.{set_split}
use Rattle.model_steps.proofs.cited.ParticipantLemmas.{participant_of-push, participant_of-put}

-- the one that is met is put in
pub put_here : {P : Type 0} (xs : List (Participant P)) (i : ℕ) (new d : Participant P) → i < length xs → (get_or xs i d).identity ≡ new.identity →
    with_participant new xs ≡ take i xs ++ with_participant new (drop i xs) → set xs i new ≡ with_participant new xs
put_here xs i new d l same ahead =
    let here : with_participant new (drop i xs) ≡ new ∷ drop (suc i) xs = rw (drop-cons xs i d, eq-eqb (get_or xs i d).identity new.identity same) refl in
    set_split xs i new l ∙ sym (ahead ∙ ap (λ ys. take i xs ++ ys) here)

-- the one that is met is whom is looked for, or stands further on
met : {P : Type 0} (xs : List (Participant P)) (i : ℕ) (v : Participant P) → i < length xs → v ≡ get_or xs i v → drop i xs ≡ v ∷ drop (suc i) xs
met xs i v l is = drop-cons xs i v l ∙ ap (λ y. y ∷ drop (suc i) xs) (sym is)

pub found_here : {P : Type 0} (id : ℕ) (xs : List (Participant P)) (i : ℕ) (v : Participant P) → i < length xs → v ≡ get_or xs i v → v.identity ≡ id → program_of id (drop i xs) ≡ Some v.program
found_here id xs i v l is same = rw (met xs i v l is, eq-eqb v.identity id same) refl

pub found_further : {P : Type 0} (id : ℕ) (xs : List (Participant P)) (i : ℕ) (v : Participant P) → i < length xs → v ≡ get_or xs i v → v.identity ≢ id → program_of id (drop i xs) ≡ program_of id (drop (i + 1) xs)
found_further id xs i v l is other =
    let next : suc i ≡ i + 1 = omega arith in
    rw (met xs i v l is, ne_eqb v.identity id other) (ap (λ (n : ℕ). program_of id (drop n xs)) next)

-- what is not there is nothing
pub absent : {X : Type 0} (o : Option X) → is_some o ≡ false → o ≡ None
absent None h = refl
absent (Some x) h = absurd (cc)

pub none_kept : {P : Type 0} (o : Option (Participant P)) → option_map (λ v. v.program) o ≡ None → o ≡ None
none_kept None h = refl
none_kept (Some v) h = absurd (cc)

-- where an identity is not, nothing is put in
pub put_nowhere : {P : Type 0} (ps : List (Participant P)) (new : Participant P) → participant_of new.identity ps ≡ None → with_participant new ps ≡ ps
put_nowhere [] new h = refl
put_nowhere (v ∷ vs) new h = elim (eqb_tells v.identity new.identity) [
  | inl e ↦ absurd (let no : Some v ≡ None = rw e.0 at h in cc)
  | inr e ↦ rw e.0 (ap (λ xs. v ∷ xs) (put_nowhere vs new (rw e.0 at h)))
]

-- what was found in a list
pub there : {P : Type 0} (id : ℕ) {xs ys : List (Participant P)} {found : Option P} {x : P} → found ≡ program_of id xs → xs ≡ ys → found ≡ Some x → program_of id ys ≡ Some x
there id is same some = sym (is ∙ ap (program_of id) same) ∙ some

-- one more
pub program_of-push : {P : Type 0} (ps : List (Participant P)) (p : ℕ) (x : P) → program_of p ps ≡ None → (q : ℕ) → program_of q (ps ++ beginner p x ∷ []) ≡ set_at (λ v. program_of v ps) p (Some x) q
program_of-push ps p x none q =
    ap (option_map (λ v. v.program)) (participant_of-push ps (beginner p x) (none_kept (participant_of p ps) none) q) ∙ set_at-map (option_map (λ v. v.program)) (λ v. participant_of v ps) p (Some (beginner p x)) q

some_kept : {P : Type 0} (o : Option (Participant P)) (x : P) → option_map (λ v. v.program) o ≡ Some x → is_some o ≡ true
some_kept None x h = absurd (cc)
some_kept (Some v) x h = refl

-- another in place of what was kept
pub program_of-put : {P : Type 0} (ps : List (Participant P)) (p : ℕ) (x y : P) → program_of p ps ≡ Some x → (q : ℕ) → program_of q (with_participant (beginner p y) ps) ≡ set_at (λ v. program_of v ps) p (Some y) q
program_of-put ps p x y some q =
    ap (option_map (λ v. v.program)) (participant_of-put ps (beginner p y) (some_kept (participant_of p ps) x some) q) ∙ set_at-map (option_map (λ v. v.program)) (λ v. participant_of v ps) p (Some (beginner p y)) q

-- someone passes
pub record Passes {P : Type 0} (test : P → Bool) (ps : List (Participant P)) : Type 0 where
  pub who : ℕ
  pub kept : P
  pub is : program_of who ps ≡ Some kept
  pub passes : test kept ≡ true

later_passes : {P : Type 0} (test : P → Bool) (v : Participant P) (vs : List (Participant P)) → participant_of v.identity vs ≡ None → Passes test vs → Passes test (v ∷ vs)
later_passes test v vs none k = elim (eqb_tells v.identity k.who) [
  | inl y ↦ absurd (let e : program_of k.who vs ≡ None = ap (λ x. program_of x vs) (sym y.1) ∙ ap (option_map (λ u. u.program)) none in let s : None ≡ Some k.kept = sym e ∙ k.is in cc)
  | inr y ↦ record { who = k.who; kept = k.kept; is = rw y.0 k.is; passes = k.passes }
]

pub any_passes : {P : Type 0} (test : P → Bool) (ps : List (Participant P)) → AreDistinct ps → list_any (λ v. test v.program) ps ≡ true → Passes test ps
any_passes test [] a h = absurd (cc)
any_passes test (v ∷ vs) a h = elim (cases_Bool (test v.program)) [
  | inl y ↦ record { who = v.identity; kept = v.program; is = rw (eq-eqb v.identity v.identity refl) refl; passes = y }
  | inr y ↦ later_passes test v vs a.0 (any_passes test vs a.1 (rw y at h))
]

pub passes_any : {P : Type 0} (test : P → Bool) (ps : List (Participant P)) (p : ℕ) (x : P) → program_of p ps ≡ Some x → test x ≡ true → list_any (λ v. test v.program) ps ≡ true
passes_any test [] p x is h = absurd (cc)
passes_any test (v ∷ vs) p x is h = elim (eqb_tells v.identity p) [
  | inl y ↦ let e : Some v.program ≡ Some x = rw y.0 at is in let f : v.program ≡ x = cc in rw (ap test f ∙ h) refl
  | inr y ↦ elim (test v.program) as (λ b. b || list_any (λ u. test u.program) vs ≡ true) [ true ↦ refl | false ↦ passes_any test vs p x (rw y.0 at is) h ]
]

-- what is seen of all as before, and of one who is changed so that it is seen as before
pub seen_kept : {X Y : Type 0} (g : Option X → Y) (f : ℕ → Y) (who : ℕ → Option X) (p : ℕ) (new : Option X) → ((q : ℕ) → f q ≡ g (who q)) → g (who p) ≡ g new → (q : ℕ) → f q ≡ g (set_at who p new q)
seen_kept g f who p new as_is same q = set_at-cases who p new (λ x. f q ≡ g x) q (λ e. as_is q ∙ ap (λ x. g (who x)) e ∙ same) (λ _. as_is q)

-- what is seen of all, where one is changed
pub seen_set : {X Y : Type 0} (g : Option X → Y) (f : ℕ → Y) (who : ℕ → Option X) (p : ℕ) (new : Option X) (seen : Y) → ((q : ℕ) → f q ≡ g (who q)) → seen ≡ g new → (q : ℕ) → set_at f p seen q ≡ g (set_at who p new q)
seen_set g f who p new seen as_is same q = elim (q == p) as (λ b. cond b seen (f q) ≡ g (cond b new (who q))) [ true ↦ same | false ↦ as_is q ]

-- ---- a number that each may hold

held_is : (n : ℕ) (x : Option ℕ) → is_held n x ≡ true → x ≡ Some n
held_is n None h = absurd (cc)
held_is n (Some m) h = elim (eqb_tells m n) [ inl y ↦ ap Some y.1 | inr y ↦ absurd (false≢true (sym y.0 ∙ h)) ]

module _ {P : Type 0} (field : P → Option ℕ) (f : ℕ → Option ℕ) (ps : List (Participant P)) (n : ℕ) (as_is : (q : ℕ) → f q ≡ option_and_then field (program_of q ps)) where
  has : (q : ℕ) (x : Option P) → program_of q ps ≡ x → option_and_then field x ≡ Some n → list_any (λ v. is_held n (field v.program)) ps ≡ true
  has q None is e = absurd (cc)
  has q (Some x) is e = passes_any (λ s. is_held n (field s)) ps q x is (rw e (eq-eqb n n refl))

  -- nobody has what is not found in the list, and somebody what is
  pub nobody_has : list_any (λ v. is_held n (field v.program)) ps ≡ false → (q : ℕ) → f q ≡ Some n → ⊥
  nobody_has none q e = false≢true (sym none ∙ has q (program_of q ps) refl (sym (as_is q) ∙ e))

  pub somebody_has : AreDistinct ps → list_any (λ v. is_held n (field v.program)) ps ≡ true → (q : ℕ) × (f q ≡ Some n)
  somebody_has distinct some =
      let k = any_passes (λ s. is_held n (field s)) ps distinct some in
      (k.who, as_is k.who ∙ ap (option_and_then field) k.is ∙ held_is n (field k.kept) k.passes)
