-- what is known of segments, by their places
use Rattle.std.proofs.Common.{◌≡◌, ℕ, zero, suc, ◌+◌, ◌<◌, ◌==◌, Bool, true, false, cond, List, [], ◌∷◌, ◌++◌, Option, Some, None, inl, inr, length, get_or, set, map, refl, sym, ap, subst, ◌∙◌, arith, add-one, option_map, is_some, nat_lt, ◌||◌}
use Rattle.model_snapshot.proofs.Common.{set_at, Sighting}
use Rattle.std.proofs.lemmas.Bool.Decides.{Decides-eqb, eqb_tells}
use Rattle.model_snapshot.specs.Sightings.{unknown, sighting_of, index_of, AreDistinct, with_sighting, noted, carried_over}

-- a segment is noted where its index says, and is noted there anew
pub record IsNotedAt (place : ℕ) (ss : List Sighting) (i : ℕ) : Type 0 where
  pub inside : i < length ss
  pub is : (d : Sighting) → get_or ss i d ≡ sighting_of place ss
  pub put : (new : Sighting) → new.place ≡ place → with_sighting new ss ≡ set ss i new

noted_here : (place : ℕ) (s : Sighting) (ss : List Sighting) → (s.place == place) ≡ true → IsNotedAt place (s ∷ ss) 0
noted_here place s ss e = record {
  inside = omega arith;
  is = λ d. rw e refl;
  put = λ new h. let same : (s.place == new.place) ≡ true = rw h e in rw same refl;
}

noted_there : (place : ℕ) (s : Sighting) (ss : List Sighting) (i : ℕ) → (s.place == place) ≡ false → IsNotedAt place ss i → IsNotedAt place (s ∷ ss) (suc i)
noted_there place s ss i e f = record {
  inside = omega (arith, f.inside);
  is = λ d. rw e (f.is d);
  put = λ new h. let other : (s.place == new.place) ≡ false = rw h e in rw other (ap (λ xs. s ∷ xs) (f.put new h));
}

noted_next : (place : ℕ) (s : Sighting) (ss : List Sighting) (at : Option ℕ) (i : ℕ) → (s.place == place) ≡ false → ((k : ℕ) → at ≡ Some k → IsNotedAt place ss k) → option_map (λ k. k + 1) at ≡ Some i → IsNotedAt place (s ∷ ss) i
noted_next place s ss None i e f h = absurd (cc)
noted_next place s ss (Some k) i e f h =
    let next : suc k ≡ i = sym (add-one k) ∙ (let e : k + 1 ≡ i = cc in e) in
    subst (λ (n : ℕ). IsNotedAt place (s ∷ ss) n) next (noted_there place s ss k e (f k refl))

pub noted_at : (place : ℕ) (ss : List Sighting) (i : ℕ) → index_of place ss ≡ Some i → IsNotedAt place ss i
noted_at place [] i h = absurd (cc)
noted_at place (s ∷ ss) i h =
    elim (s.place == place) as (λ b. (s.place == place) ≡ b → cond b (Some 0) (option_map (λ k. k + 1) (index_of place ss)) ≡ Some i → IsNotedAt place (s ∷ ss) i) [
      | true ↦ λ e h. let zero : 0 ≡ i = cc in subst (λ (n : ℕ). IsNotedAt place (s ∷ ss) n) zero (noted_here place s ss e)
      | false ↦ λ e h. noted_next place s ss (index_of place ss) i e (noted_at place ss) h
    ]
    refl h

no_more : (o : Option ℕ) → option_map (λ k. k + 1) o ≡ None → o ≡ None
no_more None h = refl
no_more (Some k) h = absurd (cc)

-- of a segment that is not noted nothing is known, and it is noted at the end
pub record IsNotNoted (place : ℕ) (ss : List Sighting) : Type 0 where
  pub is : sighting_of place ss ≡ unknown place
  pub put : (new : Sighting) → new.place ≡ place → with_sighting new ss ≡ ss ++ new ∷ []

pub not_noted : (place : ℕ) (ss : List Sighting) → index_of place ss ≡ None → IsNotNoted place ss
not_noted place [] h = record { is = refl; put = λ new e. refl }
not_noted place (s ∷ ss) h =
    elim (eqb_tells s.place place) [
      | inl w ↦ absurd (let k : Some 0 ≡ None = rw w.0 at h in cc)
      | inr w ↦
          let rest : IsNotNoted place ss = not_noted place ss (no_more (index_of place ss) (rw w.0 at h)) in
          record {
            is = rw w.0 rest.is;
            put = λ new e. let other : (s.place == new.place) ≡ false = rw e w.0 in rw other (ap (λ xs. s ∷ xs) (rest.put new e));
          }
    ]

-- a segment that is noted is noted anew
pub noted-some : (new : Sighting) (ss : List Sighting) (i : ℕ) → index_of new.place ss ≡ Some i → noted new ss ≡ set ss i new
noted-some new ss i h = rw h ((noted_at new.place ss i h).put new refl)

-- one more is noted where there is room
pub noted-none : (new : Sighting) (ss : List Sighting) → index_of new.place ss ≡ None → length ss < 64 → noted new ss ≡ ss ++ new ∷ []
noted-none new ss h l = let room : nat_lt (length ss) 64 ≡ true = grind arith in rw (h, room) ((not_noted new.place ss h).put new refl)

-- whether a segment is noted
abbrev pub is_known : List Sighting → ℕ → Bool
is_known ss place = is_some (index_of place ss)

known_there : (o : Option ℕ) → is_some (option_map (λ k. k + 1) o) ≡ is_some o
known_there None = refl
known_there (Some k) = refl

turn : (a b : ℕ) → (a == b) ≡ (b == a)
turn a b = elim (eqb_tells a b) [
  | inl e ↦ e.0 ∙ sym ((Decides-eqb b a).1 (sym e.1))
  | inr e ↦ elim (eqb_tells b a) [ inl f ↦ absurd (e.1 (sym f.1)) | inr f ↦ e.0 ∙ sym f.0 ]
]

-- what the first of a place tells, after another place, or itself, was noted
reported-with : {X : Type 0} (reported : List Sighting → ℕ → X) (tells : Sighting → X) → ((s : Sighting) (ss : List Sighting) (x : ℕ) → reported (s ∷ ss) x ≡ cond (s.place == x) (tells s) (reported ss x)) →
    (new : Sighting) (ss : List Sighting) (x : ℕ) → reported (with_sighting new ss) x ≡ set_at (reported ss) new.place (tells new) x
reported-with reported tells first new [] x = rw (turn x new.place) (first new [] x)
reported-with reported tells first new (s ∷ ss) x = rw (turn x new.place) (elim (eqb_tells s.place new.place) [
  | inl e ↦ rw (e.0, first new ss x, first s ss x, e.1) (elim (eqb_tells new.place x) [ inl g ↦ rw g.0 refl | inr g ↦ rw g.0 refl ])
  | inr e ↦ rw (e.0, first s (with_sighting new ss) x, first s ss x, reported-with reported tells first new ss x, turn x new.place) (elim (eqb_tells s.place x) [
    | inl f ↦ elim (eqb_tells new.place x) [ inl g ↦ absurd (e.1 (f.1 ∙ sym g.1)) | inr g ↦ rw (f.0, g.0) refl ]
    | inr f ↦ rw f.0 refl
  ])
])

pub sighting_of-with : (new : Sighting) (ss : List Sighting) (x : ℕ) → sighting_of x (with_sighting new ss) ≡ set_at (λ y. sighting_of y ss) new.place new x
sighting_of-with = reported-with (λ ss x. sighting_of x ss) (λ s. s) (λ s ss x. refl)

pub is_known-with : (new : Sighting) (ss : List Sighting) (x : ℕ) → is_known (with_sighting new ss) x ≡ set_at (is_known ss) new.place true x
is_known-with = reported-with is_known (λ s. true) (λ s ss x. elim (s.place == x) as (λ b. is_some (cond b (Some 0) (option_map (λ k. k + 1) (index_of x ss))) ≡ cond b true (is_known ss x)) [ true ↦ refl | false ↦ known_there (index_of x ss) ])

pub length-with-known : (new : Sighting) (ss : List Sighting) → is_known ss new.place ≡ true → length (with_sighting new ss) ≡ length ss
length-with-known new [] h = absurd (cc)
length-with-known new (s ∷ ss) h = elim (eqb_tells s.place new.place) [
  | inl e ↦ rw e.0 refl
  | inr e ↦ let rest : is_known ss new.place ≡ true = sym (known_there (index_of new.place ss)) ∙ (rw e.0 at h) in rw e.0 (ap suc (length-with-known new ss rest))
]

pub length-with-unknown : (new : Sighting) (ss : List Sighting) → is_known ss new.place ≡ false → length (with_sighting new ss) ≡ length ss + 1
length-with-unknown new [] h = refl
length-with-unknown new (s ∷ ss) h = elim (eqb_tells s.place new.place) [
  | inl e ↦ absurd (let k : true ≡ false = rw e.0 at h in cc)
  | inr e ↦ let rest : is_known ss new.place ≡ false = sym (known_there (index_of new.place ss)) ∙ (rw e.0 at h) in rw e.0 (let i = length-with-unknown new ss rest in omega arith)
]

pub noted-known : (new : Sighting) (ss : List Sighting) → is_known ss new.place ≡ true → noted new ss ≡ with_sighting new ss
noted-known new ss h = rw h refl

pub noted-room : (new : Sighting) (ss : List Sighting) → length ss < 64 → noted new ss ≡ with_sighting new ss
noted-room new ss l =
    let room : nat_lt (length ss) 64 ≡ true = grind arith in
    elim (is_known ss new.place) as (λ b. cond (b || nat_lt (length ss) 64) (with_sighting new ss) ss ≡ with_sighting new ss) [ true ↦ refl | false ↦ rw room refl ]

-- what is known as the next collect begins
pub sighting_of-carried : (ss : List Sighting) (x : ℕ) → sighting_of x (map carried_over ss) ≡ carried_over (sighting_of x ss)
sighting_of-carried [] x = refl
sighting_of-carried (s ∷ ss) x = elim (eqb_tells s.place x) [ inl e ↦ rw e.0 refl | inr e ↦ rw e.0 (sighting_of-carried ss x) ]

pub is_known-carried : (ss : List Sighting) (x : ℕ) → is_known (map carried_over ss) x ≡ is_known ss x
is_known-carried [] x = refl
is_known-carried (s ∷ ss) x = elim (eqb_tells s.place x) [ inl e ↦ rw e.0 refl | inr e ↦ rw e.0 (known_there (index_of x (map carried_over ss)) ∙ is_known-carried ss x ∙ sym (known_there (index_of x ss))) ]

-- no place stands twice after another, or itself, was noted
distinct-with : (new : Sighting) (ss : List Sighting) → AreDistinct ss → AreDistinct (with_sighting new ss)
distinct-with new [] d = (refl, tt)
distinct-with new (s ∷ ss) d = elim (eqb_tells s.place new.place) [
  | inl e ↦ rw e.0 (ap (is_known ss) (sym e.1) ∙ d.0, d.1)
  | inr e ↦ rw e.0 (is_known-with new ss s.place ∙ rw e.0 d.0, distinct-with new ss d.1)
]

pub distinct-noted : (new : Sighting) (ss : List Sighting) → AreDistinct ss → AreDistinct (noted new ss)
distinct-noted new ss d =
    elim (is_known ss new.place || nat_lt (length ss) 64) as (λ b. AreDistinct (cond b (with_sighting new ss) ss)) [ true ↦ distinct-with new ss d | false ↦ d ]

pub distinct-carried : (ss : List Sighting) → AreDistinct ss → AreDistinct (map carried_over ss)
distinct-carried [] d = tt
distinct-carried (s ∷ ss) d = (is_known-carried ss s.place ∙ d.0, distinct-carried ss d.1)

-- where no place stands twice, each segment is found where it is noted
pub index_of-distinct : (ss : List Sighting) (i : ℕ) (d : Sighting) → AreDistinct ss → i < length ss → index_of (get_or ss i d).place ss ≡ Some i
index_of-distinct [] i d h l = absurd (omega (arith, l))
index_of-distinct (s ∷ ss) zero d h l = let own : (s.place == s.place) ≡ true = (Decides-eqb s.place s.place).1 refl in rw own refl
index_of-distinct (s ∷ ss) (suc i) d h l =
    let rest : index_of (get_or ss i d).place ss ≡ Some i = index_of-distinct ss i d h.1 (omega (arith, l)) in
    elim (eqb_tells s.place (get_or ss i d).place) [
      | inl e ↦ absurd (let found : index_of s.place ss ≡ Some i = ap (λ p. index_of p ss) e.1 ∙ rest in let no : true ≡ false = rw found at h.0 in cc)
      | inr e ↦ rw (e.0, rest) (ap (λ (n : ℕ). Some n) (add-one i))
    ]
