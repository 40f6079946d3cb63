-- the view that a collect shows: each value that it met, under its identity
use Rattle.std.proofs.Common.{◌≡◌, ℕ, suc, ◌+◌, ◌<◌, ◌≤◌, ◌==◌, Bool, true, false, cond, List, [], ◌∷◌, length, get_or, map, drop, drop-cons, Option, Some, None, inl, inr, refl, sym, ap, ◌∙◌, arith, option_map, ◌||◌}
use Rattle.model_snapshot.proofs.Common.{or_left, or_right, eqb_tells, set_at, set_at-other, IsRising, value_of, Record, Sighting}
use Rattle.model_steps.proofs.cited.ViewLemmas.{value_of-inserted, IsRising-inserted, length-inserted}
use Rattle.model_snapshot.specs.declared.sightings.Met.{Met}
use Rattle.model_snapshot.specs.Sightings.{met_in, number_met, sighting_of, with_sighting, carried_over, shown_with, shown_by}
use Rattle.model_snapshot.proofs.Histories.{number, value, value_in}

length_with : (view : List (ℕ × ℕ)) (o : Option Met) → length (shown_with view o) ≤ length view + 1
length_with view None = omega arith
length_with view (Some m) = length-inserted view (m.identity, m.value)

pub length_shown : (view new : List (ℕ × ℕ)) (o : Option Met) → new ≡ shown_with view o → length new ≤ length view + 1
length_shown view new o e = rw e (length_with view o)

-- one more segment is shown
pub shown_next : (view new : List (ℕ × ℕ)) (ss : List Sighting) (i : ℕ) (d : Sighting) → i < length ss → new ≡ shown_with view (get_or ss i d).now → shown_by new (drop (i + 1) ss) ≡ shown_by view (drop i ss)
shown_next view new ss i d inside e =
    let one : suc i ≡ i + 1 = omega arith in
    let cons : drop i ss ≡ get_or ss i d ∷ drop (i + 1) ss = drop-cons ss i d inside ∙ ap (λ (j : ℕ). get_or ss i d ∷ drop j ss) one in
    rw (e, cons) refl

rising_with : (view : List (ℕ × ℕ)) (o : Option Met) → IsRising view → IsRising (shown_with view o)
rising_with view None h = h
rising_with view (Some m) h = IsRising-inserted view (m.identity, m.value) h

pub shown_rising : (view : List (ℕ × ℕ)) (ss : List Sighting) → IsRising view → IsRising (shown_by view ss)
shown_rising view [] h = h
shown_rising view (s ∷ ss) h = shown_rising (shown_with view s.now) ss (rising_with view s.now h)

-- what was met at x is what was seen there
abbrev pub WasMet : (ℕ → Option Record) → ℕ → Option Met → Type 0
WasMet seen x None = Unit {0}
WasMet seen x (Some m) = (r : Record) × (seen x ≡ Some r) × (met_in r ≡ m)

abbrev pub AreMet : (ℕ → Option Record) → List Sighting → Type 0
AreMet seen [] = Unit {0}
AreMet seen (s ∷ ss) = WasMet seen s.place s.now × AreMet seen ss

-- as the next collect begins nothing was met
pub met-carried : (seen : ℕ → Option Record) (ss : List Sighting) → AreMet seen (map carried_over ss)
met-carried seen [] = tt
met-carried seen (s ∷ ss) = (tt, met-carried seen ss)

was_met-set : (seen : ℕ → Option Record) (x : ℕ) (r : Record) → seen x ≡ None → (y : ℕ) (o : Option Met) → WasMet seen y o → WasMet (set_at seen x (Some r)) y o
was_met-set seen x r unseen y None h = tt
was_met-set seen x r unseen y (Some m) h = elim (eqb_tells y x) [
  | inl e ↦ absurd (let k : None ≡ Some h.0 = sym unseen ∙ ap seen (sym e.1) ∙ h.1 in cc)
  | inr e ↦ (h.0, set_at-other seen x (Some r) y e.1 ∙ h.1, h.2)
]

-- where a segment that was not seen is seen, what was met before stands
pub met-set : (seen : ℕ → Option Record) (x : ℕ) (r : Record) → seen x ≡ None → (ss : List Sighting) → AreMet seen ss → AreMet (set_at seen x (Some r)) ss
met-set seen x r unseen [] h = tt
met-set seen x r unseen (s ∷ ss) h = (was_met-set seen x r unseen s.place s.now h.0, met-set seen x r unseen ss h.1)

pub met-with : (seen : ℕ → Option Record) (new : Sighting) (ss : List Sighting) → WasMet seen new.place new.now → AreMet seen ss → AreMet seen (with_sighting new ss)
met-with seen new [] w h = (w, tt)
met-with seen new (s ∷ ss) w h = elim (eqb_tells s.place new.place) [
  | inl e ↦ rw e.0 (w, h.1)
  | inr e ↦ rw e.0 (h.0, met-with seen new ss w h.1)
]

-- the sequence number of what was met is that of what was seen
pub number_met-is : (o : Option Record) → number_met (option_map met_in o) ≡ number o
number_met-is None = refl
number_met-is (Some r) = refl

-- what was met agrees with the values of identities
abbrev Agrees : (ℕ → Option ℕ) → Option Met → Type 0
Agrees f None = Unit {0}
Agrees f (Some m) = f m.identity ≡ Some m.value

abbrev AllAgree : (ℕ → Option ℕ) → List Sighting → Type 0
AllAgree f [] = Unit {0}
AllAgree f (s ∷ ss) = Agrees f s.now × AllAgree f ss

abbrev is_of : ℕ → Option Met → Bool
is_of q None = false
is_of q (Some m) = m.identity == q

-- whether a record of this identity was met
abbrev was_met_of : ℕ → List Sighting → Bool
was_met_of q [] = false
was_met_of q (s ∷ ss) = is_of q s.now || was_met_of q ss

either : {X : Type 0} (a b : Bool) (x y : X) → cond b x (cond a x y) ≡ cond (a || b) x y
either true true x y = refl
either true false x y = refl
either false true x y = refl
either false false x y = refl

value_with : (f : ℕ → Option ℕ) (q : ℕ) (view : List (ℕ × ℕ)) (o : Option Met) → Agrees f o → value_of q (shown_with view o) ≡ cond (is_of q o) (f q) (value_of q view)
value_with f q view None h = refl
value_with f q view (Some m) h = value_of-inserted q view (m.identity, m.value) ∙ (elim (eqb_tells m.identity q) [
  | inl e ↦ rw e.0 (sym h ∙ ap f e.1)
  | inr e ↦ rw e.0 refl
])

value_shown : (f : ℕ → Option ℕ) (q : ℕ) (view : List (ℕ × ℕ)) (ss : List Sighting) → AllAgree f ss → value_of q (shown_by view ss) ≡ cond (was_met_of q ss) (f q) (value_of q view)
value_shown f q view [] h = refl
value_shown f q view (s ∷ ss) h =
    value_shown f q (shown_with view s.now) ss h.1
    ∙ ap (λ (o : Option ℕ). cond (was_met_of q ss) (f q) o) (value_with f q view s.now h.0)
    ∙ either (is_of q s.now) (was_met_of q ss) (f q) (value_of q view)

met_of : (q y : ℕ) (m : Met) (ss : List Sighting) → (sighting_of y ss).now ≡ Some m → m.identity ≡ q → was_met_of q ss ≡ true
met_of q y m [] h e = absurd (cc)
met_of q y m (s ∷ ss) h e = elim (eqb_tells s.place y) [
  | inl u ↦
      let now : s.now ≡ Some m = rw u.0 at h in
      let own : (m.identity == q) ≡ true = (elim (eqb_tells m.identity q) [ inl k ↦ k.0 | inr k ↦ absurd (k.1 e) ]) in
      or_left (is_of q s.now) (was_met_of q ss) (ap (is_of q) now ∙ own)
  | inr u ↦ let rest : (sighting_of y ss).now ≡ Some m = rw u.0 at h in or_right (is_of q s.now) (was_met_of q ss) (met_of q y m ss rest e)
]

module _ (seen : ℕ → Option Record) (place : ℕ → Option ℕ) (owner : (x : ℕ) (r : Record) → seen x ≡ Some r → place r.identity ≡ Some x) (distinct : (p q x : ℕ) → place p ≡ Some x → place q ≡ Some x → p ≡ q) where
  agrees : (x : ℕ) (o : Option Met) → WasMet seen x o → Agrees (λ q. value_in seen (place q)) o
  agrees x None h = tt
  agrees x (Some m) h =
      let identity : h.0.identity ≡ m.identity = ap (λ (n : Met). n.identity) h.2 in
      let worth : Some h.0.value ≡ Some m.value = ap (λ (n : Met). Some n.value) h.2 in
      let there : place m.identity ≡ Some x = ap place (sym identity) ∙ owner x h.0 h.1 in
      ap (value_in seen) there ∙ ap value h.1 ∙ worth

  all_agree : (ss : List Sighting) → AreMet seen ss → AllAgree (λ q. value_in seen (place q)) ss
  all_agree [] h = tt
  all_agree (s ∷ ss) h = (agrees s.place s.now h.0, all_agree ss h.1)

  -- whose segment was not met has no value
  not_met : (q : ℕ) (ss : List Sighting) → ((x : ℕ) → (sighting_of x ss).now ≡ option_map met_in (seen x)) → was_met_of q ss ≡ false → (o : Option ℕ) → place q ≡ o → value_in seen o ≡ None
  not_met q ss now never None there = refl
  not_met q ss now never (Some y) there = elim (seen y) as (λ o. seen y ≡ o → value o ≡ None) [
    | None ↦ λ _. refl
    | Some r ↦ λ some. absurd (
        let own : r.identity ≡ q = distinct r.identity q y (owner y r some) there in
        let met : was_met_of q ss ≡ true = met_of q y (met_in r) ss (now y ∙ ap (option_map met_in) some) own in
        let both : true ≡ false = sym met ∙ never in
        cc)
  ] refl

  -- the view shows of each identity what was seen at its place
  pub shown_is : (ss : List Sighting) → ((x : ℕ) → (sighting_of x ss).now ≡ option_map met_in (seen x)) → AreMet seen ss → (q : ℕ) → value_of q (shown_by [] ss) ≡ value_in seen (place q)
  shown_is ss now met q =
      value_shown (λ p. value_in seen (place p)) q [] ss (all_agree ss met)
      ∙ elim (was_met_of q ss) as (λ b. was_met_of q ss ≡ b → cond b (value_in seen (place q)) None ≡ value_in seen (place q)) [
        | true ↦ λ _. refl
        | false ↦ λ never. sym (not_met q ss now never (place q) refl)
      ] refl
