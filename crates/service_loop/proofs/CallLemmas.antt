-- seats that are called, one after another
use Rattle.std.proofs.Common.{◌≡◌, ◌⊎◌, inl, inr, ℕ, zero, suc, ◌+◌, ◌<◌, ◌≤◌, List, length, take, get_or, Option, Some, None, refl, sym, subst, ◌∙◌, arith}
use Rattle.std.proofs.lemmas.List.{get_or-take, length-take-le}
use Rattle.service_loop.proofs.Common.{cases_eq, SeatIs, EachIs}
use Rattle.service_loop.specs.Seats.{CallsSome, Seating, Served}
use Rattle.service_loop.specs.ConnectionBuffers.{HasTakenAll}
use Rattle.service_loop.proofs.ReportedLemmas.{IsFirst, last}
use Rattle.service_loop.specs.declared.connection.ConnectionStage.{ConnectionStage}
use Rattle.service_loop.specs.declared.connection.ConnectionStage.TheVariants as stage

-- whoever rests is not due
pub rests_idle : (s : ConnectionStage) → s ≡ stage.Idle → s ≡ stage.Queued → ⊥
rests_idle s rests due = (let e : stage.Idle ≡ stage.Queued = sym rests ∙ due in absurd cc)

-- who is neither due nor has still to send rests
pub rests_else : (s : ConnectionStage) → (s ≡ stage.Queued → ⊥) → (s ≡ stage.Taken → ⊥) → s ≡ stage.Idle
rests_else stage.Idle due taken = refl
rests_else stage.Queued due taken = absurd (due refl)
rests_else stage.Taken due taken = absurd (taken refl)

positive : (n : ℕ) → (n ≡ 0 → ⊥) → 0 < n
positive zero not = absurd (not refl)
positive (suc n) not = omega arith

-- where no more are called, since something is so that is not before the first is called; and where all are
pub calls_some : (ready : List ℕ) (n : ℕ) → n ≤ length ready → (n ≡ 0 → ⊥) → CallsSome ready n
calls_some ready n le not = (le, λ some. positive n not)

pub calls_all : (ready : List ℕ) (n : ℕ) → n ≤ length ready → length ready ≤ n → CallsSome ready n
calls_all ready n le all = (le, λ some. omega (arith, all, some))

module _ {C : Type 0} where
  pub seat_weakens : (P Q : C → Type 0) → ((c : C) → P c → Q c) → (x : Option C) → SeatIs P x → SeatIs Q x
  seat_weakens P Q then None is = tt
  seat_weakens P Q then (Some c) is = then c is

  -- each connection that sits at one of the first so many seats is so
  abbrev pub FirstAre : (C → Type 0) → ℕ → List ℕ → List (Option C) → Type 0
  FirstAre P n keys seats = (i : ℕ) → IsFirst n keys i → SeatIs P (get_or seats i None)

  pub first_none : (P : C → Type 0) (keys : List ℕ) (seats : List (Option C)) → FirstAre P 0 keys seats
  first_none P keys seats i first = absurd (let lt = first.1 in omega (arith, lt))

  -- one more is so, and the others are as they were
  pub first_on : (P : C → Type 0) (n : ℕ) (keys : List ℕ) (seats seats' : List (Option C)) → FirstAre P n keys seats → SeatIs P (get_or seats' (get_or keys n 0) None) →
      ((i : ℕ) → (i ≡ get_or keys n 0 → ⊥) → get_or seats' i None ≡ get_or seats i None) → FirstAre P (n + 1) keys seats'
  first_on P n keys seats seats' so one others i first =
      elim (cases_eq i (get_or keys n 0)) as (λ _. SeatIs P (get_or seats' i None)) [
        | inl same ↦ subst (λ (k : ℕ). SeatIs P (get_or seats' k None)) (sym same) one
        | inr other ↦ subst (λ (x : Option C). SeatIs P x) (sym (others i other)) (so i (last n i first.0 keys first.1 first.2 other))
      ]

  -- all that were called are so
  pub first_called : (P : C → Type 0) (n : ℕ) (keys : List ℕ) (seats : List (Option C)) → n ≤ length keys → FirstAre P n keys seats → EachIs P (take n keys) seats
  first_called P n keys seats le so i among = so i (let lt = among.1 in let len = length-take-le n keys le in
      let below : among.0 < n = omega (arith, lt, len) in (among.0, below, sym (get_or-take n keys among.0 0 below) ∙ among.2))

  pub first_all : (P : C → Type 0) (n : ℕ) (keys : List ℕ) (seats : List (Option C)) → length keys ≤ n → FirstAre P n keys seats → EachIs P keys seats
  first_all P n keys seats le so i among = so i (among.0, (let lt = among.1 in omega (arith, lt, le)), among.2)

  -- so far, where each that was not so at first is, once it was called
  abbrev pub Resting : (P Q : C → Type 0) → ℕ → List ℕ → List (Option C) → Type 0
  Resting P Q n keys seats = EachIs P keys seats × FirstAre Q n keys seats

  pub resting_on : (P Q : C → Type 0) → ((c : C) → Q c → P c) → (n : ℕ) (keys : List ℕ) (seats seats' : List (Option C)) → n < length keys → Resting P Q n keys seats →
      (SeatIs P (get_or seats (get_or keys n 0) None) → SeatIs Q (get_or seats' (get_or keys n 0) None)) →
      ((i : ℕ) → (i ≡ get_or keys n 0 → ⊥) → get_or seats' i None ≡ get_or seats i None) → Resting P Q (n + 1) keys seats'
  resting_on P Q then n keys seats seats' lt so one others =
      let here = one (so.0 (get_or keys n 0) (n, lt, refl)) in (
        λ i among. elim (cases_eq i (get_or keys n 0)) as (λ _. SeatIs P (get_or seats' i None)) [
          | inl same ↦ subst (λ (k : ℕ). SeatIs P (get_or seats' k None)) (sym same) (seat_weakens Q P then (get_or seats' (get_or keys n 0) None) here)
          | inr other ↦ subst (λ (x : Option C). SeatIs P x) (sym (others i other)) (so.0 i among)
        ],
        first_on Q n keys seats seats' so.1 here others,
      )

  -- so far, where whoever is not as before is so
  abbrev pub SameOrIs : (C → Type 0) → List (Option C) → List (Option C) → Type 0
  SameOrIs P seats seats' = (i : ℕ) → (get_or seats' i None ≡ get_or seats i None) ⊎ SeatIs P (get_or seats' i None)

  pub same_on : (P : C → Type 0) (key : ℕ) (seats seats' seats'' : List (Option C)) → SameOrIs P seats seats' → (seats'' ≡ seats') ⊎ SeatIs P (get_or seats'' key None) →
      ((i : ℕ) → (i ≡ key → ⊥) → get_or seats'' i None ≡ get_or seats' i None) → SameOrIs P seats seats''
  same_on P key seats seats' seats'' so (inl same) others i = subst (λ (l : List (Option C)). (get_or l i None ≡ get_or seats i None) ⊎ SeatIs P (get_or l i None)) (sym same) (so i)
  same_on P key seats seats' seats'' so (inr one) others i =
      elim (cases_eq i key) as (λ _. (get_or seats'' i None ≡ get_or seats i None) ⊎ SeatIs P (get_or seats'' i None)) [
        | inl same ↦ inr (subst (λ (k : ℕ). SeatIs P (get_or seats'' k None)) (sym same) one)
        | inr other ↦ subst (λ (x : Option C). (x ≡ get_or seats i None) ⊎ SeatIs P x) (sym (others i other)) (so i)
      ]

  -- whoever was due and is not any more is not as before
  pub same_served : (on : Seating C) (Due : C → Type 0) (keys : List ℕ) (seats seats' : List (Option C)) → EachIs (λ c. Due c → ⊥) keys seats' → SameOrIs (λ c. HasTakenAll (on.buffers c)) seats seats' →
      Served on Due keys seats seats'
  same_served on Due keys seats seats' done so i c among there due = elim (so i) as (λ _. SeatIs (λ d. HasTakenAll (on.buffers d)) (get_or seats' i None)) [
    | inl same ↦ absurd (let not : SeatIs (λ d. Due d → ⊥) (Some c) = subst (λ (x : Option C). SeatIs (λ d. Due d → ⊥) x) (same ∙ there) (done i among) in not due)
    | inr is ↦ is
  ]
