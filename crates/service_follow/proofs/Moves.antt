-- a hall that follows a log goes on, and goes on once more
use Rattle.std.proofs.Common.{◌≡◌, ◌==◌, ◌+◌, ◌⊎◌, if◌then◌else◌, inl, inr, subst, Bool, false, true, ℕ, List, [], ◌∷◌, length, refl, sym, ap, ◌∙◌, arith}
use Rattle.model_asked.specs.declared.config.Config.{Config}
use Rattle.service_log.specs.Places.{Adds, Keeps, Same}
use Rattle.service_log.specs.ReplicaState.{ReplicaState}
use Rattle.service_log.specs.Replicas.{HasAppliedFrom, IsReplicaFrom, StandsFrom}
use Rattle.service_follow.specs.FollowState.{FollowState}
use Rattle.service_follow.specs.Hosted.{AddsWhereApplied, HasMovedOn}
use Rattle.service_follow.specs.Stays.{StayApplies, blind_of, start_of, stays_of}
use Rattle.service_follow.specs.StayState.{StayState}
use Rattle.service_follow.specs.Tellings.{HasToldAlone, IsTelling, IsTold, IsToldAt}
use Rattle.service_follow.specs.Terms.{change_entry}
use Rattle.service_follow.specs.TermsChanges.{HasChangedAlone, IsChange}
use Rattle.service_follow.specs.declared.compaction.Due.{Due}
use Rattle.service_follow.specs.declared.hall_terms.HallTerms.{HallTerms}
use Rattle.service_follow.specs.declared.hall_terms.ToldTerms.{ToldTerms}
use Rattle.service_follow.proofs.Told.{is_telling}

pub moved_self : {S : Type 0} (stands : S → ℕ → List ℕ → Type 0) (a : FollowState S) → HasMovedOn stands a a
moved_self stands a = record { keeps = λ place entry stood. stood; config = refl; from = refl; later = λ well. (well, omega arith) }

pub moved_same : {S : Type 0} (stands : S → ℕ → List ℕ → Type 0) (a b : FollowState S) → b ≡ a → HasMovedOn stands a b
moved_same stands a b is = subst (HasMovedOn stands a) (sym is) (moved_self stands a)

pub moved_then : {S : Type 0} (stands : S → ℕ → List ℕ → Type 0) (a b c : FollowState S) → HasMovedOn stands a b → HasMovedOn stands b c → HasMovedOn stands a c
moved_then stands a b c x y = record {
  keeps = λ place entry stood. y.keeps place entry (x.keeps place entry stood);
  config = y.config ∙ x.config;
  from = y.from ∙ x.from;
  later = λ well. let two = y.later well in let one = x.later two.0 in (one.0, (let p = one.1 in let q = two.1 in omega (arith, p, q)));
}

-- what was applied was of what stands still
stood_still : (first last : ℕ → List ℕ → Type 0) → Keeps first last → (place : ℕ) (es : List (List ℕ)) → StandsFrom first place es → StandsFrom last place es
stood_still first last keeps place [] stood = tt
stood_still first last keeps place (e ∷ es) stood = (keeps place e stood.0, stood_still first last keeps (place + 1) es stood.1)

applied_still : (first last : ℕ → List ℕ → Type 0) → Keeps first last → (from : ℕ) (start : StayState) (r : ReplicaState StayState) → HasAppliedFrom StayApplies first from start r →
    HasAppliedFrom StayApplies last from start r
applied_still first last keeps from start r had = record { entries = had.entries; led = had.led; stood = stood_still first last keeps from had.entries had.stood; count = had.count }

-- what is offered stands at the place of a replica that is well, if it is new
pub placed : (first last : ℕ → List ℕ → Type 0) (from : ℕ) (start : StayState) (r : ReplicaState StayState) (entry : List ℕ) → IsReplicaFrom StayApplies first from start r →
    Adds first r.place entry last → (r.poisoned ≡ true → (place : ℕ) (written : List ℕ) → last place written → first place written) →
    (place : ℕ) (written : List ℕ) → last place written → first place written ⊎ ((r.place ≡ place) × (written ≡ entry) × HasAppliedFrom StayApplies last from start r)
placed first last from start r entry follows adds poisoned place written stood =
    elim r.poisoned as (λ (b : Bool). r.poisoned ≡ b → first place written ⊎ ((r.place ≡ place) × (written ≡ entry) × HasAppliedFrom StayApplies last from start r)) [
      | true ↦ λ is. inl (poisoned is place written stood)
      | false ↦ λ is. elim (adds.only place written stood) [
        | inl before ↦ inl before
        | inr new ↦ inr (sym new.0, new.1, applied_still first last adds.keeps from start r (follows is))
      ]
    ] refl

-- the same, and tells nothing but entries of compactions of its own
pub told_self : {S : Type 0} (stands : S → ℕ → List ℕ → Type 0) (due due' : Due) (token token' : List ℕ) (a : FollowState S) → due' ≡ due → token' ≡ token →
    HasToldAlone stands due due' token token' a a
told_self stands due due' token token' a same is = record { moved = moved_self stands a; alone = λ place entry stood. inl stood; token_is = is; due_is = same }

pub told_same : {S : Type 0} (stands : S → ℕ → List ℕ → Type 0) (due due' : Due) (token token' : List ℕ) (a b : FollowState S) → HasMovedOn stands a b →
    Same (stands a.store) (stands b.store) → due' ≡ due → token' ≡ token → HasToldAlone stands due due' token token' a b
told_same stands due due' token token' a b moved same keeps is = record { moved = moved; alone = λ place entry stood. inl (same.only place entry stood); token_is = is; due_is = keeps }

pub told_one : {S : Type 0} (stands : S → ℕ → List ℕ → Type 0) (due : Due) (token : List ℕ) (a b : FollowState S) (written : List ℕ) → HasMovedOn stands a b →
    AddsWhereApplied stands a b written → length token ≡ 32 → IsTold due token a.stays.machine written → HasToldAlone stands due due token token a b
told_one stands due token a b written moved adds long told = record {
  moved = moved;
  alone = λ place entry stood. elim (adds place entry stood) [
    | inl before ↦ inl before
    | inr new ↦ inr (record {
      telling = subst (IsTelling token) (sym new.1) (is_telling due token a.stays.machine written long told);
      there = a.stays;
      applied = new.2;
      place_is = new.0;
      told = subst (IsTold due token a.stays.machine) (sym new.1) told;
    })
  ];
  token_is = refl;
  due_is = refl;
}

pub told_then : {S : Type 0} (stands : S → ℕ → List ℕ → Type 0) (due due' due'' : Due) (token token' token'' : List ℕ) (a b c : FollowState S) →
    HasToldAlone stands due due' token token' a b → HasToldAlone stands due' due'' token' token'' b c → HasToldAlone stands due due'' token token'' a c
told_then stands due due' due'' token token' token'' a b c x y = record {
  moved = moved_then stands a b c x.moved y.moved;
  alone = λ place entry stood. elim (y.alone place entry stood) [
    | inl before ↦ elim (x.alone place entry before) [
      | inl first ↦ inl first
      | inr new ↦ inr (record {
        telling = new.telling;
        there = new.there;
        applied = subst (λ (n : ℕ). HasAppliedFrom StayApplies (stands c.store) n (start_of c.config n) new.there) (sym y.moved.from)
            (subst (λ (k : Config). HasAppliedFrom StayApplies (stands c.store) b.from (start_of k b.from) new.there) (sym y.moved.config)
            (applied_still (stands b.store) (stands c.store) y.moved.keeps b.from (start_of b.config b.from) new.there new.applied));
        place_is = new.place_is;
        told = new.told;
      })
    ]
    | inr new ↦ inr (subst (λ (d : Due). IsToldAt stands d token c place entry) x.due_is (subst (λ (t : List ℕ). IsToldAt stands due' t c place entry) x.token_is new))
  ];
  token_is = y.token_is ∙ x.token_is;
  due_is = y.due_is ∙ x.due_is;
}

pub told_by : {S : Type 0} (stands : S → ℕ → List ℕ → Type 0) (due due' due'' : Due) (token token' token'' : List ℕ) (a b : FollowState S) → due' ≡ due → token' ≡ token →
    HasToldAlone stands due' due'' token' token'' a b → HasToldAlone stands due due'' token token'' a b
told_by stands due due' due'' token token' token'' a b same is told =
    subst (λ (d : Due). HasToldAlone stands d due'' token token'' a b) same (subst (λ (t : List ℕ). HasToldAlone stands due' due'' t token'' a b) is told)

-- the same, and changes nothing but the terms
pub changed_self : {S : Type 0} (stands : S → ℕ → List ℕ → Type 0) (token token' : List ℕ) (terms terms' : HallTerms) (a : FollowState S) → token' ≡ token → terms' ≡ terms →
    HasChangedAlone stands token token' terms terms' a a
changed_self stands token token' terms terms' a is are = record { moved = moved_self stands a; alone = λ place entry stood. inl stood; token_is = is; terms_are = are }

pub changed_same : {S : Type 0} (stands : S → ℕ → List ℕ → Type 0) (token token' : List ℕ) (terms terms' : HallTerms) (a b : FollowState S) → HasMovedOn stands a b →
    Same (stands a.store) (stands b.store) → token' ≡ token → terms' ≡ terms → HasChangedAlone stands token token' terms terms' a b
changed_same stands token token' terms terms' a b moved same is are = record { moved = moved; alone = λ place entry stood. inl (same.only place entry stood); token_is = is; terms_are = are }

pub is_change : (token entry : List ℕ) (count : ℕ) (told : ToldTerms) → entry ≡ change_entry token count told → IsChange token told.terms entry
is_change token entry count told is = record { count = count; was = told.was; is = is }

pub changed_one : {S : Type 0} (stands : S → ℕ → List ℕ → Type 0) (token : List ℕ) (terms : HallTerms) (a b : FollowState S) (at : ℕ) (written : List ℕ) → HasMovedOn stands a b →
    Adds (stands a.store) at written (stands b.store) → IsChange token terms written → HasChangedAlone stands token token terms terms a b
changed_one stands token terms a b at written moved adds change = record {
  moved = moved;
  alone = λ place entry stood. elim (adds.only place entry stood) [ inl before ↦ inl before | inr new ↦ inr (subst (IsChange token terms) (sym new.1) change) ];
  token_is = refl;
  terms_are = refl;
}

pub changed_then : {S : Type 0} (stands : S → ℕ → List ℕ → Type 0) (token token' token'' : List ℕ) (terms terms' terms'' : HallTerms) (a b c : FollowState S) →
    HasChangedAlone stands token token' terms terms' a b → HasChangedAlone stands token' token'' terms' terms'' b c → HasChangedAlone stands token token'' terms terms'' a c
changed_then stands token token' token'' terms terms' terms'' a b c x y = record {
  moved = moved_then stands a b c x.moved y.moved;
  alone = λ place entry stood. elim (y.alone place entry stood) [
    | inl before ↦ x.alone place entry before
    | inr new ↦ inr (subst (λ (t : List ℕ). IsChange t terms entry) x.token_is (subst (λ (h : HallTerms). IsChange token' h entry) x.terms_are new))
  ];
  token_is = y.token_is ∙ x.token_is;
  terms_are = y.terms_are ∙ x.terms_are;
}

-- with what a hall starts at the first place, and at a later one
pub start_first : (config : Config) (place : ℕ) → (place == 0) ≡ true → stays_of config ≡ start_of config place
start_first config place is = sym (ap (λ (b : Bool). if b then stays_of config else blind_of config) is)

pub start_later : (config : Config) (place : ℕ) → (place == 0) ≡ false → blind_of config ≡ start_of config place
start_later config place is = sym (ap (λ (b : Bool). if b then stays_of config else blind_of config) is)
