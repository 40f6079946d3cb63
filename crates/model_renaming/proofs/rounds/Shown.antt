-- the proposals that stand in the memory, and who has a name, by the rounds
use Rattle.std.proofs.Common.{suc, ◌<◌, get_or, drop, drop-cons, ◌≡◌, ◌≢◌, ℕ, ◌+◌, ◌≤◌, ◌==◌, true, false, cond, List, [], ◌∷◌, length, Option, Some, None, inl, inr, refl, sym, ap, ◌∙◌, arith, option_map, option_and_then}
use Rattle.model_renaming.proofs.Common.{eqb_tells, Participant, AreDistinct, participant_of, program_of, IsRising, value_of, Round, RoundStage, Settled}
use Rattle.model_steps.proofs.cited.ViewLemmas.{IsRising-inserted, value_of-inserted, length-inserted}
use Rattle.model_renaming.specs.RenameWorld.{name_by, owner_by, shown_with, shown_by}
use Rattle.model_renaming.specs.Round.{name_at, has_name, standing_by}

-- the proposal of an identity that stands in the memory
abbrev pub standing_of : ℕ → List (Participant Round) → Option ℕ
standing_of q vs = option_and_then standing_by (program_of q vs)

abbrev pub or_else : Option ℕ → Option ℕ → Option ℕ
or_else None other = other
or_else (Some n) other = Some n

rising_with : (view : List (ℕ × ℕ)) (id : ℕ) (o : Option ℕ) → IsRising view → IsRising (shown_with view id o)
rising_with view id None h = h
rising_with view id (Some n) h = IsRising-inserted view (id, n) h

pub shown_rising : (view : List (ℕ × ℕ)) (vs : List (Participant Round)) → IsRising view → IsRising (shown_by view vs)
shown_rising view [] h = h
shown_rising view (v ∷ vs) h = shown_rising (shown_with view v.identity (standing_by v.program)) vs (rising_with view v.identity (standing_by v.program) h)

length_with : (view : List (ℕ × ℕ)) (id : ℕ) (o : Option ℕ) → length (shown_with view id o) ≤ length view + 1
length_with view id None = omega arith
length_with view id (Some n) = length-inserted view (id, n)

-- its own value, and that of another
value_own : (view : List (ℕ × ℕ)) (id : ℕ) (o : Option ℕ) → value_of id (shown_with view id o) ≡ or_else o (value_of id view)
value_own view id None = refl
value_own view id (Some n) =
    let same : (id == id) ≡ true = (elim (eqb_tells id id) [ inl u ↦ u.0 | inr u ↦ absurd (u.1 refl) ]) in
    value_of-inserted id view (id, n) ∙ rw same refl

value_other : (view : List (ℕ × ℕ)) (id q : ℕ) (o : Option ℕ) → (id == q) ≡ false → value_of q (shown_with view id o) ≡ value_of q view
value_other view id q None h = refl
value_other view id q (Some n) h = value_of-inserted q view (id, n) ∙ rw h refl

-- the value of an identity is the proposal that its round says
pub shown_value : (q : ℕ) (view : List (ℕ × ℕ)) (vs : List (Participant Round)) → AreDistinct vs → value_of q (shown_by view vs) ≡ or_else (standing_of q vs) (value_of q view)
shown_value q view [] d = refl
shown_value q view (v ∷ vs) d =
    let with_v : List (ℕ × ℕ) = shown_with view v.identity (standing_by v.program) in
    let rest = shown_value q with_v vs d.1 in
    elim (eqb_tells v.identity q) [
      | inl e ↦
          let absent : participant_of q vs ≡ None = ap (λ (x : ℕ). participant_of x vs) (sym e.1) ∙ d.0 in
          let none : standing_of q vs ≡ None = rw absent refl in
          let own : value_of q with_v ≡ or_else (standing_by v.program) (value_of q view) = (rw (← e.1) (value_own view v.identity (standing_by v.program))) in
          let head : standing_of q (v ∷ vs) ≡ standing_by v.program = rw e.0 refl in
          rest ∙ ap (λ (x : Option ℕ). or_else x (value_of q with_v)) none ∙ own ∙ ap (λ (x : Option ℕ). or_else x (value_of q view)) (sym head)
      | inr e ↦
          let head : standing_of q (v ∷ vs) ≡ standing_of q vs = rw e.0 refl in
          rest ∙ ap (or_else (standing_of q vs)) (value_other view v.identity q (standing_by v.program) e.0) ∙ ap (λ (x : Option ℕ). or_else x (value_of q view)) (sym head)
    ]

or_none : (o : Option ℕ) → or_else o None ≡ o
or_none None = refl
or_none (Some n) = refl

-- and none where there was none
pub shown_is : (q : ℕ) (vs : List (Participant Round)) → AreDistinct vs → value_of q (shown_by [] vs) ≡ standing_of q vs
shown_is q vs d = shown_value q [] vs d ∙ or_none (standing_of q vs)

-- a round has a name where it has ended with it
named_at : (stage : RoundStage) (proposal n : ℕ) → has_name stage proposal n ≡ true → name_at stage proposal ≡ Some n
named_at Settled proposal n h = elim (eqb_tells proposal n) [ inl e ↦ ap Some e.1 | inr e ↦ absurd (let no : true ≡ false = sym h ∙ e.0 in cc) ]
named_at stage proposal n h = absurd (cc)

unnamed_at : (stage : RoundStage) (proposal n : ℕ) → has_name stage proposal n ≡ false → name_at stage proposal ≢ Some n
unnamed_at Settled proposal n h e = elim (eqb_tells proposal n) [ inl f ↦ absurd (let no : false ≡ true = sym h ∙ f.0 in cc) | inr f ↦ f.1 (cc) ]
unnamed_at stage proposal n h e = absurd (cc)

abbrev pub name_of : ℕ → List (Participant Round) → Option ℕ
name_of q vs = name_by (program_of q vs)

-- who is found as the owner of a name has it, and where none is found no one has it
abbrev pub Owns : (ℕ → Option ℕ) → ℕ → Option ℕ → Type 0
Owns name n None = (q : ℕ) → name q ≢ Some n
Owns name n (Some p) = name p ≡ Some n

-- who is not at the head is looked for behind it
behind : (v : Participant Round) (vs : List (Participant Round)) (n : ℕ) (o : Option ℕ) → participant_of v.identity vs ≡ None → name_at v.program.stage v.program.proposal ≢ Some n → Owns (λ q. name_of q vs) n o → Owns (λ q. name_of q (v ∷ vs)) n o
behind v vs n None absent not h = λ q. elim (eqb_tells v.identity q) [
  | inl e ↦ rw e.0 not
  | inr e ↦ rw e.0 (h q)
]
behind v vs n (Some p) absent not h = elim (eqb_tells v.identity p) [
  | inl e ↦ absurd (
      let gone : participant_of p vs ≡ None = ap (λ (x : ℕ). participant_of x vs) (sym e.1) ∙ absent in
      let no : None ≡ Some n = sym (ap (λ (z : Option (Participant Round)). name_by (option_map (λ u. u.program) z)) gone) ∙ h in
      cc)
  | inr e ↦ rw e.0 h
]

pub owner_is : (n : ℕ) (vs : List (Participant Round)) → AreDistinct vs → Owns (λ q. name_of q vs) n (owner_by n vs)
owner_is n [] d = λ q e. absurd (cc)
owner_is n (v ∷ vs) d = elim (has_name v.program.stage v.program.proposal n) as (λ b. has_name v.program.stage v.program.proposal n ≡ b → Owns (λ q. name_of q (v ∷ vs)) n (cond b (Some v.identity) (owner_by n vs))) [
  | true ↦ λ h.
      let same : (v.identity == v.identity) ≡ true = (elim (eqb_tells v.identity v.identity) [ inl u ↦ u.0 | inr u ↦ absurd (u.1 refl) ]) in
      rw same (named_at v.program.stage v.program.proposal n h)
  | false ↦ λ h. behind v vs n (owner_by n vs) d.0 (unnamed_at v.program.stage v.program.proposal n h) (owner_is n vs d.1)
] refl

pub length_shown : (view new : List (ℕ × ℕ)) (id : ℕ) (o : Option ℕ) → new ≡ shown_with view id o → length new ≤ length view + 1
length_shown view new id o e = rw e (length_with view id o)

-- one more proposal is shown
pub shown_next : (view new : List (ℕ × ℕ)) (vs : List (Participant Round)) (i : ℕ) (d : Participant Round) → i < length vs →
    new ≡ shown_with view (get_or vs i d).identity (standing_by (get_or vs i d).program) → shown_by new (drop (i + 1) vs) ≡ shown_by view (drop i vs)
shown_next view new vs i d inside e =
    let one : suc i ≡ i + 1 = omega arith in
    let cons : drop i vs ≡ get_or vs i d ∷ drop (i + 1) vs = drop-cons vs i d inside ∙ ap (λ (j : ℕ). get_or vs i d ∷ drop j vs) one in
    rw (e, cons) refl
