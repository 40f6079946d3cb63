-- what the index of an identity tells of the participants
use Rattle.std.proofs.Common.{◌≡◌, ℕ, ◌<◌, List, Some, None, length, get_or, refl, sym, is_some}
use Rattle.model_steps.proofs.Common.{Participant, index_of, participant_of}
use Rattle.model_steps.specs.Roster.{StandsAt}
use Rattle.model_steps.proofs.cited.Roster as roster

-- a participant stands where its index says, and another of its identity is put there
abbrev pub Found : {P : Type 0} → ℕ → List (Participant P) → ℕ → Participant P → Type 0
Found id ps i p = StandsAt (λ v. v.identity) (λ v. v) id ps i p

pub is_some-index_of : {P : Type 0} (id : ℕ) (ps : List (Participant P)) → is_some (index_of id ps) ≡ is_some (participant_of id ps)
is_some-index_of = roster.is_some-index (λ v. v.identity) (λ v. v)

-- who has no index has not begun
pub none-index_of : {P : Type 0} (id : ℕ) (ps : List (Participant P)) → index_of id ps ≡ None → participant_of id ps ≡ None
none-index_of id ps h = roster.absent (λ v. v.identity) (λ v. v) id ps refl refl (sym h)

pub found : {P : Type 0} (id : ℕ) (ps : List (Participant P)) (i : ℕ) (p : Participant P) → Some i ≡ index_of id ps → p ≡ get_or ps i p → Found id ps i p
found id ps i p h e = roster.found (λ v. v.identity) (λ v. v) id ps i p refl refl h e

pub index_of-below : {P : Type 0} (id : ℕ) (ps : List (Participant P)) (i : ℕ) → Some i ≡ index_of id ps → i < length ps
index_of-below = roster.below (λ v. v.identity) (λ v. v)
