-- who has begun, after a call
use Rattle.std.proofs.Common.{◌≡◌, ◌<◌, ℕ, suc, cond, length, arith, true, false, ◌==◌, List, [], ◌∷◌, ◌++◌, Some, None, inl, inr, refl, sym, ap, ◌∙◌, is_some, option_map}
use Rattle.model_steps.proofs.Common.{eqb_tells, Participant, participant_of, with_participant, beginner, WorldState, set_at}
use Rattle.model_steps.specs.World.{after_asked, after_asked_by, after_set}
use Rattle.model_steps.proofs.cited.Roster as roster

-- one more at the end, whose identity was not there
pub participant_of-push : {P : Type 0} (ps : List (Participant P)) (new : Participant P) → participant_of new.identity ps ≡ None → (q : ℕ) → participant_of q (ps ++ new ∷ []) ≡ set_at (λ v. participant_of v ps) new.identity (Some new) q
participant_of-push = roster.seen-push (λ v. v.identity) (λ v. v)

-- one put in the place of the one of its identity
pub participant_of-put : {P : Type 0} (ps : List (Participant P)) (new : Participant P) → is_some (participant_of new.identity ps) ≡ true → (q : ℕ) → participant_of q (with_participant new ps) ≡ set_at (λ v. participant_of v ps) new.identity (Some new) q
participant_of-put = roster.seen-put (λ v. v.identity) (λ v. v)

-- nothing is put in the place of one who is not there
pub with_participant-absent : {P : Type 0} (ps : List (Participant P)) (new : Participant P) → participant_of new.identity ps ≡ None → with_participant new ps ≡ ps
with_participant-absent [] new h = refl
with_participant-absent (p ∷ ps) new h =
    elim (eqb_tells p.identity new.identity) [
      | inl w ↦ absurd (let k : Some p ≡ None = rw w.0 at h in cc)
      | inr w ↦ rw w.0 (ap (λ xs. p ∷ xs) (with_participant-absent ps new (rw w.0 at h)))
    ]

-- whoever is asked for a program, whatever its own was, has this one
pub asked_anything : {S P : Type 0} (w : WorldState S P) (id : ℕ) (program : P) → after_asked (λ _. program) w id ≡ after_set w id program
asked_anything w id program = elim (participant_of id w.participants) as (λ o. participant_of id w.participants ≡ o → after_asked_by (λ _. program) w id (option_map (λ v. v.program) o) ≡ after_set w id program) [
  | None ↦ λ e. ap (λ ps. record w { participants = ps }) (sym (with_participant-absent w.participants (beginner id program) e))
  | Some v ↦ λ e. refl
] refl

-- the participant of an identity has that identity
pub identity_of : {P : Type 0} (id : ℕ) (ps : List (Participant P)) (v : Participant P) → participant_of id ps ≡ Some v → v.identity ≡ id
identity_of id [] v h = absurd (cc)
identity_of id (p ∷ ps) v h =
    elim (eqb_tells p.identity id) [
      | inl w ↦ let own : Some p ≡ Some v = rw w.0 at h in let same : p ≡ v = cc in ap (λ u. u.identity) (sym same) ∙ w.1
      | inr w ↦ identity_of id ps v (rw w.0 at h)
    ]

pub length-with_participant : {P : Type 0} (ps : List (Participant P)) (new : Participant P) → length (with_participant new ps) ≡ length ps
length-with_participant [] new = refl
length-with_participant (p ∷ ps) new = elim (p.identity == new.identity) as (λ b. length (cond b (new ∷ ps) (p ∷ with_participant new ps)) ≡ length (p ∷ ps)) [ true ↦ refl | false ↦ ap suc (length-with_participant ps new) ]

-- where one has begun, some have
pub some_begun : {P : Type 0} (id : ℕ) (ps : List (Participant P)) (v : Participant P) → participant_of id ps ≡ Some v → 0 < length ps
some_begun id [] v there = absurd (cc)
some_begun id (p ∷ ps) v there = omega arith
