-- the identities of participants, and that they are distinct
use Rattle.std.proofs.Common.{◌≡◌, ◌≢◌, ◌<◌, ℕ, zero, suc, ◌==◌, true, false, List, [], ◌∷◌, ◌++◌, Some, None, length, get_or, set, inl, inr, refl, sym, ap, ◌∙◌, arith, add-one, is_some}
use Rattle.model_steps.proofs.Common.{eqb_tells, Participant}
use Rattle.model_steps.specs.Participant.{AreDistinct, identities, index_of, participant_of, with_participant}
use Rattle.model_steps.proofs.cited.Found.{Found, is_some-index_of}
use Rattle.model_steps.proofs.cited.Roster as roster

-- who is not found is not found where another was put in
absent_put : {P : Type 0} (id : ℕ) (vs : List (Participant P)) (new : Participant P) → participant_of id vs ≡ None → participant_of id (with_participant new vs) ≡ None
absent_put id [] new h = refl
absent_put id (v ∷ vs) new h = elim (eqb_tells v.identity id) [
  | inl e ↦ absurd (let no : Some v ≡ None = rw e.0 at h in cc)
  | inr e ↦ let rest : participant_of id vs ≡ None = rw e.0 at h in elim (eqb_tells v.identity new.identity) [
    | inl f ↦
        let other : (new.identity == id) ≡ false = (elim (eqb_tells new.identity id) [ inl g ↦ absurd (e.1 (f.1 ∙ g.1)) | inr g ↦ g.0 ]) in
        rw (f.0, other) rest
    | inr f ↦ rw (f.0, e.0) (absent_put id vs new rest)
  ]
]

pub distinct_put : {P : Type 0} (vs : List (Participant P)) (new : Participant P) → AreDistinct vs → AreDistinct (with_participant new vs)
distinct_put [] new h = tt
distinct_put (v ∷ vs) new h = elim (eqb_tells v.identity new.identity) [
  | inl e ↦ rw e.0 (ap (λ (id : ℕ). participant_of id vs) (sym e.1) ∙ h.0, h.1)
  | inr e ↦ rw e.0 (absent_put v.identity vs new h.0, distinct_put vs new h.1)
]

-- who is not found is not found behind others
absent_push : {P : Type 0} (id : ℕ) (vs : List (Participant P)) (new : Participant P) → participant_of id vs ≡ None → new.identity ≢ id → participant_of id (vs ++ new ∷ []) ≡ None
absent_push id [] new h n = elim (eqb_tells new.identity id) [ inl e ↦ absurd (n e.1) | inr e ↦ rw e.0 refl ]
absent_push id (v ∷ vs) new h n = elim (eqb_tells v.identity id) [
  | inl e ↦ absurd (let no : Some v ≡ None = rw e.0 at h in cc)
  | inr e ↦ rw e.0 (absent_push id vs new (rw e.0 at h) n)
]

pub distinct_push : {P : Type 0} (vs : List (Participant P)) (new : Participant P) → participant_of new.identity vs ≡ None → AreDistinct vs → AreDistinct (vs ++ new ∷ [])
distinct_push [] new h d = (refl, tt)
distinct_push (v ∷ vs) new h d = elim (eqb_tells v.identity new.identity) [
  | inl e ↦ absurd (let no : Some v ≡ None = rw e.0 at h in cc)
  | inr e ↦ (absent_push v.identity vs new d.0 (λ k. e.1 (sym k)), distinct_push vs new (rw e.0 at h) d.1)
]

-- another of its identity is put where a participant stands
pub distinct_set : {P : Type 0} (id : ℕ) (ps : List (Participant P)) (i : ℕ) (p new : Participant P) → Found id ps i p → new.identity ≡ id → AreDistinct ps → AreDistinct (set ps i new)
distinct_set id ps i p new f own d = rw (← f.put new own) (distinct_put ps new d)

-- or where one was found
pub distinct_there : {P : Type 0} (id : ℕ) {shown items : List (Participant P)} (i : ℕ) (p new : Participant P) → shown ≡ items → Some i ≡ index_of id shown → p ≡ get_or items i p →
    new.identity ≡ p.identity → AreDistinct items → AreDistinct (set items i new)
distinct_there id {shown} {items} i p new a h e own d =
    let f = roster.found (λ v. v.identity) (λ v. v) id items i p a refl h e in
    distinct_set id items i p new f (own ∙ f.identity) d

pub identities-put : {P : Type 0} (ps : List (Participant P)) (new : Participant P) → identities (with_participant new ps) ≡ identities ps
identities-put [] new = refl
identities-put (p ∷ ps) new = elim (eqb_tells p.identity new.identity) [
  | inl e ↦ rw e.0 (ap (λ id. id ∷ identities ps) (sym e.1))
  | inr e ↦ rw e.0 (ap (λ ids. p.identity ∷ ids) (identities-put ps new))
]

pub identities-set : {P : Type 0} (id : ℕ) (ps : List (Participant P)) (i : ℕ) (p new : Participant P) → Found id ps i p → new.identity ≡ id → identities (set ps i new) ≡ identities ps
identities-set id ps i p new f own = rw (← f.put new own) (identities-put ps new)

pub identities-push : {P : Type 0} (ps : List (Participant P)) (new : Participant P) → identities (ps ++ new ∷ []) ≡ identities ps ++ new.identity ∷ []
identities-push [] new = refl
identities-push (p ∷ ps) new = ap (λ ids. p.identity ∷ ids) (identities-push ps new)

-- who is not among participants is not among others of the same identities
pub absent_alike : {P Q : Type 0} (id : ℕ) (ps : List (Participant P)) (qs : List (Participant Q)) → identities qs ≡ identities ps → participant_of id ps ≡ None → participant_of id qs ≡ None
absent_alike id ps [] e h = refl
absent_alike id [] (q ∷ qs) e h = absurd (cc)
absent_alike id (p ∷ ps) (q ∷ qs) e h =
    let own : q.identity ≡ p.identity = cc in
    let rest : identities qs ≡ identities ps = cc in
    elim (eqb_tells p.identity id) [
      | inl w ↦ absurd (let no : Some p ≡ None = rw w.0 at h in cc)
      | inr w ↦ let other : (q.identity == id) ≡ false = rw own w.0 in rw other (absent_alike id ps qs rest (rw w.0 at h))
    ]

-- one who is met anywhere is the first of its identity
pub first_at : {P : Type 0} (id : ℕ) (ps : List (Participant P)) (i : ℕ) (p : Participant P) → AreDistinct ps → i < length ps → (get_or ps i p).identity ≡ id → index_of id ps ≡ Some i
first_at id [] i p d h own = absurd (omega (arith, h))
first_at id (v ∷ vs) zero p d h own = elim (eqb_tells v.identity id) [ inl e ↦ rw e.0 refl | inr e ↦ absurd (e.1 own) ]
first_at id (v ∷ vs) (suc k) p d h own =
    let there : index_of id vs ≡ Some k = first_at id vs k p d.1 (omega (arith, h)) own in
    elim (eqb_tells v.identity id) [
      | inl e ↦ absurd (let known : true ≡ is_some (participant_of id vs) = ap is_some (sym there) ∙ is_some-index_of id vs in let no : participant_of id vs ≡ None = rw e.1 at d.0 in cc)
      | inr e ↦ rw (e.0, there) (ap Some (add-one k))
    ]
