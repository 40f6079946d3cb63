-- who runs solo is named in time, over every list of calls
use Rattle.std.proofs.Common.{◌≡◌, ℕ, ◌+◌, ◌≤◌, true, false, ◌⊎◌, List, [], ◌∷◌, ◌++◌, inl, inr, refl, sym, ap, subst, ◌∙◌, arith}
use Rattle.model_renaming.proofs.Common.{eqb_tells, run_more, run_one, KnownPlaces, SnapCall, snap_next, IsSnapReply, SnapObject, SnapBounds, observed, SnapAllows, SnapState, StepReply, Pace, paced, next, IsReply, RenameTerms, RenameObject, new_object, Allows, after, IsRun, RenameState}
use Rattle.model_steps.specs.Calls.{Call, steps_of, steps_by}
use Rattle.model_steps.proofs.cited.WorldKeeps.{steps_of-push}
use Rattle.model_renaming.specs.Alone.{LeavesAlone, StepsAlone, HasTwoLeft, steps_alone, IsNamedWithin, IsNamedAlone}
use Rattle.model_renaming.proofs.Alone.{Grounds, LeftAlone, starts_alone, goes_alone, ends_named, call_alone}
use Rattle.model_renaming.proofs.rounds.Keeping.{Goes}
use Rattle.model_renaming.proofs.rounds.Tied.{IsTied}

only_cell : {X : Type 0} (x h : X) (before more : List X) → x ≡ h → before ++ more ≡ [] → (more ≡ []) × (x ∷ before ≡ h ∷ [])
only_cell x h [] more e none = (none, rw e refl)
only_cell x h (y ∷ before) more e none = absurd (cc)

-- the second of two parts of a list is empty, or has its last element
split_last : {X : Type 0} (before more r : List X) (h : X) → before ++ more ≡ r ++ h ∷ [] → ((more ≡ []) × (before ≡ r ++ h ∷ [])) ⊎ ((m : List X) × (more ≡ m ++ h ∷ []) × (before ++ m ≡ r))
split_last [] more r h e = inr (r, e, refl)
split_last (x ∷ before) more [] h e =
    let tails : before ++ more ≡ [] = cc in
    let first : x ≡ h = cc in
    inl (only_cell x h before more first tails)
split_last (x ∷ before) more (y ∷ r) h e =
    let tails : before ++ more ≡ r ++ h ∷ [] = cc in
    let first : x ≡ y = cc in
    elim (split_last before more r h tails) [
      | inl k ↦ inl (k.0, rw (first, k.1) refl)
      | inr k ↦ inr (k.0, k.1, rw (first, k.2) refl)
    ]

alone_front : (p : ℕ) (r : List (Call StepReply)) (h : Call StepReply) → StepsAlone p (r ++ h ∷ []) → StepsAlone p r × LeavesAlone p h
alone_front p [] h a = (tt, a.0)
alone_front p (g ∷ r) h a = let k = alone_front p r h a.1 in ((a.0, k.0), k.1)

module _ {S R V U K : Type 0} (W : KnownPlaces S R V U K) (terms : RenameTerms) (bounds : SnapBounds) (Tie : SnapState S U K → SnapObject → Type 0)
    (tie_goes : (w : SnapState S U K) (o : SnapObject) (h : SnapCall) → Tie w o → IsSnapReply W w h → Tie (snap_next W w h) (observed o h) × SnapAllows bounds o h)
    (grounds : Grounds W terms bounds Tie) where
  -- wherever these calls are cut in two, who then alone steps has made the steps that it has no longer left
  abbrev pub KeepsAlone : RenameState S U K → List (Call StepReply) → RenameObject → Pace → Type 0
  KeepsAlone w r o t = (before more : List (Call StepReply)) (p : ℕ) (then : RenameObject) → before ++ more ≡ r → IsRun terms before then → HasTwoLeft terms then p → StepsAlone p more →
      (n : ℕ) × (n + steps_of p more ≤ steps_alone bounds) × LeftAlone W terms bounds w o t p n

  -- nobody has begun
  pub alone_fresh : (w : RenameState S U K) (t : Pace) → KeepsAlone w [] new_object t
  alone_fresh w t [] more p then e run two alone = absurd (let none : then ≡ new_object = run in let both : false ≡ true = sym (ap (λ (x : RenameObject). x.begun p) none) ∙ two.begun in cc)
  alone_fresh w t (h ∷ before) more p then e run two alone = absurd (cc)

  pub alone_more : (w : RenameState S U K) (r : List (Call StepReply)) (o : RenameObject) (t : Pace) → IsTied terms Tie w o t → IsRun terms r o → KeepsAlone w r o t →
      (h : Call StepReply) → IsReply W w h → Goes W terms bounds Tie tie_goes w o t h → KeepsAlone (next W w h) (r ++ h ∷ []) (after o h) (paced bounds t h)
  alone_more w r o t i run kept h is g before more p then e past two alone = elim (split_last before more r h e) [
    | inl k ↦
        let whole : IsRun terms (r ++ h ∷ []) (after o h) = run_more after (Allows terms) new_object r o h run g.allowed in
        let same : then ≡ after o h = run_one after (Allows terms) new_object (r ++ h ∷ []) then (after o h) (subst (λ (x : List (Call StepReply)). IsRun terms x then) k.1 past) whole in
        let left : LeftAlone W terms bounds (next W w h) (after o h) (paced bounds t h) p (steps_alone bounds) =
        starts_alone W terms bounds Tie tie_goes grounds (next W w h) (after o h) (paced bounds t h) g.tied p (subst (λ (x : RenameObject). HasTwoLeft terms x p) same two) in
        let none : steps_of p more ≡ 0 = ap (steps_of p) k.0 in
        (steps_alone bounds, omega arith, left)
    | inr k ↦
        let parts = alone_front p k.0 h (subst (λ (x : List (Call StepReply)). StepsAlone p x) k.1 alone) in
        let was = kept before k.0 p then k.2 past two parts.0 in
        let goes = call_alone W terms bounds Tie tie_goes grounds w o t i p h is g.allowed parts.1 was.0 was.2 in
        let sum : steps_of p more ≡ steps_of p k.0 + steps_by p h = ap (steps_of p) k.1 ∙ steps_of-push p k.0 h in
        let a = was.1 in
        let b = goes.1 in
        (goes.0, omega arith, goes.2)
  ]

  pub alone_named : (w : RenameState S U K) (r : List (Call StepReply)) (o : RenameObject) (t : Pace) → IsTied terms Tie w o t → IsRun terms r o → KeepsAlone w r o t → IsNamedAlone terms bounds r
  alone_named w r o t i run kept before more then now p e past present two alone =
      let k = kept before more p then e past two alone in
      let l = k.1 in
      let same : o ≡ now = run_one after (Allows terms) new_object r o now run present in
      subst (λ (x : RenameObject). IsNamedWithin (steps_alone bounds) x p more) same (elim (goes_alone W terms bounds Tie tie_goes grounds w o t i p k.0 k.2) [
        | inl named ↦ inl named
        | inr unspent ↦ elim (eqb_tells k.0 0) [
          | inl none ↦ inl (ends_named W terms bounds Tie tie_goes grounds w o t i p (subst (λ (n : ℕ). LeftAlone W terms bounds w o t p n) none.1 k.2))
          | inr some ↦ let other = some.1 in inr (unspent, omega arith)
        ]
      ])
