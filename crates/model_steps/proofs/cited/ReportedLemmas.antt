-- what calls tell of how each participant stands, after one more call
use Rattle.std.proofs.Common.{◌≡◌, ℕ, ◌+◌, ◌≤◌, ◌==◌, true, inl, inr, List, [], ◌∷◌, ◌++◌, Option, None, Ok, refl, sym, ap, subst, ◌∙◌, arith}
use Rattle.model_steps.proofs.Common.{eqb_tells, Decides-eqb, set_at, Call, steps_of, steps_by, outcome_of, outcome_by, Began, Stepped}
use Rattle.model_steps.specs.Reported.{Tells}
use Rattle.model_steps.proofs.cited.SetAtLemmas.{set_at-same, set_at-other, set_at-cases}
use Rattle.model_steps.proofs.cited.WorldKeeps.{steps_of-push, outcome_of-push, first_of-none}

module _ {Z O : Type 0} (say : Z → Option O) (least most : Z → ℕ) (stands : ℕ → Z) (r : List (Call (Option O))) (t : Tells say least most stands r) where
  -- a call that is no accepted step tells nothing
  pub reported_quiet : (h : Call (Option O)) → ((p : ℕ) → steps_by p h ≡ 0) → ((p : ℕ) → outcome_by p h ≡ None) → Tells say least most stands (r ++ h ∷ [])
  reported_quiet h none quiet = record {
    outcomes = λ p. outcome_of-push p r h ∙ rw (quiet p) (first_of-none (outcome_of p r)) ∙ t.outcomes p;
    at_least = λ p. omega (arith, steps_of-push p r h, none p, t.at_least p);
    at_most = λ p. omega (arith, steps_of-push p r h, none p, t.at_most p);
  }

  -- who begins has made no step, and stands as one who has not begun
  pub reported_begun : (id : ℕ) (new : Z) → say (stands id) ≡ say new → least new ≤ least (stands id) → most (stands id) ≤ most new →
      Tells say least most (set_at stands id new) (r ++ Began id (Ok tt) ∷ [])
  reported_begun id new says low high =
      let before = reported_quiet (Began id (Ok tt)) (λ p. refl) (λ p. refl) in
      record {
        outcomes = λ p. before.outcomes p ∙ set_at-cases stands id new (λ z. say (stands p) ≡ say z) p (λ e. ap (λ q. say (stands q)) e ∙ says) (λ _. refl);
        at_least = λ p.
            let fewer : least (set_at stands id new p) ≤ least (stands p) = set_at-cases stands id new (λ z. least z ≤ least (stands p)) p
            (λ e. subst (λ (q : ℕ). least new ≤ least (stands q)) (sym e) low) (λ _. omega arith) in
            omega (arith, before.at_least p, fewer);
        at_most = λ p.
            let more : most (stands p) ≤ most (set_at stands id new p) = set_at-cases stands id new (λ z. most (stands p) ≤ most z) p
            (λ e. subst (λ (q : ℕ). most (stands q) ≤ most new) (sym e) high) (λ _. omega arith) in
            omega (arith, before.at_most p, more);
      }

  -- an accepted step of one who has no outcome yet
  pub reported_stepped : (id : ℕ) (new : Z) (said : Option O) → say (stands id) ≡ None → said ≡ say new → least new ≤ least (stands id) + 1 → most (stands id) + 1 ≤ most new →
      Tells say least most (set_at stands id new) (r ++ Stepped id (Ok said) ∷ [])
  reported_stepped id new said none says low high =
      let call : Call (Option O) = Stepped id (Ok said) in
      let itself : (id == id) ≡ true = (Decides-eqb id id).1 refl in
      let now : set_at stands id new id ≡ new = set_at-same stands id new in
      let before : outcome_of id r ≡ None = t.outcomes id ∙ none in
      let outcome : outcome_of id (r ++ call ∷ []) ≡ say (set_at stands id new id) = outcome_of-push id r call ∙ rw (before, itself) says ∙ ap say (sym now) in
      let one : steps_by id call ≡ 1 = rw itself refl in
      let fewer : least (set_at stands id new id) ≤ steps_of id (r ++ call ∷ []) = omega (arith, ap least now, low, steps_of-push id r call, one, t.at_least id) in
      let more : steps_of id (r ++ call ∷ []) ≤ most (set_at stands id new id) = omega (arith, ap most now, high, steps_of-push id r call, one, t.at_most id) in
      record {
        outcomes = λ p. elim (eqb_tells id p) [
          | inl e ↦ subst (λ (x : ℕ). outcome_of x (r ++ call ∷ []) ≡ say (set_at stands id new x)) e.1 outcome
          | inr e ↦ outcome_of-push p r call ∙ rw e.0 (first_of-none (outcome_of p r)) ∙ t.outcomes p ∙ ap say (sym (set_at-other stands id new p (λ h. e.1 (sym h))))
        ];
        at_least = λ p. elim (eqb_tells id p) [
          | inl e ↦ subst (λ (x : ℕ). least (set_at stands id new x) ≤ steps_of x (r ++ call ∷ [])) e.1 fewer
          | inr e ↦ let nothing : steps_by p call ≡ 0 = rw e.0 refl in omega (arith, ap least (set_at-other stands id new p (λ h. e.1 (sym h))), steps_of-push p r call, nothing, t.at_least p)
        ];
        at_most = λ p. elim (eqb_tells id p) [
          | inl e ↦ subst (λ (x : ℕ). steps_of x (r ++ call ∷ []) ≤ most (set_at stands id new x)) e.1 more
          | inr e ↦ let nothing : steps_by p call ≡ 0 = rw e.0 refl in omega (arith, ap most (set_at-other stands id new p (λ h. e.1 (sym h))), steps_of-push p r call, nothing, t.at_most p)
        ];
      }
