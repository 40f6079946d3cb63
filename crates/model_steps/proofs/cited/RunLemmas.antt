-- runs, one call after another
use Rattle.std.proofs.Common.{◌≡◌, ◌↔◌, ◌⊎◌, inl, inr, List, [], ◌∷◌, ◌++◌, refl, sym, ap, subst, ◌∙◌, append_assoc}
use Rattle.std.proofs.lemmas.List.{append-nil}
use Rattle.model_steps.specs.Runs.{Run, HappensFrom, AnswersAsDue, replay_from}

module _ {S H : Type 0} (next : S → H → S) (Right : S → H → Type 0) where
  -- a run goes on by one call
  pub run_more : (s : S) (r : List H) (mid : S) (h : H) → Run next Right s r mid → Right mid h → Run next Right s (r ++ h ∷ []) (next mid h)
  run_more s [] mid h e right = (subst (λ (x : S). Right x h) e right, ap (λ (x : S). next x h) e)
  run_more s (k ∷ r) mid h e right = (e.0, run_more (next s k) r mid h e.1 right)

  -- what each call keeps, and the calls so far, holds after every run
  pub run_keeps : (Inv : S → List H → Type 0) → ((s : S) (past : List H) (h : H) → Inv s past → Right s h → Inv (next s h) (past ++ h ∷ [])) → (s : S) (past r : List H) (end : S) → Inv s past → Run next Right s r end → Inv end (past ++ r)
  run_keeps Inv keeps s past [] end i e = subst (λ (x : S). Inv x (past ++ [])) (sym e) (subst (λ (xs : List H). Inv s xs) (sym (append-nil past)) i)
  run_keeps Inv keeps s past (h ∷ r) end i e =
      subst (λ (xs : List H). Inv end xs) (append_assoc past (h ∷ []) r)
      (run_keeps Inv keeps (next s h) (past ++ h ∷ []) r end (keeps s past h i e.0) e.1)

  -- what holds after every run held before it, or one of its calls did it
  pub run_gathers : (Inv : S → List H → Type 0) → ((s : S) (past : List H) (h : H) → Inv s past → Right s h → Inv (next s h) (past ++ h ∷ [])) →
      (Does : S → H → Type 0) (Holds : S → Type 0) → ((s : S) (past : List H) (h : H) → Inv s past → Right s h → (Holds (next s h)) ↔ (Does s h ⊎ Holds s)) →
      (s : S) (past r : List H) (end : S) → Inv s past → Run next Right s r end → (Holds end) ↔ (HappensFrom next Does s r ⊎ Holds s)
  run_gathers Inv keeps Does Holds one s past [] end i e =
      (λ some. inr (subst Holds e some), λ o. elim o [ inl never ↦ absurd (never) | inr some ↦ subst Holds (sym e) some ])
  run_gathers Inv keeps Does Holds one s past (h ∷ r) end i e =
      let first = one s past h i e.0 in
      let rest = run_gathers Inv keeps Does Holds one (next s h) (past ++ h ∷ []) r end (keeps s past h i e.0) e.1 in (
        λ some. elim (rest.0 some) [ inl later ↦ inl (inr later) | inr held ↦ elim (first.0 held) [ inl now ↦ inl (inl now) | inr before ↦ inr before ] ],
        λ o. elim o [
          | inl over ↦ elim over [ inl now ↦ rest.1 (inr (first.1 (inl now))) | inr later ↦ rest.1 (inl later) ]
          | inr before ↦ rest.1 (inr (first.1 (inr before)))
        ],
      )

  -- a run over two lists, one after the other, is a run over each
  pub run_splits : (s : S) (r t : List H) (end : S) → Run next Right s (r ++ t) end → (mid : S) × Run next Right s r mid × Run next Right mid t end
  run_splits s [] t end e = (s, refl, e)
  run_splits s (h ∷ r) t end e = let rest = run_splits (next s h) r t end e.1 in (rest.0, (e.0, rest.1), rest.2)

  -- so each call gets a right reply after those before it
  pub run_answers : (s : S) (r : List H) (end : S) → Run next Right s r end → AnswersAsDue next Right s r
  run_answers s r end run before h rest e =
      let cut = run_splits s before (h ∷ rest) end (subst (λ (xs : List H). Run next Right s xs end) e run) in
      (cut.0, cut.1, cut.2.0)

  -- it ends where the list leads
  pub run_replays : (s : S) (r : List H) (end : S) → Run next Right s r end → end ≡ replay_from next s r
  run_replays s [] end e = e
  run_replays s (h ∷ r) end e = run_replays (next s h) r end e.1

  -- and so at one state alone
  pub run_one : (s : S) (r : List H) (a b : S) → Run next Right s r a → Run next Right s r b → a ≡ b
  run_one s r a b x y = run_replays s r a x ∙ sym (run_replays s r b y)
