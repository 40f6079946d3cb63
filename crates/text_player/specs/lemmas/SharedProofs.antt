-- logs of turns of several transcripts
use Rattle.std.proofs.Common.{◌≡◌, ℕ, ◌==◌, true, false, cond, List, [], ◌∷◌, ◌++◌, flat_map, refl, sym, ap, subst, ◌∙◌}
use Rattle.std.proofs.lemmas.List.{append-nil}
use Rattle.std.proofs.lemmas.Bool.{eqb-true}
use Rattle.std.proofs.lemmas.Grind.{flat_map-append}
use Rattle.model_asked.specs.Replies.{ShownReply}
use Rattle.model_asked.specs.Requests.{Request}
use Rattle.text_player.specs.lemmas.RunProofs.{runs-append}
use Rattle.text_player.specs.Says.{Spoke}
use Rattle.text_player.specs.Shared.{numbered, unnumbered, turns_of, tagged, all_turns, SharedGoesOn}
use Rattle.text_player.specs.Turns.{Turn}

module _ {X : Type 0} where
  pub all-append : (xs ys : List (ℕ × X)) → unnumbered (xs ++ ys) ≡ unnumbered xs ++ unnumbered ys
  all-append [] ys = refl
  all-append (x ∷ xs) ys = ap (λ l. x.1 ∷ l) (all-append xs ys)

  pub all-tagged : (i : ℕ) (xs : List X) → unnumbered (tagged i xs) ≡ xs
  all-tagged i [] = refl
  all-tagged i (x ∷ xs) = ap (λ l. x ∷ l) (all-tagged i xs)

  pub of-append : (j : ℕ) (xs ys : List (ℕ × X)) → numbered j (xs ++ ys) ≡ numbered j xs ++ numbered j ys
  of-append j [] ys = refl
  of-append j (x ∷ xs) ys = elim (x.0 == j) as (λ b. cond b (x.1 ∷ numbered j (xs ++ ys)) (numbered j (xs ++ ys)) ≡ cond b (x.1 ∷ numbered j xs) (numbered j xs) ++ numbered j ys) [
    | true ↦ ap (λ l. x.1 ∷ l) (of-append j xs ys)
    | false ↦ of-append j xs ys
  ]

  pub of-same : (i j : ℕ) (xs : List X) → (i == j) ≡ true → numbered j (tagged i xs) ≡ xs
  of-same i j [] h = refl
  of-same i j (x ∷ xs) h = rw h (ap (λ l. x ∷ l) (of-same i j xs h))

  pub of-other : (i j : ℕ) (xs : List X) → (i == j) ≡ false → numbered j (tagged i xs) ≡ []
  of-other i j [] h = refl
  of-other i j (x ∷ xs) h = rw h (of-other i j xs h)

module _ {T : Type 0} (may : T → Request → ShownReply → T → Type 0) (text : Turn → List ℕ) where
  -- one of them goes on
  pub shared_on : SharedGoesOn may text
  shared_on start w u log at far reported i out out' s' next more shared said = record {
    run = rw (all-append log (tagged i more), all-tagged i more) (runs-append may start w u (all_turns log) more shared.run said.run);
    each = λ j. rw (of-append j log (tagged i more))
        (elim (i == j) as (λ b. (i == j) ≡ b → Spoke (turns_of j log ++ turns_of j (tagged i more)) (cond b s' (at j)) (cond b (next (far i)) (far j))) [
          | true ↦ λ h. rw (of-same i j more h) (subst (λ (k : ℕ). Spoke (turns_of k log ++ more) s' (next (far i))) (eqb-true i j h) (said.goes_on (turns_of i log) (far i) (shared.each i) tt))
          | false ↦ λ h. rw (of-other i j more h, append-nil (turns_of j log)) (shared.each j)
        ] refl);
    reported_is = λ j. rw (of-append j log (tagged i more))
        (elim (i == j) as (λ b. (i == j) ≡ b → cond b (reported i ++ flat_map text more) (reported j) ≡ flat_map text (turns_of j log ++ turns_of j (tagged i more))) [
          | true ↦ λ h. rw (of-same i j more h) (ap (λ l. l ++ flat_map text more) (shared.reported_is i) ∙ sym (flat_map-append text (turns_of i log) more) ∙ ap (λ (k : ℕ). flat_map text (turns_of k log ++ more)) (eqb-true i j h))
          | false ↦ λ h. rw (of-other i j more h, append-nil (turns_of j log)) (shared.reported_is j)
        ] refl);
  }
