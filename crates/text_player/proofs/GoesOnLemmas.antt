-- turns that were taken go on to all that was asked
use Rattle.std.proofs.Common.{◌≡◌, ℕ, Bool, true, false, cond, List, [], ◌∷◌, ◌++◌, map, Result, Ok, Err, refl, sym, ap, subst, ◌∙◌}
use Rattle.text_player.proofs.Common.{map-append, Bad, Command, WorldKind, ShownReply, Turn, asked, Answered, Reported, Ended, Misread, asked_by, meaning, ends, Request, Runs, CanRun, runs-append}
use Rattle.model_asked.specs.declared.command.Command.TheVariants as command
use Rattle.model_asked.specs.declared.exchange.Exchange.{Exchange}
use Rattle.text_player.specs.Knows.{Knows, KnowsMeant}
use Rattle.text_player.proofs.cited.ProgressLemmas.{until_first}
use Rattle.model_asked.specs.Requests.Request.{Take, OwnerOf}

-- each request that is asked for is known
abbrev AllKnown : (Request → Bool) → List (Result Command Bad) → Type 0
AllKnown knows [] = Unit {0}
AllKnown knows (m ∷ ms) = KnowsMeant knows m × AllKnown knows ms

known_lines : (knows : Request → Bool) (kind : WorldKind) → Knows knows kind → (ls : List (List ℕ)) → AllKnown knows (asked_by kind ls)
known_lines knows kind known [] = tt
known_lines knows kind known (line ∷ ls) =
    let m = meaning kind line in
    rw (until_first m (map (meaning kind) ls)) (elim (ends m) as (λ e. AllKnown knows (m ∷ cond e [] (asked_by kind ls))) [ true ↦ (known line, tt) | false ↦ (known line, known_lines knows kind known ls) ])

known_rest : (knows : Request → Bool) (xs ys : List (Result Command Bad)) → AllKnown knows (xs ++ ys) → AllKnown knows ys
known_rest knows [] ys known = known
known_rest knows (m ∷ xs) ys known = known_rest knows xs ys known.1

module _ {T : Type 0} (may : T → Request → ShownReply → T → Type 0) (kind : WorldKind) (knows : Request → Bool) (known : Knows knows kind) (answers : (t : T) (q : Request) → knows q ≡ true → (a : ShownReply) × (u : T) × may t q a u) where
  rest : (w : T) (ms : List (Result Command Bad)) → AllKnown knows ms → (us : List Turn) × (u : T) × (map asked us ≡ ms) × Runs may w us u
  rest w [] all = ([], w, refl, refl)
  rest w (Err bad ∷ ms) all = let on = rest w ms all.1 in (Misread bad ∷ on.0, on.1, ap (λ (l : List (Result Command Bad)). Err bad ∷ l) on.2, on.3)
  rest w (Ok (command.Event e) ∷ ms) all =
      let one = answers w (Take e) (all.0 (Take e) refl) in
      let on = rest one.1 ms all.1 in
      let x : Exchange = record { event = e; reply = one.0 } in
      (Answered x ∷ on.0, on.1, ap (λ (l : List (Result Command Bad)). Ok (command.Event e) ∷ l) on.2, (one.1, one.2, on.3))
  rest w (Ok (command.Owner n) ∷ ms) all =
      let one = answers w (OwnerOf n) (all.0 (OwnerOf n) refl) in
      let on = rest one.1 ms all.1 in
      (Reported n one.0 ∷ on.0, on.1, ap (λ (l : List (Result Command Bad)). Ok (command.Owner n) ∷ l) on.2, (one.1, one.2, on.3))
  rest w (Ok command.Quit ∷ ms) all = let on = rest w ms all.1 in (Ended ∷ on.0, on.1, ap (λ (l : List (Result Command Bad)). Ok command.Quit ∷ l) on.2, on.3)

  pub goes_on : (start w : T) (ls : List (List ℕ)) (ts : List Turn) (others : List (Result Command Bad)) → asked_by kind ls ≡ map asked ts ++ others → Runs may start ts w →
      (us : List Turn) × (map asked (ts ++ us) ≡ asked_by kind ls) × CanRun may start (ts ++ us)
  goes_on start w ls ts others all run =
      let all_known = subst (AllKnown knows) all (known_lines knows kind known ls) in
      let on = rest w others (known_rest knows (map asked ts) others all_known) in (
        on.0,
        map-append asked ts on.0 ∙ ap (λ (l : List (Result Command Bad)). map asked ts ++ l) on.2 ∙ sym all,
        (on.1, runs-append may start w on.1 ts on.0 run on.3),
      )
