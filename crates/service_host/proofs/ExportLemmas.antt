-- lines that are written one after another
use Rattle.std.proofs.Common.{◌≡◌, ℕ, zero, suc, ◌+◌, List, [], ◌∷◌, ◌++◌, take, slice_get, Option, Some, None, refl, sym, ap, subst, ◌∙◌, add-one}
use Rattle.std.proofs.lemmas.Grind.{flat_map-append}
use Rattle.std.proofs.lemmas.List.{append-nil}
use Rattle.std.specs.Io.KnownBytes.{Appends}
use Rattle.model_asked.specs.declared.exchange.Exchange.{Exchange}
use Rattle.text_lines.specs.lemmas.WrittenProofs.{appends_more}
use Rattle.service_host.specs.Exports.{command_line, command_lines}

-- one event more of a history
take_more : {X : Type 0} (xs : List X) (n : ℕ) (x : X) → slice_get xs n ≡ Some x → take (suc n) xs ≡ take n xs ++ x ∷ []
take_more [] n x h = absurd cc
take_more (y ∷ ys) zero x h = ap (λ z. z ∷ []) (cc h)
take_more (y ∷ ys) (suc n) x h = ap (λ t. y ∷ t) (take_more ys n x h)

take_all : {X : Type 0} (xs : List X) (n : ℕ) → slice_get xs n ≡ None → take (suc n) xs ≡ take n xs
take_all [] zero h = refl
take_all [] (suc n) h = refl
take_all (y ∷ ys) zero h = absurd cc
take_all (y ∷ ys) (suc n) h = ap (λ t. y ∷ t) (take_all ys n h)

-- its line is written behind those of the events before it
pub line_more : (history : List Exchange) (n : ℕ) (x : Exchange) (old mid new : Option (List ℕ)) → slice_get history n ≡ Some x →
    Appends old mid (command_lines (take n history)) → Appends mid new (command_line x) → Appends old new (command_lines (take (n + 1) history))
line_more history n x old mid new has before written =
    let more : command_lines (take n history) ++ command_line x ≡ command_lines (take (suc n) history) =
    sym (ap command_lines (take_more history n x has) ∙ (flat_map-append command_line (take n history) (x ∷ []) ∙ ap (λ t. command_lines (take n history) ++ t) (append-nil (command_line x)))) in
    let all = appends_more old mid new (command_lines (take n history)) (command_line x) (command_lines (take (suc n) history)) before written more in
    subst (λ (k : ℕ). Appends old new (command_lines (take k history))) (sym (add-one n)) all

-- and behind all of them there is none
pub no_more : (history : List Exchange) (n : ℕ) (old mid : Option (List ℕ)) → slice_get history n ≡ None →
    Appends old mid (command_lines (take n history)) → Appends old mid (command_lines (take (n + 1) history))
no_more history n old mid none before =
    subst (λ (k : ℕ). Appends old mid (command_lines (take k history))) (sym (add-one n)) (subst (λ (t : List Exchange). Appends old mid (command_lines t)) (sym (take_all history n none)) before)
