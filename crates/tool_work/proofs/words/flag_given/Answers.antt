use Rattle.std.proofs.Common.{ap, codes, Bool, List, Option, Some, None, false, ℕ, refl, ◌≡◌, ◌∙◌}
use Rattle.tool_work.proofs.Common.{found_of, first_value-rows}
use Rattle.std.specs.Borrow.{Bor}
use Rattle.std.specs.Option.{option_eq, option_map, option_map_or}
use Rattle.std.specs.Str.{bytes_eq}
use Rattle.tool_work.proofs.words.flag_given.Goals as goal

-- texts that may be there are compared by their bytes
by_bytes : (eq : Bor (List ℕ) → Bor (List ℕ) → Bool) → ((s t : Bor (List ℕ)) → eq s t ≡ bytes_eq s.now t.now) → (o : Option (Bor (List ℕ))) (t : Bor (List ℕ)) →
    option_eq eq o (Some t) ≡ option_map_or (λ text. bytes_eq text t.now) (option_map (λ s. s.now) o) false
by_bytes eq same None t = refl
by_bytes eq same (Some s) t = same s t

pub returns : goal.returns
returns c =
    c.eq.ensures ∙ by_bytes _ (λ s t. refl) c.get_str.result _ ∙
    ap (λ o. option_map_or (λ text. bytes_eq text (codes "true")) o false) (c.get_str.ensures ∙ first_value-rows (found_of c.args.matches.now) c.args.name.now)
