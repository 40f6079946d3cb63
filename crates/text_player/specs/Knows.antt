-- requests that are known
use Rattle.std.specs.Prelude.{◌≡◌, ℕ, List, Bool, true, Result, Ok}
use Rattle.model_asked.specs.declared.kind.WorldKind.{WorldKind}
use Rattle.model_asked.specs.declared.bad.Bad.{Bad}
use Rattle.model_asked.specs.declared.command.Command.{Command}
use Rattle.text_lines.specs.Meaning.{meaning}
use Rattle.model_asked.specs.Requests.{Request, as_command}

-- each request that a line of this kind means is known
abbrev pub Knows : (Request → Bool) → WorldKind → Type 0
Knows knows kind = (line : List ℕ) (q : Request) → meaning kind line ≡ Ok (as_command q) → knows q ≡ true

-- the request that a line means is known, if it means one
abbrev pub KnowsMeant : (Request → Bool) → Result Command Bad → Type 0
KnowsMeant knows m = (q : Request) → m ≡ Ok (as_command q) → knows q ≡ true
