-- a text on its way to a writer: some of it written, some held, and the rest still to come
use Rattle.std.specs.Prelude.{◌≡◌, ℕ, ◌++◌, List, [], Option}
use Rattle.std.specs.Io.KnownBytes.{Appends}
use Rattle.text_lines.specs.Written.{HasPartOf}

-- of this text the writer has gained a prefix; then comes what is held, and then this rest
pub record IsUnderWay (text : List ℕ) (before now : Option (List ℕ)) (held rest : List ℕ) : Type 0 where
  pub written : List ℕ
  pub gained : Appends before now written
  pub whole : text ≡ written ++ (held ++ rest)

-- wherever a text stood so that this came next, that comes next now
abbrev pub GoesFrom : List ℕ → Option (List ℕ) → List ℕ → List ℕ → Option (List ℕ) → List ℕ → Type 0
GoesFrom this old held that now held' = (text rest : List ℕ) (before : Option (List ℕ)) → IsUnderWay text before old held (this ++ rest) → IsUnderWay text before now held' (that ++ rest)

-- it stands past this now
abbrev pub GoesPast : List ℕ → Option (List ℕ) → List ℕ → Option (List ℕ) → List ℕ → Type 0
GoesPast this old held now held' = GoesFrom this old held [] now held'

-- wherever a text stood so that this came next, the writer has gained a prefix of it, and nothing else
abbrev pub StopsWithin : List ℕ → Option (List ℕ) → List ℕ → Option (List ℕ) → Type 0
StopsWithin this old held now = (text rest : List ℕ) (before : Option (List ℕ)) → IsUnderWay text before old held (this ++ rest) → HasPartOf before now text
