-- what a name is given by
use Rattle.std.specs.Prelude.{◌≡◌, ℕ, ◌≤◌, List, Option, Some, None}
use Rattle.model_renaming.specs.RenameObject.{RenameObject, ShowsSole, IsFreeName}

-- the view is the one that is written, where one is
abbrev pub IsWritten : Option (List (ℕ × ℕ)) → List (ℕ × ℕ) → Type 0
IsWritten None view = Unit {0}
IsWritten (Some shown) view = view ≡ shown

-- the identity has proposed this number last, in some moment since then no other proposes it - in the one that is shown, where
-- one is -, and it is no one's name and at most 2b - 1
pub record MayBeNamed (o : RenameObject) (p n : ℕ) (shown : Option (List (ℕ × ℕ))) : Type 0 where
  pub view : List (ℕ × ℕ)
  pub written : IsWritten shown view
  pub some : 1 ≤ o.count p
  pub shows : ShowsSole o p n view
  pub free : IsFreeName o n
