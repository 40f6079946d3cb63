-- what a contract sees of what a caller has kept
use Rattle.std.specs.Prelude.{List, Bool}
use Rattle.service_lock.specs.declared.kept.Kept.{Kept}

-- what was kept, in order, and whether there is room for one more
pub record KeptState : Type 0 where
  pub items : List Kept
  pub room : Bool
