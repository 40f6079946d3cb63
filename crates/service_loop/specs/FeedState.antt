-- what a contract sees of a feed
use Rattle.std.specs.Prelude.{ℕ, List}
use Rattle.service_loop.specs.declared.change.Change.{Change}

-- the changes that are not forgotten, and how many were
pub record FeedState : Type 0 where
  pub first : ℕ
  pub changes : List Change
