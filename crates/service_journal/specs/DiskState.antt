-- what a contract sees of a disk
use Rattle.std.specs.Prelude.{ℕ, List}

-- the bytes that were written, how many of them are durable after a crash, and how often bytes were cut off or replaced
pub record DiskState : Type 0 where
  pub contents : List ℕ
  pub synced : ℕ
  pub cuts : ℕ
