-- what exchanges are a run: the renaming object (the problem: Attiya et al. 1990), the pool (Moir and Anderson 1995) and
-- the slots, begun fresh, can answer each event with its reply, in order
use Rattle.std.specs.Prelude.{◌≡◌, ℕ, if◌then◌else◌, Bool, List, map, replicate}
use Rattle.model_snapshot.specs.Snapshot.{SnapBounds}
use Rattle.model_renaming.specs.over.Bounds.{grid_bounds, tree_bounds}
use Rattle.model_asked.specs.declared.config.Config.{Config}
use Rattle.model_asked.specs.Config.{is_tree}
use Rattle.model_renaming.specs.Law.{RenameSpec}
use Rattle.model_renaming.specs.RenameObject.{RenameTerms}
use Rattle.model_pool.specs.slots.Law.{SlotsSpec}
use Rattle.model_pool.specs.PoolState.{PoolStart}
use Rattle.text_worlds.specs.desk.Start.{pool_start}
use Rattle.model_asked.specs.declared.exchange.Exchange.{Exchange}
use Rattle.text_worlds.specs.desk.DeskCalls.{DeskCall, rename_calls, slot_calls, exchange_of, BeginSlots}

-- The exchanges are calls of renaming, pool and slots. Those of renaming satisfy its specification: no two participants
-- have one name, and if b have begun each name is from 1 to 2b - 1. Each view shown is a moment of its scan, and no
-- participant gets `quiet` without end. Those of pool and slots satisfy theirs: at most as many compete as there are
-- numbers, and the numbers held are distinct and within the size. A slot is 0 when it is new, and only its holder
-- changes it. The pool begins as `start` says
pub record IsDeskRun (terms : RenameTerms) (bounds : SnapBounds) (start : PoolStart) (r : List Exchange) : Type 0 where
  pub calls : List DeskCall
  pub spelled : map exchange_of calls ≡ r
  pub names : RenameSpec terms bounds (rename_calls calls)
  pub slots : SlotsSpec start (replicate start.size 0) (slot_calls calls)
  pub new_slots : BeginSlots (slot_calls calls)

-- the numbers of the renaming object's law
abbrev pub desk_terms : ℕ → ℕ → Bool → RenameTerms
desk_terms most limit grows = record { most = most; limit = limit; grows = grows }

-- and its bounds: over a tree, or over a grid
abbrev pub desk_bounds : Bool → ℕ → SnapBounds
desk_bounds grows most = if grows then tree_bounds most else grid_bounds most

-- the exchanges are a run for this config, in the world of a grid or of a tree
abbrev pub IsDeskRunOf : Config → List Exchange → Type 0
IsDeskRunOf config r =
    IsDeskRun (desk_terms config.m config.limit (is_tree config.world)) (desk_bounds (is_tree config.world) config.m) (pool_start config) r
