-- the memory that is made for m participants is places for m in which nothing was written: clauses `new` of
-- `snapshot_law`, `grid_snapshot_law` and `tree_snapshot_law`
use Rattle.std.proofs.Common.{◌≡◌, ℕ, ◌≤◌, Option, None, refl}
use Rattle.std.proofs.Math.ListN.{length-replicate}
use Rattle.model_steps.specs.declared.record.Record.{Record}
use Rattle.model_snapshot.specs.FixedTies.{fixed_places, fresh_row}
use Rattle.model_snapshot.specs.Places.{KnownPlaces}
use Rattle.model_snapshot.proofs.cited.FixedLaw.{empty_row, empty_at}
use Rattle.model_renaming.specs.over.Grid.{segments_for, fresh_grid}
use Rattle.model_renaming.specs.over.GridTies.{IsEmptyGrid, grid_places}
use Rattle.model_renaming.specs.over.Tree.{new_tree}
use Rattle.model_renaming.specs.over.TreeTies.{IsNewTree, tree_places}
use Rattle.model_asked.specs.Config.{most_in}
use Rattle.model_asked.specs.declared.kind.WorldKind.{WorldKind}
use Rattle.model_asked.specs.declared.kind.WorldKind.TheVariants.{Rename, Tree}

-- for as many participants as the world takes, these are such places
abbrev pub AreEmptyFor : {S R V U K : Type 0} → KnownPlaces S R V U K → WorldKind → (ℕ → S) → Type 0
AreEmptyFor W kind made = (most : ℕ) → most ≤ most_in kind → W.ties.IsNew (made most) × (W.most_of (made most) ≡ most)

pub empty_grid : (m : ℕ) → m ≤ 16 → IsEmptyGrid (fresh_grid m)
empty_grid m few = record { few = few; doors = refl; segments = length-replicate (segments_for m) (let nothing : Option Record = None in nothing); empty = empty_at (segments_for m) }

pub is_new : (most : ℕ) → most ≤ 64 → IsNewTree (new_tree most)
is_new most few = record { few = few; empty = refl }

pub fixed_empty : AreEmptyFor fixed_places Rename fresh_row
fixed_empty most few = (empty_row most few, length-replicate most (let nothing : Option Record = None in nothing))

pub grid_empty : AreEmptyFor grid_places Rename fresh_grid
grid_empty most few = (empty_grid most few, refl)

pub tree_empty : AreEmptyFor tree_places Tree new_tree
tree_empty most few = (is_new most few, refl)
