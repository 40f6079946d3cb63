-- what ties a grid with segments to places and walks
use Rattle.std.specs.Prelude.{◌≡◌, ℕ, ◌*◌, ◌<◌, ◌≤◌, length, option_map, Option, None, slice_index_or}
use Rattle.model_splitter.specs.declared.grid.walker.Walker.{Walker}
use Rattle.model_splitter.specs.grid.Invariant.{IsConsistent}
use Rattle.model_splitter.specs.grid.Machine.{empty_doors}
use Rattle.model_splitter.specs.grid.Walk as walk
use Rattle.model_renaming.specs.declared.over.grid_register.GridRegister.{GridRegister}
use Rattle.model_renaming.specs.declared.over.grid_register.GridValue.{GridValue}
use Rattle.model_renaming.specs.declared.over.grid_walker.GridWalker.{GridWalker}
use Rattle.model_renaming.specs.declared.over.grid_walk.GridWalk.{GridWalk}
use Rattle.model_renaming.specs.over.GridState.{GridState}
use Rattle.model_renaming.specs.over.Grid.{segments_for, grid_steps, grid_walker_steps, grid_walks, grid_place, grid_walker, most_in, grid_walk}
use Rattle.model_snapshot.specs.Places.{PlaceTies, KnownPlaces, places_by}

-- no one has entered a door, and all segments are empty
pub record IsEmptyGrid (g : GridState) : Type 0 where
  pub few : g.most ≤ 16
  pub doors : g.doors ≡ empty_doors g.most
  pub segments : length g.segments ≡ segments_for g.most
  pub empty : (x : ℕ) → slice_index_or g.segments x None ≡ None

-- the walks through the doors
abbrev pub walks_of : (ℕ → Option GridWalker) → ℕ → Option Walker
walks_of ways p = option_map (λ u. u.walker) (ways p)

-- so many have begun, and their walks agree with the doors. There is a segment for each door
pub record IsGridFor (g : GridState) (b : ℕ) (ways : ℕ → Option GridWalker) : Type 0 where
  pub doors : IsConsistent g.most b g.doors (walks_of ways)
  pub segments : length g.segments ≡ segments_for g.most

-- a walk by rising place has passed the first j of the segments, and goes on
pub record IsWalkAt (g : GridState) (k : GridWalk) (j : ℕ) : Type 0 where
  pub room : length g.segments ≡ segments_for g.most
  pub most : k.most ≡ length g.segments
  pub at : k.at ≡ j
  pub inside : j < length g.segments

-- a walk reads each segment once
abbrev pub grid_ties : PlaceTies GridState GridWalker GridWalk
grid_ties = record {
  IsNew = IsEmptyGrid;
  IsConsistent = IsGridFor;
  placing = λ b. 4 * b;
  reads = λ most b. segments_for most;
  accesses_of = λ u. walk.accesses_of u.walker;
  IsUpcoming = λ k x. k.at ≤ x;
  IsAhead = λ g k x. (k.most ≡ length g.segments) × (k.at ≤ x) × (x < k.most);
  HasRead = IsWalkAt;
}

-- a grid with segments, as places
abbrev pub grid_places : KnownPlaces GridState GridRegister GridValue GridWalker GridWalk
grid_places = places_by grid_walker_steps grid_place grid_walks grid_steps most_in grid_walker grid_walk grid_ties
