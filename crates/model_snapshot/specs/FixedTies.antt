-- what ties segments in a row to places and walks
use Rattle.std.specs.Prelude.{◌≡◌, ℕ, ◌+◌, ◌*◌, ◌<◌, ◌≤◌, List, length, replicate, Option, Some, None, slice_index_or}
use Rattle.model_steps.specs.declared.record.Record.{Record}
use Rattle.model_snapshot.specs.declared.fixed.FixedWalker.{FixedWalker}
use Rattle.model_snapshot.specs.declared.fixed.FixedWalk.{FixedWalk}
use Rattle.model_snapshot.specs.Fixed.{fixed_steps, walker_steps, fixed_walks, fixed_place, fixed_walker, fixed_walk}
use Rattle.model_snapshot.specs.Places.{PlaceTies, KnownPlaces, places_by}
use Rattle.model_snapshot.specs.Snapshot.{SnapBounds}

-- at most 16 segments, and all of them are empty
pub record IsEmptyRow (segments : List (Option Record)) : Type 0 where
  pub few : length segments ≤ 16
  pub empty : (x : ℕ) → slice_index_or segments x None ≡ None

-- this many have begun, no more than there are segments. Their places are the first ones, and no two have one
pub record IsRowFor (segments : List (Option Record)) (b : ℕ) (ways : ℕ → Option FixedWalker) : Type 0 where
  pub few : length segments ≤ 16
  pub room : b ≤ length segments
  pub inside : (p : ℕ) (u : FixedWalker) → ways p ≡ Some u → u.place < b
  pub distinct : (p q : ℕ) (u v : FixedWalker) → ways p ≡ Some u → ways q ≡ Some v → u.place ≡ v.place → p ≡ q

-- a walk by rising place has passed the first j of the segments, and goes on
pub record IsWalkAt (segments : List (Option Record)) (k : FixedWalk) (j : ℕ) : Type 0 where
  pub most : k.most ≡ length segments
  pub at : k.at ≡ j
  pub inside : j < length segments

-- each participant that has begun has its place, and a walk reads each segment once
abbrev pub fixed_ties : PlaceTies (List (Option Record)) FixedWalker FixedWalk
fixed_ties = record {
  IsNew = IsEmptyRow;
  IsConsistent = IsRowFor;
  placing = λ b. 0;
  reads = λ most b. most;
  accesses_of = λ w. 0;
  IsUpcoming = λ k x. k.at ≤ x;
  IsAhead = λ segments k x. (k.most ≡ length segments) × (k.at ≤ x) × (x < k.most);
  HasRead = IsWalkAt;
}

-- segments in a row, as places
abbrev pub fixed_places : KnownPlaces (List (Option Record)) ℕ (Option Record) FixedWalker FixedWalk
fixed_places = places_by walker_steps fixed_place fixed_walks fixed_steps length fixed_walker fixed_walk fixed_ties

-- a row of empty segments
abbrev pub fresh_row : ℕ → List (Option Record)
fresh_row most = replicate most None

-- over m segments no participant makes a step to its place, and a scan makes at most m(m + 1) reads
abbrev pub fixed_bounds : ℕ → SnapBounds
fixed_bounds m = record { most = m; placing = λ b. 0; scanning = λ b. m * (m + 1); collecting = m }
