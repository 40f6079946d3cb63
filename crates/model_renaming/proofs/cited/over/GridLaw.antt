-- the law of a snapshot object over a grid with segments
use Rattle.std.proofs.Common.{◌≡◌, ℕ, ◌+◌, ◌*◌, ◌≤◌, length, refl, sym, ap, ◌∙◌, arith}
use Rattle.std.proofs.Math.Nat.{mul-le-mul_right}
use Rattle.model_renaming.specs.declared.over.grid_walker.GridWalker.{GridWalker}
use Rattle.model_renaming.specs.declared.over.grid_walk.GridWalk.{GridWalk}
use Rattle.model_renaming.specs.over.GridState.{GridState}
use Rattle.model_renaming.specs.over.Grid.{segments_for, fresh_grid}
use Rattle.model_renaming.specs.over.GridTies.{grid_places}
pub use Rattle.model_renaming.specs.lemmas.EmptyPlaces.{empty_grid}
use Rattle.model_renaming.specs.over.Bounds.{grid_bounds}
use Rattle.model_renaming.specs.lemmas.over.GridProofs.{grid_laws}
use Rattle.model_snapshot.specs.Places.{BeginsAlike, BoundsScans}
use Rattle.model_snapshot.specs.SnapWorld.{SnapState}
use Rattle.model_snapshot.specs.Machine.{SatisfiesSpecFrom}
use Rattle.model_snapshot.proofs.cited.Following.{law_holds}

-- there are no more participants than segments
few_in : (m b : ℕ) → 1 ≤ b → b ≤ m → b ≤ segments_for m
few_in m b some l =
    let one : 1 ≤ m = omega arith in
    let square = mul-le-mul_right m one in
    omega arith

pub fits_grid : (m : ℕ) → BoundsScans grid_places m (grid_bounds m).scanning
fits_grid m b some l =
    let up : b + 1 ≤ segments_for m + 1 = (let few = few_in m b some l in omega arith) in
    let product = mul-le-mul_right (segments_for m) up in
    omega arith

pub grid_law : (w : SnapState GridState GridWalker GridWalk) → w.most ≤ 16 → SatisfiesSpecFrom grid_places (fresh_grid w.most) (grid_bounds w.most) w
grid_law w few r a = law_holds grid_places grid_laws w (fresh_grid w.most) r a (empty_grid w.most few) (λ b. segments_for w.most * (segments_for w.most + 1)) (fits_grid w.most)

-- every way begins at the corner, and every walk over as many segments as the size asks for
pub grid_alike : BeginsAlike grid_places
grid_alike = record {
  way = λ b c p. refl;
  walk = λ g other b c ways others i k size.
      let rows : length g.segments ≡ length other.segments = i.segments ∙ ap segments_for size ∙ sym k.segments in
      ap (λ (n : ℕ). record { at = 0; most = n }) rows;
}
