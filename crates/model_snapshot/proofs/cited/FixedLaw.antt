-- the law of a snapshot object over segments in a row
use Rattle.std.proofs.Common.{◌≡◌, ℕ, zero, suc, ◌+◌, ◌*◌, ◌≤◌, List, length, get_or, replicate, Option, None, refl, subst, arith}
use Rattle.model_snapshot.proofs.WorldCommon.{mul-le-mul_right, Record, BoundsScans, SnapState}
use Rattle.std.proofs.Math.ListN.{length-replicate}
use Rattle.model_snapshot.specs.declared.fixed.FixedWalker.{FixedWalker}
use Rattle.model_snapshot.specs.declared.fixed.FixedWalk.{FixedWalk}
use Rattle.model_snapshot.specs.FixedTies.{IsEmptyRow, fixed_places, fresh_row, fixed_bounds}
use Rattle.model_snapshot.specs.lemmas.FixedProofs.{fixed_laws}
use Rattle.model_snapshot.specs.Snapshot.{SnapshotSpec}
use Rattle.model_snapshot.specs.Machine.{SatisfiesSpecFrom}
use Rattle.model_snapshot.proofs.cited.Following.{law_holds}

pub empty_at : (m x : ℕ) → get_or (replicate m None) x None ≡ (let nothing : Option Record = None in nothing)
empty_at zero x = refl
empty_at (suc m) zero = refl
empty_at (suc m) (suc x) = empty_at m x

pub empty_row : (m : ℕ) → m ≤ 16 → IsEmptyRow (replicate m None)
empty_row m few = record { few = rw (length-replicate m (let nothing : Option Record = None in nothing)) few; empty = empty_at m }

pub fits_row : (m : ℕ) → BoundsScans fixed_places m (fixed_bounds m).scanning
fits_row m b some l =
    let up : b + 1 ≤ m + 1 = omega arith in
    let product = mul-le-mul_right m up in
    omega arith

pub fixed_law : (w : SnapState (List (Option Record)) FixedWalker FixedWalk) → w.most ≤ 16 → SatisfiesSpecFrom fixed_places (fresh_row w.most) (fixed_bounds w.most) w
fixed_law w few r a =
    let many : length (fresh_row w.most) ≡ w.most = length-replicate w.most (let nothing : Option Record = None in nothing) in
    subst (λ (m : ℕ). SnapshotSpec (record { most = m; placing = λ b. 0; scanning = λ b. w.most * (w.most + 1); collecting = m }) r) many
    (law_holds fixed_places fixed_laws w (fresh_row w.most) r a (empty_row w.most few) (λ b. w.most * (w.most + 1)) (rw many (fits_row w.most)))
