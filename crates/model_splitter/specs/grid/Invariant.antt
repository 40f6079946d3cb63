-- the invariant that relates the doors of a grid to the walks in it, which structures over the grid use
use Rattle.std.specs.Prelude.{◌≡◌, ◌≢◌, ℕ, ◌+◌, ◌*◌, ◌<◌, ◌≤◌, Bool, true, false, not, ◌==◌, ◌⊎◌, List, length, Option, Some, None, IsSome}
use Rattle.std.proofs.Common.{suc, get_or}
use Rattle.model_steps.specs.RegisterState.{Registers}
use Rattle.model_splitter.specs.declared.stage.VisitStage.{VisitStage}
use Rattle.model_splitter.specs.declared.stage.VisitStage.TheVariants.{Outside}
use Rattle.model_splitter.specs.Stage.{has_entered, went_right, went_down}
use Rattle.model_splitter.specs.Invariant.{DoorSatisfiesSpec}
use Rattle.model_splitter.specs.Visitor.{word_of}
use Rattle.model_splitter.specs.declared.grid.walker.Walker.{Walker}
use Rattle.model_splitter.specs.grid.Door.{door_number, number_of, IsDoorWithin}
use Rattle.model_splitter.specs.grid.Walk.{place_by, accesses_by}
use Rattle.model_splitter.specs.grid.Law.{AreDistinct}
use Rattle.model_steps.specs.Count.{count_to}

-- the value of X of door k
abbrev pub x_in : Registers ℕ → ℕ → ℕ
x_in m k = word_of m (2 * k)

-- the value of Y of door k
abbrev pub y_in : Registers ℕ → ℕ → ℕ
y_in m k = word_of m (2 * k + 1)

-- whether a participant has entered door k. If so, X of the door holds an identity, which is not 0
abbrev pub was_entered : Registers ℕ → ℕ → Bool
was_entered m k = not (x_in m k == 0)

-- p is before this door, or in it
pub record StandsAt (walker : ℕ → Option Walker) (p depth column : ℕ) : Type 0 where
  pub walk : Walker
  pub is : walker p ≡ Some walk
  pub depth_is : walk.door.depth ≡ depth
  pub column_is : walk.door.column ≡ column

-- the walk of p agrees with the visits. It is at a door that was reached, has not left it, and has entered no deeper
-- door
pub record IsWalkOf (stage : ℕ → ℕ → VisitStage) (reached : ℕ → ℕ → Bool) (p : ℕ) (u : Walker) : Type 0 where
  pub identity : u.visitor.identity ≡ p
  pub x : u.visitor.x ≡ 2 * number_of u.door
  pub y : u.visitor.y ≡ 2 * number_of u.door + 1
  pub inside : u.door.column ≤ u.door.depth
  pub here : stage (number_of u.door) p ≡ u.visitor.stage
  pub arrived : reached u.door.depth u.door.column ≡ true
  pub not_right : went_right u.visitor.stage ≡ false
  pub not_down : went_down u.visitor.stage ≡ false
  pub below : (d c : ℕ) → c ≤ d → u.door.depth < d → stage (door_number d c) p ≡ Outside

-- b have begun, and all doors that were reached are on the first `limit` diagonals. X and Y of door k hold these
-- values. Two fields have the past: the stage of p's visit to door k, and the doors that were reached, by depth and
-- column
pub record DoorsAgree (limit b : ℕ) (x_of y_of : ℕ → ℕ) (walker : ℕ → Option Walker) : Type 0 where
  pub stage : ℕ → ℕ → VisitStage
  pub reached : ℕ → ℕ → Bool
  -- the participants that have begun
  pub identities : List ℕ
  pub many : length identities ≡ b
  pub listed : (p : ℕ) (u : Walker) → walker p ≡ Some u → (i : ℕ) × (i < length identities) × (get_or identities i 0 ≡ p)
  pub nobody : walker 0 ≡ None
  -- each walk agrees with the visits, and a participant that has not begun made none
  pub walks : (p : ℕ) (u : Walker) → walker p ≡ Some u → IsWalkOf stage reached p u
  pub absent : (p : ℕ) → walker p ≡ None → (k : ℕ) → stage k p ≡ Outside
  -- each door keeps the invariant of a splitter, and the participant that its X names has entered
  pub doors : (k : ℕ) → DoorSatisfiesSpec (x_of k) (y_of k) (stage k)
  pub entered : (k : ℕ) → x_of k ≢ 0 → has_entered (stage k (x_of k)) ≡ true
  -- a participant that entered a door is still there, or has left it for a door that was reached
  pub left : (d c p : ℕ) → c ≤ d → has_entered (stage (door_number d c) p) ≡ true →
      StandsAt walker p d c
      ⊎ (((went_right (stage (door_number d c) p) ≡ true) × (reached (suc d) c ≡ true))
      ⊎ ((went_down (stage (door_number d c) p) ≡ true) × (reached (suc d) (suc c) ≡ true)))
  -- a door that was reached has been entered, or a participant is there
  pub here : (d c : ℕ) → reached d c ≡ true → ((p : ℕ) × StandsAt walker p d c) ⊎ ((p : ℕ) × (has_entered (stage (door_number d c) p) ≡ true))
  -- a door below the corner was reached from a door on the diagonal before
  pub comes : (d c : ℕ) → c ≤ suc d → reached (suc d) c ≡ true → (e : ℕ) × (e ≤ d) × (reached d e ≡ true)
  pub inside : (d c : ℕ) → reached d c ≡ true → c ≤ d
  pub within : (d c : ℕ) → reached d c ≡ true → d < limit
  pub root : 0 < b → reached 0 0 ≡ true

-- of at most `most` participants, b have begun, and the doors in these registers and the walks agree
pub record IsConsistent (most b : ℕ) (m : Registers ℕ) (walker : ℕ → Option Walker) : Type 0 where
  pub few : most ≤ 64
  pub room : b ≤ most
  pub registers : length m.values ≡ most * (most + 1)
  pub agree : DoorsAgree b b (x_in m) (y_in m) walker

-- the invariant of the grid, of b walks and the doors in these registers. The places at which walks have ended are
-- distinct. They, and all doors that were entered, are on the first b diagonals. No walk makes more than 4b accesses,
-- and one that has made 4b, and any at all, has a place
pub record IsGrid (b : ℕ) (m : Registers ℕ) (walker : ℕ → Option Walker) : Type 0 where
  pub distinct : AreDistinct (λ p. place_by (walker p))
  pub within : (p place : ℕ) → place_by (walker p) ≡ Some place → IsDoorWithin b place
  pub entered : (k : ℕ) → x_in m k ≢ 0 → IsDoorWithin b k
  pub few_entered : (n : ℕ) → 2 * count_to (was_entered m) n ≤ b * (b + 1)
  pub at_most : (p : ℕ) → accesses_by (walker p) ≤ 4 * b
  pub last_places : (p : ℕ) → 0 < accesses_by (walker p) → accesses_by (walker p) ≡ 4 * b → IsSome (place_by (walker p))
