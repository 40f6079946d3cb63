-- what every list of steps keeps
use Rattle.std.specs.Prelude.{◌≡◌, ℕ, ◌+◌, ◌*◌, ◌<◌, ◌≤◌, ◌⊎◌, ◌&&◌, nat_le, true, false, if◌then◌else◌, Bool, Option, Some, None}
use Rattle.std.proofs.Common.{suc}
use Rattle.model_steps.specs.Count.{count_to}
use Rattle.model_recursion.specs.Program.{Phase, phase_of}
use Rattle.model_recursion.specs.Spot.{Spot, has_written, was_full, has_turned, is_in}
use Rattle.model_recursion.specs.Spot.Fate.{Absent, Reading, Named}
use Rattle.model_recursion.specs.Ranges.{IsLast}
use Rattle.model_recursion.specs.Levels.{Level, CameFrom}
use Rattle.model_recursion.specs.declared.namer.Survey.{Survey}
use Rattle.model_recursion.specs.Program.Phase.{Entering, Collecting, Over}
use Rattle.model_recursion.specs.declared.namer.Namer.{Namer}

-- who has written at an instance: by level, first name and seat
abbrev pub Members : Type 0
Members = ℕ → ℕ → ℕ → Bool

abbrev pub members_of : (ℕ → Level) → Members
members_of rows x f q = is_in f (rows x q)

-- The order of seats that have these identities: by identity, and by number if the identities are equal. No seat has a number
-- above 64
abbrev pub rank : (ℕ → ℕ) → ℕ → ℕ
rank ids q = ids q * 128 + q

-- it does not come after seat p
abbrev pub is_up_to : (ℕ → ℕ) → ℕ → ℕ → Bool
is_up_to ids p q = nat_le (rank ids q) (rank ids p)

-- a seat up to m that has written at an instance, and comes after p
pub record HasGreater (m : ℕ) (ids : ℕ → ℕ) (there : ℕ → Bool) (p : ℕ) : Type 0 where
  pub seat : ℕ
  pub low : seat < suc m
  pub inside : there seat ≡ true
  pub more : rank ids p < rank ids seat

-- what a seat has read of the words of its instance agrees with who has written there
pub record HasRead (m : ℕ) (ids : ℕ → ℕ) (there : ℕ → Bool) (p : ℕ) (c : Survey) : Type 0 where
  pub from : 1 ≤ c.at
  pub to : c.at ≤ m
  pub low : c.seen ≤ count_to there c.at
  pub under : c.greater ≡ false → c.seen ≤ count_to (λ q. there q && is_up_to ids p q) c.at
  pub over : c.greater ≡ true → HasGreater m ids there p
  pub own : p < c.at → 1 ≤ c.seen

-- where a seat stands at its own level, by its phase
abbrev pub StandsAt : ℕ → (ℕ → ℕ) → (ℕ → Bool) → Spot → Namer → Phase → Type 0
StandsAt m ids there s u Entering = s.fate ≡ Absent
StandsAt m ids there s u (Collecting c) = (s.fate ≡ Reading) × (s.first ≡ u.first) × HasRead m ids there u.seat c
StandsAt m ids there s u (Over name) = (s.fate ≡ Named) × (s.first ≡ u.first) × ((k : ℕ) → u.level ≡ suc k → IsLast k u.first name)

pub record Stands (m : ℕ) (ids : ℕ → ℕ) (rows : ℕ → Level) (p : ℕ) (u : Namer) : Type 0 where
  pub own : u.seat ≡ p
  pub some : 1 ≤ p
  pub few : p ≤ m
  pub most : u.most ≡ m
  pub id_is : u.identity ≡ ids p
  pub some_id : 1 ≤ ids p
  pub from : 1 ≤ u.level
  pub to : u.level ≤ m
  pub lower : (x : ℕ) → x < u.level → (rows x p).fate ≡ Absent
  pub came : u.level < m → CameFrom u.level (rows (suc u.level) p) (record { fate = Reading; first = u.first })
  pub top : u.level ≡ m → u.first ≡ 1
  pub at : StandsAt m ids (members_of rows u.level u.first) (rows u.level p) u (phase_of u)

-- one that does not go straight on from an instance: it was full, or reads, and has counted all before it
pub record Stays (m : ℕ) (rows : ℕ → Level) (who : ℕ → Option Namer) (x f : ℕ) : Type 0 where
  pub seat : ℕ
  pub low : seat < suc m
  pub inside : members_of rows x f seat ≡ true
  pub so : (was_full (rows x seat).fate ≡ true) ⊎ ((u : Namer) × (c : Survey) × (who seat ≡ Some u) × (u.level ≡ x) × (u.first ≡ f) × (phase_of u ≡ Collecting c) × (count_to (members_of rows x f) c.at ≤ c.seen))

-- the words, the seats with their identities, and where each has been
pub record IsConsistent (m : ℕ) (ids : ℕ → ℕ) (word : ℕ → ℕ → ℕ → ℕ) (who : ℕ → Option Namer) : Type 0 where
  pub rows : ℕ → Level
  pub few : m ≤ 64
  pub words : (x f q : ℕ) → word x f q ≡ (if members_of rows x f q then ids q else 0)
  pub stands : (p : ℕ) (u : Namer) → who p ≡ Some u → Stands m ids rows p u
  pub absent : (p : ℕ) → who p ≡ None → (x : ℕ) → (rows x p).fate ≡ Absent
  pub full : (k p : ℕ) → k < m → was_full (rows (suc k) p).fate ≡ true → suc k ≤ count_to (members_of rows (suc k) (rows (suc k) p).first) (suc m)
  pub stays : (k f : ℕ) → k < m → suc k ≤ count_to (members_of rows (suc k) f) (suc m) → Stays m rows who (suc k) f
  pub turned : (k p : ℕ) → k < m → has_turned (rows (suc k) p).fate ≡ true → HasGreater m ids (members_of rows (suc k) (rows (suc k) p).first) p
  pub named : (k p q : ℕ) → k < m → (rows (suc k) p).fate ≡ Named → members_of rows (suc k) (rows (suc k) p).first q ≡ true → rank ids q ≤ rank ids p
  pub chain : (k p : ℕ) → k < m → has_written (rows k p).fate ≡ true → CameFrom k (rows (suc k) p) (rows k p)
  pub top : (p : ℕ) → has_written (rows m p).fate ≡ true → (rows m p).first ≡ 1
