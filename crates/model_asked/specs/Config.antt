-- what is said of each world: what it is called, whether names are given in it, how many may take part, and over which places
use Rattle.std.proofs.Common.{◌≡◌, ◌≤◌, ◌⊎◌, ℕ, List, [], ◌∷◌, length, Option, Some, None, Bool, true, false, not, cond, codes, nat_le, ◌&&◌, inl, inr, refl, arith}
use Rattle.std.specs.List.{list_all}
use Rattle.std.specs.Prelude.{Contains}
use Rattle.std.specs.Str.{bytes_eq}
use Rattle.model_asked.specs.declared.kind.WorldKind.{WorldKind}
use Rattle.model_asked.specs.declared.kind.WorldKind.TheVariants.{Splitter, Grid, Rename, Tree, Wide}

-- the name of a world, in the command line and in records
abbrev pub world_name : WorldKind → List ℕ
world_name Splitter = codes "splitter"
world_name Grid = codes "grid"
world_name Rename = codes "rename"
world_name Tree = codes "tree"
world_name Wide = codes "wide"

-- places are in a tree, be names given over them or not
abbrev pub is_tree : WorldKind → Bool
is_tree Splitter = false
is_tree Grid = false
is_tree Rename = false
is_tree Tree = true
is_tree Wide = false

-- names are given in three of the worlds
abbrev pub gives_names : WorldKind → Bool
gives_names Splitter = false
gives_names Grid = false
gives_names Rename = true
gives_names Tree = true
gives_names Wide = true

-- names are given over a grid
abbrev pub IsOverGrid : WorldKind → Type 0
IsOverGrid kind = (gives_names kind ≡ true) × (is_tree kind ≡ false)

-- as many as may take part in a world: places in a tree are had by more
abbrev pub most_in : WorldKind → ℕ
most_in Splitter = 16
most_in Grid = 16
most_in Rename = 16
most_in Tree = 64
most_in Wide = 16

-- the pool of one world may have many numbers: there probes until a number is had are one event
abbrev pub is_wide : WorldKind → Bool
is_wide Splitter = false
is_wide Grid = false
is_wide Rename = false
is_wide Tree = false
is_wide Wide = true

-- as many numbers as a pool may get in a world
abbrev pub numbers_in : WorldKind → ℕ
numbers_in Splitter = 64
numbers_in Grid = 64
numbers_in Rename = 64
numbers_in Tree = 64
numbers_in Wide = 65536

-- where names are given over a tree, that is over the places of a world in a tree; elsewhere over those of the others
abbrev pub is_played_over : WorldKind → WorldKind → Bool
is_played_over kind served = cond (gives_names kind) (cond (is_tree kind) (is_tree served) (not (is_tree served))) false

-- whether two are one world, by their names
abbrev pub is_kind : WorldKind → WorldKind → Bool
is_kind kind other = bytes_eq (world_name kind) (world_name other)

abbrev pub all_kinds : List WorldKind
all_kinds = Splitter ∷ Grid ∷ Rename ∷ Tree ∷ Wide ∷ []

-- a lower-case letter
abbrev pub is_letter : ℕ → Bool
is_letter byte = nat_le 97 byte && nat_le byte 122

-- the first of these worlds that is called so
abbrev pub first_named : List ℕ → List WorldKind → Option WorldKind
first_named name [] = None
first_named name (kind ∷ more) = cond (bytes_eq name (world_name kind)) (Some kind) (first_named name more)

-- a world is one of all; its name is at most 8 letters, and no other's; at most 64 take part; its pool has at most 65,536 numbers; and names are given in no other than three
pub record KindFacts (kind : WorldKind) : Type 0 where
  pub among : Contains all_kinds kind
  pub letters : list_all is_letter (world_name kind) ≡ true
  pub short : length (world_name kind) ≤ 8
  pub named : first_named (world_name kind) all_kinds ≡ Some kind
  pub few : most_in kind ≤ 64
  pub numbers : (64 ≤ numbers_in kind) × (numbers_in kind ≤ 65536)
  pub names : gives_names kind ≡ true → (kind ≡ Rename) ⊎ (kind ≡ Tree) ⊎ (kind ≡ Wide)

pub facts_of : (kind : WorldKind) → KindFacts kind
facts_of Splitter = record { among = (0, omega arith, refl); letters = refl; short = omega arith; named = refl; few = omega arith; numbers = (omega arith, omega arith); names = λ given. absurd cc }
facts_of Grid = record { among = (1, omega arith, refl); letters = refl; short = omega arith; named = refl; few = omega arith; numbers = (omega arith, omega arith); names = λ given. absurd cc }
facts_of Rename = record { among = (2, omega arith, refl); letters = refl; short = omega arith; named = refl; few = omega arith; numbers = (omega arith, omega arith); names = λ given. inl refl }
facts_of Tree = record { among = (3, omega arith, refl); letters = refl; short = omega arith; named = refl; few = omega arith; numbers = (omega arith, omega arith); names = λ given. inr (inl refl) }
facts_of Wide = record { among = (4, omega arith, refl); letters = refl; short = omega arith; named = refl; few = omega arith; numbers = (omega arith, omega arith); names = λ given. inr (inr refl) }
