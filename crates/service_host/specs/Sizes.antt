-- how many numbers the pool of a hall has, and how many are asked for
use Rattle.std.specs.Prelude.{◌≡◌, ◌⊎◌, ◌==◌, ◌&&◌, ltb, nat_le, if◌then◌else◌, slice_get, ℕ, List, Bool, Option, Some, None}
use Rattle.model_asked.specs.Config.{gives_names, is_tree}
use Rattle.model_asked.specs.declared.config.Config.{Config}
use Rattle.model_asked.specs.declared.kind.WorldKind.{WorldKind}
use Rattle.text_lines.specs.Meaning.{number_in, words}
use Rattle.text_worlds.specs.desk.Held.{slots_of}
use Rattle.service_hall.specs.HallState.{HallState}
use Rattle.service_hall.specs.Halls.{desk_of}
use Rattle.service_follow.specs.Terms.{IsFirstLine}
use Rattle.service_host.specs.declared.sizes.Sizing.{Sizing}
use Rattle.service_host.specs.declared.sizes.Sizing.TheVariants.{Fits, Widens, Exceeds}

-- how many numbers the pool of a hall has
abbrev pub size_of : HallState → ℕ
size_of h = (slots_of (desk_of h)).pool.size

-- and how many it may get
abbrev pub most_of : HallState → ℕ
most_of h = (slots_of (desk_of h)).pool.most

-- A pool of fewer numbers than are asked for is to be widened. One of more is refused, but where clients may have widened it and the hall was
-- made with no more than are asked for
abbrev pub sizing_of : HallState → ℕ → Bool → Sizing
sizing_of h asked by_clients =
    if ltb (size_of h) asked then Widens else if size_of h == asked then Fits else if by_clients && nat_le h.config.k asked then Fits else Exceeds

-- names are given in both worlds or in none, and over places of one kind
abbrev pub AreAlikeWorlds : WorldKind → WorldKind → Type 0
AreAlikeWorlds kind other = (gives_names other ≡ gives_names kind) × (is_tree other ≡ is_tree kind)

-- two configs are the same, but for the pool: its size, and whether it may have many numbers
abbrev pub IsAlikeButSize : Config → Config → Type 0
IsAlikeButSize c d = AreAlikeWorlds c.world d.world × (d.m ≡ c.m) × (d.limit ≡ c.limit)

-- the number that a word writes, where there is one
abbrev pub number_of : Option (List ℕ) → Option ℕ
number_of None = None
number_of (Some word) = number_in word

-- the size of the pool in the first entry of a log: the number that its ninth word writes
abbrev pub size_told : List ℕ → Option ℕ
size_told entry = number_of (slice_get (words entry) 8)

-- no config that differs from this one in the pool alone has this first line
abbrev pub IsOfNoneAlike : Config → List ℕ → Type 0
IsOfNoneAlike config entry = (d : Config) → IsAlikeButSize config d → ¬ (IsFirstLine d entry)

-- What the first entry of a log tells of its config: the one whose first line it is, where that differs in the pool alone. Where it is of no such config
-- nothing is told
abbrev pub TellsConfig : Config → List ℕ → Option Config → Type 0
TellsConfig config entry None = IsOfNoneAlike config entry
TellsConfig config entry (Some found) = IsAlikeButSize config found × IsFirstLine found entry

-- The config with which the hall of a log is opened, where another one is asked for: what the first entry tells, as the store told that. It is the one that is
-- asked for where nothing stands there, or where the entry is of no config that differs in the pool alone
abbrev pub IsConfigIn : Config → (ℕ → List ℕ → Type 0) → (ℕ → Type 0) → Config → Type 0
IsConfigIn config stands lacks found =
    ((found ≡ config) × lacks 0) ⊎ ((entry : List ℕ) × stands 0 entry × (TellsConfig config entry (Some found) ⊎ ((found ≡ config) × TellsConfig config entry None)))
