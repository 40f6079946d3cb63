-- the ranges of what is asked for (this project's profile)
use Rattle.std.specs.Prelude.{◌≡◌, ℕ, ◌<◌, ◌≤◌, ◌^◌, Bool, true}
use Rattle.model_asked.specs.declared.kind.WorldKind.{WorldKind}
use Rattle.model_asked.specs.Config.{gives_names}

-- the seed has 64 bits, the identities are 1 to 64, the steps at most 1,000,000, the runs at most 1,000, those at once at most 64, and names are
-- given in the world
abbrev pub IsDrawingRange : ℕ → ℕ → ℕ → ℕ → ℕ → WorldKind → Type 0
IsDrawingRange seed ids steps runs jobs world = (seed < 2 ^ 64) × (1 ≤ ids) × (ids ≤ 64) × (steps ≤ 1000000) × (runs ≤ 1000) × (jobs ≤ 64) × (gives_names world ≡ true)

-- there are 1 to 64 threads and 1 to 1,000,000 rounds, and the seed has 64 bits
abbrev pub IsRacingRange : ℕ → ℕ → ℕ → Type 0
IsRacingRange threads rounds seed = (1 ≤ threads) × (threads ≤ 64) × (1 ≤ rounds) × (rounds ≤ 1000000) × (seed < 2 ^ 64)

-- the port has 16 bits, there are 1 to 16 workers and 1 to 1,000,000 connections, and names are given in the world
abbrev pub IsServingRange : WorldKind → ℕ → ℕ → ℕ → Type 0
IsServingRange world port workers count = (port ≤ 65535) × (1 ≤ workers) × (workers ≤ 16) × (1 ≤ count) × (count ≤ 1000000) × (gives_names world ≡ true)

-- the mode of a file has 9 bits
abbrev pub IsModeRange : ℕ → Type 0
IsModeRange mode = mode ≤ 511

-- there are 1 to 1,000,000 clients, one is idle for at most a year, and names are given in the world
abbrev pub IsHostingRange : WorldKind → ℕ → ℕ → Type 0
IsHostingRange world clients idle = (1 ≤ clients) × (clients ≤ 1000000) × (idle ≤ 31536000) × (gives_names world ≡ true)

-- a log is waited for from 1 to 3,600 seconds
abbrev pub IsPatience : ℕ → Type 0
IsPatience patience = (1 ≤ patience) × (patience ≤ 3600)

-- the first event and how many there are from it on are 1 to 1,000,000
abbrev pub IsShowingRange : ℕ → ℕ → Type 0
IsShowingRange from count = (1 ≤ from) × (from ≤ 1000000) × (1 ≤ count) × (count ≤ 1000000)

-- a record is written where names are given, and replies in any world
abbrev pub CanBeWritten : Bool → WorldKind → Type 0
CanBeWritten recorded world = recorded ≡ true → gives_names world ≡ true
