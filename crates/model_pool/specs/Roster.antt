-- an invariant of the competitors of every pool, and of the index that it has of their identities
use Rattle.std.specs.Prelude.{◌≡◌, ℕ, zero, suc, ◌*◌, ◌/◌, ◌%◌, ◌^◌, ◌<◌, ◌==◌, if◌then◌else◌, List, [], ◌∷◌, length, map, Option, None, Some, slice_index, slice_index_or}
use Rattle.model_pool.specs.declared.competitor.Competitor.{Competitor}
use Rattle.model_pool.specs.declared.entry.Entry.{Entry}
use Rattle.model_pool.specs.declared.stay.Stay.{Stay}
use Rattle.model_pool.specs.Competitors.{stay_of}

-- what a contract sees of the competitors: how many may compete, and those that do, in the order of entering
pub record RosterState : Type 0 where
  pub most : ℕ
  pub competitors : List Competitor

-- no identity occurs twice
abbrev pub AreDistinct : List Competitor → Type 0
AreDistinct [] = Unit {0}
AreDistinct (c ∷ cs) = (stay_of c.identity cs ≡ None) × AreDistinct cs

-- the competitors of entries: those whose stay has not ended
abbrev pub live_one : ℕ → Option Stay → List Competitor → List Competitor
live_one id None cs = cs
live_one id (Some stay) cs = record { identity = id; stay = stay } ∷ cs

abbrev pub live : List Entry → List Competitor
live [] = []
live (e ∷ es) = live_one e.identity e.stay (live es)

abbrev pub noted : List Entry → List ℕ
noted es = map (λ e. e.identity) es

-- the bucket of an identity, of so many: by a multiplication that mixes its bits
unfoldable pub bucket : ℕ → ℕ → ℕ
bucket width id = (id * 11400714819323198485) % 2 ^ 64 / 4294967296 * width / 4294967296

-- where the last of the first n identities stands whose bucket is this one, counted from 1; or 0 if there is none
abbrev pub latest : List ℕ → ℕ → ℕ → ℕ → ℕ
latest ids width b zero = 0
latest ids width b (suc n) = if bucket width (slice_index ids n) == b then suc n else latest ids width b n

-- each bucket has its last identity, and each identity the one before it in its bucket
pub record AreIndexed (heads links ids : List ℕ) : Type 0 where
  pub many : length links ≡ length ids
  pub heads_are : (b : ℕ) → b < length heads → slice_index heads b ≡ latest ids (length heads) b (length ids)
  pub links_are : (i : ℕ) → i < length ids → slice_index links i ≡ latest ids (length heads) (bucket (length heads) (slice_index ids i)) i

-- a competitor of this identity is the entry at this index
pub record IsEntry (es : List Entry) (id at : ℕ) : Type 0 where
  pub inside : at < length es
  pub stay : Stay
  pub is : (d : Entry) → slice_index_or es at d ≡ record { identity = id; stay = Some stay }
