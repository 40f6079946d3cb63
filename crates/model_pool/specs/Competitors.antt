-- competitors, by their identities
use Rattle.std.specs.Prelude.{ℕ, Bool, false, not, filter, List, [], ◌∷◌, Option, Some, None, ◌==◌, if◌then◌else◌, map}
use Rattle.model_steps.specs.Roster.{index_by, seen_by, replaced_by}
use Rattle.model_pool.specs.declared.competitor.Competitor.{Competitor}
use Rattle.model_pool.specs.declared.stay.Stay.{Stay}
use Rattle.model_pool.specs.Stay.{held_at}

-- the identities, in the order of entering
abbrev pub identities : List Competitor → List ℕ
identities cs = map (λ c. c.identity) cs

-- the index of an identity
abbrev pub index_of : ℕ → List Competitor → Option ℕ
index_of id cs = index_by (λ c. c.identity) id cs

-- the state of a competitor, or none if the identity does not compete
abbrev pub stay_of : ℕ → List Competitor → Option Stay
stay_of id cs = seen_by (λ c. c.identity) (λ c. c.stay) id cs

-- the competitors, with this state of that identity
abbrev pub with_stay : ℕ → Stay → List Competitor → List Competitor
with_stay id stay cs = replaced_by (λ c. c.identity) (record { identity = id; stay = stay }) cs

-- the competitors without that identity
abbrev pub without : ℕ → List Competitor → List Competitor
without id cs = filter (λ c. not (c.identity == id)) cs

abbrev pub held_by_stay : Option Stay → Option ℕ
held_by_stay None = None
held_by_stay (Some stay) = held_at stay

-- the number that an identity holds
abbrev pub held_in : ℕ → List Competitor → Option ℕ
held_in id cs = held_by_stay (stay_of id cs)

abbrev pub holds_at : ℕ → Option ℕ → Bool
holds_at number None = false
holds_at number (Some n) = n == number

-- the first competitor that holds a number
abbrev pub holder_in : ℕ → List Competitor → Option ℕ
holder_in number [] = None
holder_in number (c ∷ cs) = if holds_at number (held_at c.stay) then Some c.identity else holder_in number cs
