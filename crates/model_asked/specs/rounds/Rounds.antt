-- rounds of proposals over a snapshot, and their end (the problem and the algorithm: Attiya et al. 1990; that the proposals of
-- some runs grow exponentially: Fouren 1999; this bound and its proof: this project's own)
use Rattle.std.specs.Prelude.{◌≡◌, ◌≢◌, ℕ, zero, suc, ◌+◌, ◌*◌, ◌<◌, ◌≤◌, ◌==◌, ◌⊎◌, if◌then◌else◌, List, length, Option, Some, None}
use Rattle.std.specs.List.{Contains}
use Rattle.model_steps.specs.View.{IsRising, value_of}
use Rattle.model_asked.specs.rounds.Proposals.{next_proposal}

-- A history of proposals, numbered from 1 on: whose each is, and the moments. A moment is the map from identity to proposal
-- after so many proposals: what the memory then holds
pub record Proposals : Type 0 where
  pub whose : ℕ → ℕ
  pub moment : ℕ → ℕ → Option ℕ

-- q makes none of the proposals that follow the first `from`, up to the one numbered `to`
abbrev pub IsSilent : Proposals → ℕ → ℕ → ℕ → Type 0
IsSilent h q from to = (t : ℕ) → from < t → t ≤ to → h.whose t ≢ q

-- q has made no proposal before, and proposes 1
pub record IsFirst (h : Proposals) (t q : ℕ) : Type 0 where
  pub none : h.moment t q ≡ None
  pub proposes : h.moment (suc t) q ≡ Some 1

-- q has looked since its last proposal: its view is one moment, maybe an old one, in which another proposes what q does
pub record IsSeen (h : Proposals) (t q : ℕ) : Type 0 where
  pub view : List (ℕ × ℕ)
  pub index : ℕ
  pub earlier : index ≤ t
  pub recent : IsSilent h q index t
  pub rising : IsRising view
  pub values : (u : ℕ) → value_of u view ≡ h.moment index u
  pub number : ℕ
  pub own : h.moment index q ≡ Some number
  pub other : ℕ
  pub not_own : other ≢ q
  pub contested : h.moment index other ≡ Some number

-- q proposes the r-th number that no other proposes in that view, where r is its rank there
pub record IsChosen (h : Proposals) (t q : ℕ) : Type 0 where
  pub seen : IsSeen h t q
  pub proposes : h.moment (suc t) q ≡ Some (next_proposal q seen.view)

-- The first `last` proposals keep the rule: each is a first one, or is chosen by a view. Nothing is proposed at first, and a
-- proposal changes what its identity proposes, and nothing else. Whoever makes no more proposals, named, spent or crashed,
-- goes on to propose what it did
pub record AreByRule (h : Proposals) (last : ℕ) : Type 0 where
  pub nothing : (q : ℕ) → h.moment 0 q ≡ None
  pub others : (t q : ℕ) → t < last → q ≢ h.whose (suc t) → h.moment (suc t) q ≡ h.moment t q
  pub rule : (t : ℕ) → t < last → IsFirst h t (h.whose (suc t)) ⊎ IsChosen h t (h.whose (suc t))

-- each of these proposals is of one of these identities
abbrev pub AreOf : Proposals → ℕ → List ℕ → Type 0
AreOf h last identities = (t : ℕ) → 1 ≤ t → t ≤ last → Contains identities (h.whose t)

-- the most proposals that so many identities make, all together: 3(5^b - 1)/4 for b of them
abbrev pub most_proposals : ℕ → ℕ
most_proposals zero = 0
most_proposals (suc b) = 5 * most_proposals b + 3

-- rounds end: proposals by the rule, of these identities, are no more than that
abbrev pub RoundsEnd : Type 0
RoundsEnd = (h : Proposals) (last : ℕ) (identities : List ℕ) → AreByRule h last → AreOf h last identities → last ≤ most_proposals (length identities)

-- how many of the first `last` proposals are q's
abbrev pub made_by : Proposals → ℕ → ℕ → ℕ
made_by h q zero = 0
made_by h q (suc last) = (if h.whose (suc last) == q then 1 else 0) + made_by h q last

-- rounds are shared: of proposals by the rule, those of one identity are at most one more than half
abbrev pub RoundsAreShared : Type 0
RoundsAreShared = (h : Proposals) (last : ℕ) (identities : List ℕ) (q : ℕ) → AreByRule h last → AreOf h last identities → 2 * made_by h q last ≤ most_proposals (length identities) + 2
