-- The rule of a name board over shared atomic words: each claim in the view of any seat finds its word equal to its identity, and no
-- identity is 0. So a word that is claimed never changes, and two claims of one word are of one identity (this project's
-- profile). A word that is not 0 is claimed by some seat, so a new board's words are 0.
use Rattle.std.specs.Prelude.{◌≡◌, ◌≢◌, ◌⊎◌, ℕ, List, [], ◌∷◌, length}
use mathlib.Core.Option.{some}
use lib.ListN.{get_elem?}
use Rattle.atomic_table.specs.Table.{State}
use Rattle.words_machine.specs.declared.parts.board_view.BoardClaim.{BoardClaim}
use Rattle.words_machine.specs.declared.parts.board_view.BoardView.{BoardView}
use Rattle.words_machine.specs.parts.BoardView.{claim}

-- the word of this claim holds its identity, which is not 0
abbrev pub IsSo : List ℕ → BoardClaim → Type 0
IsSo words c = (get_elem? words c.word ≡ some c.identity) × (c.identity ≢ 0)

-- this claim is one of these
abbrev pub IsClaimed : BoardClaim → List BoardClaim → Type 0
IsClaimed c [] = ⊥
IsClaimed c (d ∷ ds) = (c ≡ d) ⊎ IsClaimed c ds

abbrev pub AreSo : List ℕ → List BoardClaim → Type 0
AreSo words [] = Unit {0}
AreSo words (c ∷ cs) = IsSo words c × AreSo words cs

-- some seat has this claim
pub record IsGranted (views : List BoardView) (c : BoardClaim) : Type 0 where
  pub seat : ℕ
  pub view : BoardView
  pub there : get_elem? views seat ≡ some view
  pub claimed : IsClaimed c view.claims

-- The rule, of a board of so many words
pub record KeepsBoard (count : ℕ) (words : List ℕ) (views : List BoardView) : Type 0 where
  pub as_many : length words ≡ count
  pub claimed : (seat : ℕ) (v : BoardView) → get_elem? views seat ≡ some v → AreSo words v.claims
  -- nothing stands in a word but what some seat posted or found there, so at first each word is 0
  pub posted : (word who : ℕ) → get_elem? words word ≡ some who → who ≢ 0 → IsGranted views (claim word who)

abbrev pub KeepsBoardRule : {S : Type 0} → ℕ → State S BoardView → Type 0
KeepsBoardRule count s = KeepsBoard count s.words s.views

-- where the rule is kept, the word of a claim that some seat has holds its identity
abbrev pub HoldsWhatIsClaimed : Type 0
HoldsWhatIsClaimed = (count : ℕ) (words : List ℕ) (views : List BoardView) (c : BoardClaim) → KeepsBoard count words views → IsGranted views c → IsSo words c

-- and two claims of one word are of one identity
abbrev pub HasOneIdentity : Type 0
HasOneIdentity =
    (count : ℕ) (words : List ℕ) (views : List BoardView) (c d : BoardClaim) → KeepsBoard count words views → IsGranted views c → IsGranted views d →
    c.word ≡ d.word → c.identity ≡ d.identity

-- and what stands in a word that is not 0 some seat claims
abbrev pub IsClaimedWhereNotZero : Type 0
IsClaimedWhereNotZero =
    (count : ℕ) (words : List ℕ) (views : List BoardView) (word who : ℕ) → KeepsBoard count words views → get_elem? words word ≡ some who → who ≢ 0 →
    IsGranted views (claim word who)
