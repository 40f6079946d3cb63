-- what each kind of step tells the seat that makes it
use Rattle.std.specs.Prelude.{◌≡◌, ℕ, suc, List, [], ◌∷◌, length, if◌then◌else◌, ◌==◌, ◌||◌}
use Rattle.atomic_table.specs.Table.{Me, Step}
use Rattle.words_machine.specs.declared.parts.board_view.BoardClaim.{BoardClaim}
use Rattle.words_machine.specs.declared.parts.board_view.BoardView.{BoardView}
use Rattle.words_machine.specs.parts.BoardView.{claim, board_view}
use Rattle.words_machine.specs.parts.BoardRule.{AreSo}

-- a post: the seat gains the claim where the word was 0 or held the identity, and keeps what it found
abbrev pub Posts : {S : Type 0} → Step S → Me S BoardView → ℕ → Me S BoardView → Type 0
Posts s before found after =
    after ≡ (
      board_view (if found == 0 || found == s.second then claim s.word s.second ∷ before.0.claims else before.0.claims) (suc before.0.accesses)
          found before.0.read,
      before.1,
    )

-- a load: the seat gains the claim of the identity that it found, and keeps what it found
abbrev pub Finds : {S : Type 0} → Step S → Me S BoardView → ℕ → Me S BoardView → Type 0
Finds s before found after =
    after ≡
    (board_view (if found == 0 then before.0.claims else claim s.word found ∷ before.0.claims) (suc before.0.accesses) found before.0.read, before.1)

-- these claims stand together in some words
pub record AreTogether (v : BoardView) : Type 0 where
  pub words : List ℕ
  pub so : AreSo words v.claims

-- a load by a seat with two claims, that changes nothing
abbrev pub LooksOn : {S : Type 0} → Step S → Me S BoardView → ℕ → Me S BoardView → Type 0
LooksOn s before found after = (after ≡ before) × AreTogether after.0 × (length before.0.claims ≡ 2)

-- of these claims those of this word are of what was found in it
abbrev pub AgreeWith : ℕ → ℕ → List BoardClaim → Type 0
AgreeWith word found [] = Unit {0}
AgreeWith word found (c ∷ cs) = (c.word ≡ word → found ≡ c.identity) × AgreeWith word found cs

-- the board ends: a seat reads the next word
abbrev pub Reads : {S : Type 0} → Step S → Me S BoardView → ℕ → Me S BoardView → Type 0
Reads s before found after =
    (s.word ≡ length before.0.read) × AgreeWith s.word found before.0.claims ×
    (after ≡ (board_view before.0.claims (suc before.0.accesses) before.0.found (found ∷ before.0.read), before.1))
