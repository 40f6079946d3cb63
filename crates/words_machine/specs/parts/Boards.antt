-- a name board and its seats, as callers see them
use Rattle.std.specs.Prelude.{◌≡◌, ◌≢◌, ◌<◌, ◌≤◌, ◌+◌, ◌-◌, ℕ, List, [], ◌∷◌, reverse, slice_index, if◌then◌else◌, ◌==◌, ◌||◌}
use Rattle.atomic_table.specs.Seated.{TableId}
use Rattle.words_machine.specs.declared.parts.board_view.BoardView.{BoardView}
use Rattle.words_machine.specs.parts.BoardView.{claim}
use Rattle.words_machine.specs.declared.parts.board_view.BoardClaim.{BoardClaim}
use Rattle.words_machine.specs.parts.BoardRule.{IsClaimed}

-- the table of a board: from 1 to 127 words, as many as its rule speaks of, and no slots
abbrev pub IsBoardTable : TableId → ℕ → Type 0
IsBoardTable table count = (0 < table.words) × (table.words ≤ 127) × (count ≡ table.words) × (table.slots ≡ 0)

-- a grant: on which board, by which name (the number of a word, from 1), and to whom
pub record GrantId : Type 0 where
  pub board : TableId
  pub name : ℕ
  pub identity : ℕ

abbrev pub grant_of : TableId → ℕ → ℕ → GrantId
grant_of board name identity = record { board = board; name = name; identity = identity }

-- this board has the name, and the identity may have one
abbrev pub MayHold : TableId → ℕ → ℕ → Type 0
MayHold board name identity = (1 ≤ name) × (name ≤ board.words) × (identity ≢ 0)

-- a seat that claims nothing: of which board, how many accesses it has made, and what its last post or look found, or 0
pub record ReaderId : Type 0 where
  pub board : TableId
  pub accesses : ℕ
  pub found : ℕ

abbrev pub reader_of : TableId → ℕ → ℕ → ReaderId
reader_of board accesses found = record { board = board; accesses = accesses; found = found }

-- the seat with which a board ended: of which, how many accesses it made, and what it found in one word after another, the
-- newest first
pub record LastReading : Type 0 where
  pub board : TableId
  pub accesses : ℕ
  pub read : List ℕ

abbrev pub reading_of : TableId → List BoardView → LastReading
reading_of board [] = record { board = board; accesses = 0; read = [] }
reading_of board (v ∷ vs) = record { board = board; accesses = v.accesses; read = v.read }

-- how many accesses a post makes that found this: one, and one more where a seat is split off for the grant
abbrev pub post_cost : ℕ → ℕ → ℕ
post_cost found identity = if found == 0 || found == identity then 2 else 1

-- how many accesses a look makes that found this: one, and one more where a seat is split off for what was found
abbrev pub look_cost : ℕ → ℕ
look_cost found = if found == 0 then 1 else 2

-- a seat of the board has taken over so many grants, by one access each, and has read each word in its turn, by one access
-- each, and found these
abbrev pub HasReadAll : ReaderId → ℕ → List ℕ → LastReading → Type 0
HasReadAll seat grants words r = (r.board ≡ seat.board) × (r.read ≡ reverse words) × (r.accesses ≡ seat.accesses + grants + seat.board.words)

-- this view has the claim that a grant tells
abbrev pub HasClaimOf : BoardView → GrantId → Type 0
HasClaimOf v g = IsClaimed (claim (g.name - 1) g.identity) v.claims × (g.name - 1 < g.board.words)

-- each claim of this view on one of so many words finds its identity there
abbrev pub FindsClaims : BoardView → ℕ → List ℕ → Type 0
FindsClaims v count words = (c : BoardClaim) → IsClaimed c v.claims → c.word < count → slice_index words c.word ≡ c.identity
