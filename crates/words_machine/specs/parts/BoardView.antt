-- what a seat of a name board knows
use Rattle.std.specs.Prelude.{ℕ, suc, ◌+◌, List, [], ◌∷◌, ◌++◌}
use Rattle.words_machine.specs.declared.parts.board_view.BoardClaim.{BoardClaim}
use Rattle.words_machine.specs.declared.parts.board_view.BoardView.{BoardView}

abbrev pub claim : ℕ → ℕ → BoardClaim
claim word identity = record { word = word; identity = identity }

abbrev pub board_view : List BoardClaim → ℕ → ℕ → List ℕ → BoardView
board_view claims accesses found read = record { claims = claims; accesses = accesses; found = found; read = read }

-- the view of a seat with these claims, which has made no access
abbrev pub claims_of : List BoardClaim → BoardView
claims_of claims = board_view claims 0 0 []

-- the view of a seat that claims nothing, and has made so many accesses, of which the last post or look found this
abbrev pub no_claim_after : ℕ → ℕ → BoardView
no_claim_after accesses found = board_view [] accesses found []

abbrev pub no_claim : BoardView
no_claim = claims_of []

-- the view of a seat with one claim
abbrev pub lone_claim : ℕ → ℕ → BoardView
lone_claim word identity = claims_of (claim word identity ∷ [])

-- the claims of two seats, with the accesses of both and that by which they became one; what was found and read is the first's
abbrev pub united : BoardView → BoardView → BoardView
united v w = board_view (v.claims ++ w.claims) (suc (v.accesses + w.accesses)) v.found v.read
