-- what a seat of a splitter knows
use Rattle.std.specs.Prelude.{ℕ, ◌+◌, ◌-◌, List, [], ◌∷◌}
use Rattle.model_splitter.specs.declared.stage.VisitStage.{VisitStage}
use Rattle.model_splitter.specs.declared.stage.VisitStage.TheVariants.{Outside}
use Rattle.words_machine.specs.parts.Numbered.{numbered_from}
use Rattle.words_machine.specs.declared.parts.splitter_view.Visit.{Visit}
use Rattle.words_machine.specs.declared.parts.splitter_view.SplitterView.{SplitterView}

-- the word that a seat writes into X: its number plus one, for 0 in X says that no seat has begun
abbrev pub own_word : ℕ → ℕ
own_word number = number + 1

abbrev pub visit_at : ℕ → VisitStage → ℕ → ℕ → ℕ → Visit
visit_at number stage accesses turn met = record { number = number; stage = stage; accesses = accesses; turn = turn; met = met }

-- a visit that has not begun
abbrev pub fresh_visit : ℕ → Visit
fresh_visit number = visit_at number Outside 0 0 0

abbrev pub view_of : ℕ → List Visit → SplitterView
view_of seats visits = record { seats = seats; visits = visits }

-- the view of a seat with one visit
abbrev pub lone_view : ℕ → Visit → SplitterView
lone_view seats visit = view_of seats (visit ∷ [])

-- so many visits that have not begun, by rising number
abbrev pub unbegun_from : ℕ → ℕ → List Visit
unbegun_from = numbered_from fresh_visit

-- the view of the seat that the others are dealt from: the visits of a splitter's seats from this number on
abbrev pub undealt_from : ℕ → ℕ → SplitterView
undealt_from number seats = view_of seats (unbegun_from number (seats - number))
