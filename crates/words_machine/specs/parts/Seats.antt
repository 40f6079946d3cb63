-- the splitter over shared atomic words and its seats, as callers see them
use Rattle.std.specs.Prelude.{◌≡◌, ◌≢◌, ◌<◌, ◌≤◌, ℕ, zero, suc, List, [], ◌∷◌, ◌++◌, ◌⊎◌}
use Rattle.atomic_table.specs.Seated.{TableId}
use Rattle.model_splitter.specs.declared.way.Way.{Way}
use Rattle.model_splitter.specs.declared.way.Way.TheVariants.{Stop, Right, Down}
use Rattle.model_splitter.specs.declared.stage.VisitStage.TheVariants.{Gone}
use Rattle.words_machine.specs.declared.parts.splitter_view.Visit.{Visit}
use Rattle.words_machine.specs.declared.parts.splitter_view.SplitterView.{SplitterView}
use Rattle.words_machine.specs.parts.SplitterView.{own_word, fresh_visit, lone_view, visit_at}

-- which splitter it is, and how many seats it has
pub record SplitterId : Type 0 where
  pub table : TableId
  pub seats : ℕ

-- which seat of which splitter it is
pub record SeatId : Type 0 where
  pub splitter : SplitterId
  pub number : ℕ

-- a visit that has ended: which splitter's, which seat's, by which way, after how many accesses, with which turn at X, and
-- whom it met: the word of another seat, its number plus one, or 0
pub record EndedVisit : Type 0 where
  pub splitter : SplitterId
  pub number : ℕ
  pub way : Way
  pub accesses : ℕ
  pub turn : ℕ
  pub met : ℕ

abbrev pub seat_of : SplitterId → ℕ → SeatId
seat_of splitter number = record { splitter = splitter; number = number }

-- so many seats of a splitter, by rising number from 0
abbrev pub first_seats : SplitterId → ℕ → List SeatId
first_seats splitter zero = []
first_seats splitter (suc count) = first_seats splitter count ++ seat_of splitter count ∷ []

-- a visit of this seat that ended by this way
abbrev pub IsVisitOf : SeatId → Way → EndedVisit → Type 0
IsVisitOf seat way e = (e.splitter ≡ seat.splitter) × (e.number ≡ seat.number) × (e.way ≡ way)

-- a visit met another of the splitter's seats where it went right or down, and none where it stopped
abbrev pub MetBy : EndedVisit → Way → Type 0
MetBy e Stop = e.met ≡ 0
MetBy e Right = (0 < e.met) × (e.met ≤ e.splitter.seats) × (e.met ≢ own_word e.number)
MetBy e Down = (0 < e.met) × (e.met ≤ e.splitter.seats) × (e.met ≢ own_word e.number)

-- one visit met the other: it names that one's word
abbrev pub HasMet : EndedVisit → EndedVisit → Type 0
HasMet a b = a.met ≡ own_word b.number

-- how many seats the first view speaks of
abbrev pub seats_in : List SplitterView → ℕ
seats_in [] = 0
seats_in (v ∷ vs) = v.seats

-- the first visit of the first view, or one that has not begun
abbrev pub first_of : List Visit → Visit
first_of [] = fresh_visit 0
first_of (v ∷ vs) = v

abbrev pub visit_in : List SplitterView → Visit
visit_in [] = fresh_visit 0
visit_in (v ∷ vs) = first_of v.visits

-- the visit of a badge that went this way
abbrev pub ended_visit : TableId → ℕ → Way → List SplitterView → EndedVisit
ended_visit table number way views =
    record {
      splitter = record { table = table; seats = seats_in views };
      number = number;
      way = way;
      accesses = (visit_in views).accesses;
      turn = (visit_in views).turn;
      met = (visit_in views).met;
    }

-- the visit of a seat that has ended, as its view has it
abbrev pub gone_at : EndedVisit → Visit
gone_at e = visit_at e.number (Gone e.way) e.accesses e.turn e.met

-- a badge has the view of a seat whose visit, of this number, ended by this way
abbrev pub IsOfEnded : ℕ → Way → List SplitterView → Type 0
IsOfEnded number way views =
    views ≡ lone_view (seats_in views) (visit_at number (Gone way) (visit_in views).accesses (visit_in views).turn (visit_in views).met) ∷ []

-- p is one of the two seats
abbrev pub IsEither : EndedVisit → EndedVisit → ℕ → Type 0
IsEither a b p = (p ≡ a.number) ⊎ (p ≡ b.number)

-- p is one of them, and this is the way that it took
abbrev pub EitherTook : EndedVisit → EndedVisit → ℕ → Way → Type 0
EitherTook a b p way = ((p ≡ a.number) × (way ≡ a.way)) ⊎ ((p ≡ b.number) × (way ≡ b.way))
