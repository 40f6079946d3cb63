-- how a grid's seats are dealt, one after another, and what a walk tells
use Rattle.std.specs.Prelude.{◌≡◌, ◌+◌, ℕ}
use Rattle.words_machine.specs.grid.Law.{WalkSpec}
use Rattle.words_machine.specs.Ids.{DealerId, SeatId, dealer_of, seat_of}
use Rattle.words_machine.specs.grid.Seats.{EndedWalk, GridId, place_of}

-- this seat is the next of a dealer, which has dealt one more then
abbrev pub IsNextOf : DealerId → DealerId → SeatId → Type 0
IsNextOf before after s = (s ≡ seat_of before.words before.dealt) × (after ≡ dealer_of before.words (before.dealt + 1))

-- a walk has ended in this grid at the place of which this is the number, from 1, as its law says
abbrev pub IsReportedAs : ℕ → GridId → EndedWalk → Type 0
IsReportedAs number grid e = (place_of e + 1 ≡ number) × (e.grid ≡ grid) × WalkSpec e
