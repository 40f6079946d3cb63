-- a grid over shared atomic words and its seats, as callers see them
use Rattle.std.specs.Prelude.{ℕ}
use Rattle.model_splitter.specs.declared.grid.door.Door.{Door}
use Rattle.model_splitter.specs.declared.grid.walker.Walker.{Walker}
use Rattle.model_splitter.specs.grid.Door.{number_of}
use Rattle.words_machine.specs.Ids.{WordsId, EndedRun}

-- which grid it is, and how many seats it has at most: which words they are
abbrev pub GridId : Type 0
GridId = WordsId

-- a walk that has ended: which grid's, which seat's, at which door; how many walks had begun when it ended, itself among
-- them; and how many accesses it made
pub record EndedWalk : Type 0 where
  pub grid : GridId
  pub number : ℕ
  pub door : Door
  pub entered : ℕ
  pub accesses : ℕ

-- as the run of its program over the grid's words ended
abbrev pub walk_of_run : EndedRun Walker ℕ → EndedWalk
walk_of_run e = record { grid = e.words; number = e.number; door = e.program.door; entered = e.entered; accesses = e.accesses }

-- its place
abbrev pub place_of : EndedWalk → ℕ
place_of e = number_of e.door

-- that a walk of this grid, of this number, has ended at this place
pub record ClaimId : Type 0 where
  pub grid : GridId
  pub number : ℕ
  pub place : ℕ

abbrev pub claim_at : GridId → ℕ → ℕ → ClaimId
claim_at grid number place = record { grid = grid; number = number; place = place }

abbrev pub claim_of : EndedWalk → ClaimId
claim_of e = claim_at e.grid e.number (place_of e)
