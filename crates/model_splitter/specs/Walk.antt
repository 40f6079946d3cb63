-- a walk from door to door, each of which has a splitter: its note and its place, by the stage of the visit to its door
-- (Moir and Anderson 1995)
use Rattle.std.specs.Prelude.{ℕ, Option, Some, None}
use Rattle.model_steps.specs.declared.note.Note.{Note}
use Rattle.model_steps.specs.declared.note.Note.TheVariants.{Quiet, Ended}
use Rattle.model_splitter.specs.declared.way.Way.TheVariants.{Stop, Right, Down}
use Rattle.model_splitter.specs.declared.stage.VisitStage.{VisitStage}
use Rattle.model_splitter.specs.declared.stage.VisitStage.TheVariants.{Outside, WroteX, SawClear, WroteY, Gone}

-- the walk: at its door, with the visit there, or before the next door where that visit ended right or down
abbrev pub gone_on : {W : Type 0} → (VisitStage → W) → W → W → VisitStage → W
gone_on here right down Outside = here Outside
gone_on here right down WroteX = here WroteX
gone_on here right down SawClear = here SawClear
gone_on here right down WroteY = here WroteY
gone_on here right down (Gone Stop) = here (Gone Stop)
gone_on here right down (Gone Right) = right
gone_on here right down (Gone Down) = down

-- what it says at door k: that it has ended there, once its visit stops
abbrev pub note_at_door : ℕ → VisitStage → Note ℕ
note_at_door k (Gone Stop) = Ended k
note_at_door k s = Quiet

-- the place that it has at door k
abbrev pub place_at_door : ℕ → VisitStage → Option ℕ
place_at_door k (Gone Stop) = Some k
place_at_door k s = None

-- the most accesses of a visit up to this stage
abbrev pub accesses_at : VisitStage → ℕ
accesses_at Outside = 0
accesses_at WroteX = 1
accesses_at SawClear = 2
accesses_at WroteY = 3
accesses_at (Gone way) = 4
