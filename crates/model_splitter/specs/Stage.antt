-- the stages of a visit, and the effect of its next access on X, on Y and on its stage
use Rattle.std.specs.Prelude.{ℕ, Bool, true, false, ◌==◌, if◌then◌else◌}
use Rattle.model_splitter.specs.declared.way.Way.TheVariants.{Stop, Right, Down}
use Rattle.model_splitter.specs.declared.stage.VisitStage.{VisitStage}
use Rattle.model_splitter.specs.declared.stage.VisitStage.TheVariants.{Outside, WroteX, SawClear, WroteY, Gone}

-- it has made an access
abbrev pub has_entered : VisitStage → Bool
has_entered Outside = false
has_entered s = true

-- it has set Y
abbrev pub has_set : VisitStage → Bool
has_set WroteY = true
has_set (Gone Stop) = true
has_set (Gone Down) = true
has_set s = false

-- it saw Y clear, and has not ended
abbrev pub is_between : VisitStage → Bool
is_between SawClear = true
is_between WroteY = true
is_between s = false

-- it has ended
abbrev pub is_gone : VisitStage → Bool
is_gone (Gone way) = true
is_gone s = false

abbrev pub has_stopped : VisitStage → Bool
has_stopped (Gone Stop) = true
has_stopped s = false

abbrev pub went_right : VisitStage → Bool
went_right (Gone Right) = true
went_right s = false

abbrev pub went_down : VisitStage → Bool
went_down (Gone Down) = true
went_down s = false

-- X after the next access of p, by what it held before
abbrev pub x_after : ℕ → VisitStage → ℕ → ℕ
x_after p Outside x = p
x_after p s x = x

-- Y after that access, by what it held before; 0 is clear
abbrev pub y_after : VisitStage → ℕ → ℕ
y_after Outside y = y
y_after WroteX y = y
y_after SawClear y = 1
y_after WroteY y = y
y_after (Gone way) y = y

-- the stage of p after that access
abbrev pub stage_after : ℕ → VisitStage → ℕ → ℕ → VisitStage
stage_after p Outside x y = WroteX
stage_after p WroteX x y = if y == 0 then SawClear else Gone Right
stage_after p SawClear x y = WroteY
stage_after p WroteY x y = if x == p then Gone Stop else Gone Down
stage_after p (Gone way) x y = Gone way
