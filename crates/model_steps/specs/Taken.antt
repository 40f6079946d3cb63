-- steps that a shortcut may take, leave, or be refused memory for
use Rattle.std.specs.Prelude.{Option, None, Result, Ok, Err}

-- what was reported of the step, if it was taken
abbrev pub reported_in : {T E : Type 0} → Result (Option T) E → Option T
reported_in (Ok reported) = reported
reported_in (Err why) = None
