-- what a note says
use Rattle.std.specs.Prelude.{Bool, true, false}
use Rattle.model_steps.specs.declared.note.Note.{Note}
use Rattle.model_steps.specs.declared.note.Note.TheVariants.{Quiet, Said, Ended}

-- whether a note ends a program
abbrev pub ends : {O : Type 0} → Note O → Bool
ends Quiet = false
ends (Said said) = false
ends (Ended said) = true
