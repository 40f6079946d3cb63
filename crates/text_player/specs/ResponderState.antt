-- what a contract sees of one side of a transcript
use Rattle.std.specs.Prelude.{Bool}
use Rattle.model_asked.specs.declared.kind.WorldKind.{WorldKind}
use Rattle.text_lines.specs.HeldLine.{HeldLine}
use Rattle.text_player.specs.declared.summary.Summary.{Summary}

-- the kind of what answers, the line so far, the counts, and whether `quit` was answered
pub record ResponderState : Type 0 where
  pub kind : WorldKind
  pub line : HeldLine
  pub summary : Summary
  pub over : Bool
