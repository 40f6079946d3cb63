-- what a contract sees of a player
use Rattle.std.specs.Prelude.{ℕ, List, Bool}
use Rattle.model_asked.specs.declared.kind.WorldKind.{WorldKind}
use Rattle.text_lines.specs.HeldLine.{HeldLine}
use Rattle.text_player.specs.declared.summary.Summary.{Summary}
use Rattle.text_player.specs.ResponderState.{ResponderState}

-- the kind of what answers, the line so far, the replies that are not written yet, the counts, and whether `quit`
-- was answered
pub record PlayerState : Type 0 where
  pub kind : WorldKind
  pub line : HeldLine
  pub replies : List ℕ
  pub summary : Summary
  pub over : Bool

-- one side of a transcript, and the replies to it that are not written yet
abbrev pub player_of : ResponderState → List ℕ → PlayerState
player_of t replies = record { kind = t.kind; line = t.line; replies = replies; summary = t.summary; over = t.over }
