-- the counts of a run and its answers
use Rattle.std.specs.Prelude.{◌≡◌, ◌+◌, List, length, Result}
use Rattle.model_asked.specs.declared.bad.Bad.{Bad}
use Rattle.model_asked.specs.Replies.{ShownReply}
use Rattle.text_player.specs.declared.summary.Summary.{Summary}
use Rattle.text_player.specs.Summary.{total, one_if_accepted, one_if_refused, one_if_bad}

-- the summary counts these answers: each line is accepted, refused or bad
pub record CountsAnswers (given : List (Result ShownReply Bad)) (s : Summary) : Type 0 where
  pub lines : s.lines ≡ length given
  pub accepted : s.accepted ≡ total one_if_accepted given
  pub refused : s.refused ≡ total one_if_refused given
  pub bad : s.bad ≡ total one_if_bad given
  pub all : s.lines ≡ s.accepted + s.refused + s.bad
