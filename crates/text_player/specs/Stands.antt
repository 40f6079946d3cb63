-- the state of a player: what it holds, and what its writer has gained so far
use Rattle.std.specs.Prelude.{◌≡◌, ℕ, ◌++◌, List, [], false, map, flat_map, Option, Result}
use Rattle.std.specs.Io.KnownBytes.{Appends}
use Rattle.model_asked.specs.declared.bad.Bad.{Bad}
use Rattle.model_asked.specs.declared.command.Command.{Command}
use Rattle.model_asked.specs.declared.kind.WorldKind.{WorldKind}
use Rattle.model_asked.specs.Replies.{ShownReply}
use Rattle.text_lines.specs.HeldLine.{held}
use Rattle.text_lines.specs.Written.{HasPartOf}
use Rattle.text_player.specs.Turns.{Turn, asked, answers_of}
use Rattle.text_player.specs.Counts.{CountsAnswers}
use Rattle.text_player.specs.PlayerState.{PlayerState}
use Rattle.text_player.specs.Progress.{Progress}
use Rattle.model_asked.specs.Requests.{Request}
use Rattle.text_player.specs.Runs.{Runs}

-- a player that has read nothing
pub record IsFresh (kind : WorldKind) (s : PlayerState) : Type 0 where
  pub kind_is : s.kind ≡ kind
  pub line : s.line ≡ held []
  pub replies : s.replies ≡ []
  pub counts : CountsAnswers [] s.summary
  pub over : s.over ≡ false

-- some of the replies that it held are written, and nothing else changes
pub record IsSent (s : PlayerState) (old : Option (List ℕ)) (s' : PlayerState) (now : Option (List ℕ)) : Type 0 where
  pub sent : List ℕ
  pub parts : s.replies ≡ sent ++ s'.replies
  pub gained : Appends old now sent
  pub kept : s' ≡ record s { replies = s'.replies }

module _ {T : Type 0} (may : T → Request → ShownReply → T → Type 0) where
  -- each turn has this text
  module _ (text : Turn → List ℕ) where
    -- service and player have answered what p asks for, by turns that the service allows. The text of these turns is
    -- what the writer has gained, and then the replies that the player still holds
    pub record Stands (start world : T) (player : PlayerState) (p : Progress) (before now : Option (List ℕ)) : Type 0 where
      pub turns : List Turn
      pub asked_is : map asked turns ≡ p.asked
      pub run : Runs may start turns world
      pub line_is : player.line ≡ held p.line
      pub over_is : player.over ≡ p.over
      pub counts : CountsAnswers (answers_of turns) player.summary
      pub written : List ℕ
      pub gained : Appends before now written
      pub text_is : flat_map text turns ≡ written ++ player.replies

    -- the service has answered the first requests of p, and the writer has gained a prefix of the text of these turns
    pub record StandsPart (start world : T) (p : Progress) (before now : Option (List ℕ)) : Type 0 where
      pub turns : List Turn
      pub others : List (Result Command Bad)
      pub asked_is : p.asked ≡ map asked turns ++ others
      pub run : Runs may start turns world
      pub part : HasPartOf before now (flat_map text turns)

    -- a player that had answered what p asks for has now answered what `next p` asks for, and has written nothing
    -- between
    abbrev pub Advances : T → PlayerState → T → PlayerState → (Progress → Progress) → Type 0
    Advances w s u s' next = (start : T) (p : Progress) (before now : Option (List ℕ)) → Stands start w s p before now → Stands start u s' (next p) before now

    -- a player that had answered what p asks for has now answered what `next p` asks for, and has written between
    abbrev pub AdvancesWriting : T → PlayerState → Option (List ℕ) → T → PlayerState → Option (List ℕ) → (Progress → Progress) → Type 0
    AdvancesWriting w s old u s' new next = (start : T) (p : Progress) (before : Option (List ℕ)) → Stands start w s p before old → Stands start u s' (next p) before new

    -- a player that had answered what p asks for has now answered part of what `next p` asks for, and has written part
    -- of that
    abbrev pub AdvancesInPart : T → PlayerState → Option (List ℕ) → T → Option (List ℕ) → (Progress → Progress) → Type 0
    AdvancesInPart w s old u new next = (start : T) (p : Progress) (before : Option (List ℕ)) → Stands start w s p before old → StandsPart start u (next p) before new
