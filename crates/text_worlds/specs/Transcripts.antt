-- transcripts: what is said in turn in one run
use Rattle.std.specs.Prelude.{◌≡◌, ℕ, ◌++◌, List, ◌∷◌}
use Rattle.model_asked.specs.declared.exchange.Exchange.{Exchange}
use Rattle.model_asked.specs.Replies.{ShownReply}
use Rattle.model_asked.specs.Requests.{Request}
use Rattle.text_worlds.specs.desk.Names.{IsOwnerReply}
use Rattle.text_player.specs.Runs.{CouldRun}
use Rattle.text_player.specs.Turns.{Turn, exchanges}
use Rattle.text_player.specs.Turns.Turn.{Reported}

-- for so many participants, everyone who asks who has a name learns rightly, by the exchanges before
abbrev pub AreOwnersReported : ℕ → List Turn → Type 0
AreOwnersReported most ts = (front back : List Turn) (n : ℕ) (r : ShownReply) → ts ≡ front ++ Reported n r ∷ back → IsOwnerReply most (exchanges front) n r

-- turns whose exchanges are a run, in which everyone who asks learns rightly who has a name, for so many participants, and
-- which the rules allow from a fresh world
pub record IsTranscriptOf {T : Type 0} (IsRun : List Exchange → Type 0) (most : ℕ) (fresh : T → Type 0) (may : T → Request → ShownReply → T → Type 0) (ts : List Turn) : Type 0 where
  pub run : IsRun (exchanges ts)
  pub owners : AreOwnersReported most ts
  pub could : CouldRun fresh may ts
