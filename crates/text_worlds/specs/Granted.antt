-- turns without those that were refused memory
use Rattle.std.specs.Prelude.{Bool, true, false, if◌then◌else◌, List, [], ◌∷◌}
use Rattle.model_steps.specs.declared.refusal.Refusal.{Refusal}
use Rattle.model_steps.specs.declared.refusal.Refusal.TheVariants.{NoMemory}
use Rattle.model_asked.specs.Replies.{ShownReply}
use Rattle.model_asked.specs.declared.reply.Reply.TheVariants.{Refused}
use Rattle.text_player.specs.Turns.{Turn}
use Rattle.text_player.specs.Turns.Turn.{Answered, Reported, Ended, Misread}

abbrev pub is_of_memory : Refusal → Bool
is_of_memory NoMemory = true
is_of_memory _ = false

-- memory was refused
abbrev pub is_lack : ShownReply → Bool
is_lack (Refused why) = is_of_memory why
is_lack _ = false

-- the turns without those whose reply passes this test
abbrev pub without : (ShownReply → Bool) → List Turn → List Turn
without test [] = []
without test (Answered x ∷ ts) = if test x.reply then without test ts else Answered x ∷ without test ts
without test (Reported n r ∷ ts) = Reported n r ∷ without test ts
without test (Ended ∷ ts) = Ended ∷ without test ts
without test (Misread bad ∷ ts) = Misread bad ∷ without test ts

-- the turns that were not refused memory
abbrev pub granted : List Turn → List Turn
granted ts = without is_lack ts
