-- what is said is determined
use Rattle.std.specs.Prelude.{◌≡◌, List, map}
use Rattle.text_player.specs.Turns.{Turn, asked}
use Rattle.text_player.specs.Runs.{NoneRefusedGrowth}

-- of turns to the same lines in which no growth was refused, only one list is such a transcript
abbrev pub IsOneTranscript : (List Turn → Type 0) → Type 0
IsOneTranscript IsTranscript =
    (ts us : List Turn) → map asked ts ≡ map asked us → IsTranscript ts → IsTranscript us → NoneRefusedGrowth ts → NoneRefusedGrowth us → ts ≡ us
