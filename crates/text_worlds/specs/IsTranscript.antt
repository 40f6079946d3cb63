-- transcripts by the kind of world
use Rattle.std.specs.Prelude.{List}
use Rattle.model_asked.specs.declared.config.Config.{Config}
use Rattle.model_asked.specs.declared.kind.WorldKind.{WorldKind}
use Rattle.model_asked.specs.declared.kind.WorldKind.TheVariants.{Splitter, Grid, Rename, Tree, Wide}
use Rattle.text_worlds.specs.DeskWorld.{IsDeskTranscript}
use Rattle.text_worlds.specs.GridWorld.{IsGridTranscript}
use Rattle.text_worlds.specs.SplitterWorld.{IsSplitterTranscript}
use Rattle.text_player.specs.Turns.{Turn}

-- what is said in turn in a world of this kind
abbrev pub IsTranscriptByKind : WorldKind → Config → List Turn → Type 0
IsTranscriptByKind Splitter config ts = IsSplitterTranscript config ts
IsTranscriptByKind Grid config ts = IsGridTranscript config ts
IsTranscriptByKind Rename config ts = IsDeskTranscript config ts
IsTranscriptByKind Tree config ts = IsDeskTranscript config ts
IsTranscriptByKind Wide config ts = IsDeskTranscript config ts

-- and in one of the config's
abbrev pub IsTranscript : Config → List Turn → Type 0
IsTranscript config ts = IsTranscriptByKind config.world config ts
