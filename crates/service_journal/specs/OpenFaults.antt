-- why a journal is not opened (this project's profile)
use Rattle.std.specs.Prelude.{◌≡◌, ◌≢◌, ℕ, List, ◌++◌, false}
use Rattle.model_asked.specs.declared.config.Config.{Config}
use Rattle.model_asked.specs.Config.{gives_names}
use Rattle.text_player.specs.Records.{header_line}
use Rattle.text_checker.specs.declared.verdict.Verdict.{Verdict}
use Rattle.text_checker.specs.declared.verdict.Verdict.TheVariants as verdict
use Rattle.text_checker.specs.Verdict.{IsVerdict}
use Rattle.service_journal.specs.declared.opening.OpenFault.{OpenFault}
use Rattle.service_journal.specs.declared.opening.OpenFault.TheVariants.{Disk, NoMemory, Judged, OtherConfig, OtherLine, NoNames}
use Rattle.service_journal.specs.DiskState.{DiskState}
use Rattle.service_journal.specs.Journals.{KeepsLines, without_torn}

-- the lines are no record of a run, as `check` says
pub record IsNoRun (whole : List ℕ) (v : Verdict) : Type 0 where
  pub said : IsVerdict whole v
  pub no : v ≢ verdict.Yes
  pub sure : v ≢ verdict.NoMemory

-- they are one, with another header than this config's
pub record IsOfAnother (c : Config) (whole : List ℕ) : Type 0 where
  pub yes : IsVerdict whole verdict.Yes
  pub other : (rest : List ℕ) → whole ≢ header_line c ++ rest

-- they are one, with this config's header
pub record IsOfConfig (c : Config) (whole : List ℕ) : Type 0 where
  pub yes : IsVerdict whole verdict.Yes
  pub rest : List ℕ
  pub is : whole ≡ header_line c ++ rest

-- when the whole lines of a disk are refused for this; that a disk fails, or a growth is refused, may come at any time
abbrev pub IsFaultOf : Config → List ℕ → OpenFault → Type 0
IsFaultOf c whole (Disk why) = Unit {0}
IsFaultOf c whole NoMemory = Unit {0}
IsFaultOf c whole (Judged v) = IsNoRun whole v
IsFaultOf c whole OtherConfig = IsOfAnother c whole
IsFaultOf c whole (OtherLine number) = IsOfConfig c whole
IsFaultOf c whole NoNames = gives_names c.world ≡ false

-- when a disk of these bytes is
abbrev pub IsOpenFault : Config → List ℕ → OpenFault → Type 0
IsOpenFault c bytes why = IsFaultOf c (without_torn bytes) why

-- a disk whose journal was refused for this is as it was; where a call of it failed, its whole lines stand there still
abbrev pub IsSpared : OpenFault → DiskState → DiskState → Type 0
IsSpared (Disk why) s t = KeepsLines s t
IsSpared NoMemory s t = t ≡ s
IsSpared (Judged v) s t = t ≡ s
IsSpared OtherConfig s t = t ≡ s
IsSpared (OtherLine number) s t = t ≡ s
IsSpared NoNames s t = t ≡ s
