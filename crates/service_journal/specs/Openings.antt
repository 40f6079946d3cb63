-- what is read of the bytes of a journal
use Rattle.std.specs.Prelude.{◌≡◌, ◌⊎◌, ℕ, List, [], ◌∷◌, ◌++◌, take, drop, true, flat_map}
use mathlib.Core.List.{IsPrefix}
use Rattle.model_asked.specs.declared.config.Config.{Config}
use Rattle.model_asked.specs.declared.exchange.Exchange.{Exchange}
use Rattle.text_lines.specs.Lines.{has_no_lf}
use Rattle.text_player.specs.Records.{exchange_line, header_line}
use Rattle.service_hall.specs.HallState.{HallState}
use Rattle.service_hall.specs.Halls.{hall_of}
use Rattle.service_journal.specs.WriteAheads.{record_of_hall}

-- the hall has accepted one more event, and its line stood before the rest
pub record GoesOnBy (h u : HallState) (lines rest : List ℕ) : Type 0 where
  pub exchange : Exchange
  pub after : u ≡ hall_of h.config (h.history ++ exchange ∷ [])
  pub line : lines ≡ exchange_line exchange ++ rest

-- the lines are those of all that the hall has accepted
pub record HasFollowed (c : Config) (h : HallState) (lines : List ℕ) : Type 0 where
  pub config : h.config ≡ c
  pub all : lines ≡ flat_map exchange_line h.history

-- the bytes are the record of a hall of this config, so many bytes, and a rest with no LF; or a prefix of its header with no LF, of one
-- with no event
pub record IsRecord (c : Config) (bytes : List ℕ) (h : HallState) (whole : ℕ) : Type 0 where
  pub config : h.config ≡ c
  pub front : take whole bytes ≡ record_of_hall h
  pub torn : has_no_lf (drop whole bytes) ≡ true

pub record IsFresh (c : Config) (bytes : List ℕ) (h : HallState) (whole : ℕ) : Type 0 where
  pub none : h ≡ hall_of c []
  pub header : IsPrefix bytes (header_line c)
  pub torn : has_no_lf bytes ≡ true
  pub zero : whole ≡ 0

abbrev pub IsRecovered : Config → List ℕ → HallState → ℕ → Type 0
IsRecovered c bytes h whole = IsRecord c bytes h whole ⊎ IsFresh c bytes h whole
