-- who holds numbers by the record of a hall
use Rattle.std.specs.Prelude.{ℕ, List, ◌++◌, Option, IfSome}
use Rattle.std.specs.Io.KnownBytes.{Appends}
use Rattle.text_lines.specs.Lines.{rest_of}
use Rattle.text_records.specs.Seals.{lines_in}
use Rattle.text_records.specs.declared.seals.LineForm.TheVariants.{Plain}
use Rattle.text_worlds.specs.desk.Held.{slots_of}
use Rattle.service_hall.specs.HallState.{HallState}
use Rattle.service_hall.specs.Halls.{desk_of}
use Rattle.text_lines.specs.held.Held.{all_held}
use Rattle.model_asked.specs.declared.config.Config.{Config}
use Rattle.service_journal.specs.Openings.{IsRecovered}

-- these bytes, with what sealed lines hold, are the record of this hall, once a torn last line is cut, or a prefix of its header
abbrev pub IsOfHall : HallState → List ℕ → Type 0
IsOfHall hall bytes = (config : Config) × (whole : ℕ) × IsRecovered config (lines_in Plain bytes ++ rest_of bytes) hall whole

-- of the hall whose record these bytes are it is reported who holds numbers
pub record TellsHolders (record_bytes before now : Option (List ℕ)) : Type 0 where
  pub hall : HallState
  pub recorded : IfSome record_bytes (IsOfHall hall)
  pub reported : Appends before now (all_held (slots_of (desk_of hall)))
