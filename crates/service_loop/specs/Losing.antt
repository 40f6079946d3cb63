-- what lines whose answers were lost say of stays
use Rattle.std.specs.Prelude.{if◌then◌else◌, ℕ, List, [], ◌∷◌, ◌++◌, Option, Some, None, Result, Ok, Err}
use Rattle.model_asked.specs.declared.bad.Bad.{Bad}
use Rattle.model_asked.specs.declared.command.Command.{Command}
use Rattle.model_asked.specs.declared.command.Command.TheVariants as command
use Rattle.model_asked.specs.declared.event.Event.{Event}
use Rattle.model_asked.specs.declared.event.Event.TheVariants as event
use Rattle.model_asked.specs.declared.kind.WorldKind.{WorldKind}
use Rattle.text_lines.specs.Meaning.{meaning}
use Rattle.model_pool.specs.declared.stays.kept_stay.KeptStay.{KeptStay}
use Rattle.model_pool.specs.stays.Stays.{Act, after_acts, is_kept}
use Rattle.model_pool.specs.stays.Stays.Act.{Entered}
use Rattle.service_loop.specs.declared.attended.TheConstants.{NOBODY}

-- whose `enter` an event is, and a line
abbrev pub enters : Event → Option ℕ
enters (event.Enter id) = Some id
enters _ = None

abbrev pub entered_by : Result Command Bad → Option ℕ
entered_by (Err bad) = None
entered_by (Ok (command.Event e)) = enters e
entered_by (Ok (command.Owner n)) = None
entered_by (Ok command.Quit) = None

-- An `enter` may have been applied, though its answer was lost: so `NOBODY` keeps the stay, unless a keeper keeps it that has not ended
abbrev pub lost_act : List KeptStay → Option ℕ → List Act
lost_act stays None = []
lost_act stays (Some id) = if is_kept id stays then [] else Entered id NOBODY ∷ []

-- and so of lines, one after another
abbrev pub lost_acts : WorldKind → List KeptStay → List (List ℕ) → List Act
lost_acts kind stays [] = []
lost_acts kind stays (line ∷ lines) =
    lost_act stays (entered_by (meaning kind line)) ++ lost_acts kind (after_acts stays (lost_act stays (entered_by (meaning kind line)))) lines
