use Rattle.std.proofs.Common.{ℕ, List, ◌∙◌, subst}
use Rattle.service_journal.specs.Openings.{IsRecovered}
use Rattle.service_host.proofs.holders.recorded_hall.Goals as goal

pub returns-in-Ok : goal.returns-in-Ok
returns-in-Ok c = (
  c.in_ok-config.config,
  c.in-Ok.field-0-1,
  subst (λ (bytes : List ℕ). IsRecovered c.in_ok-config.config bytes c.in-Ok.hall c.in-Ok.field-0-1) (c.as_slice-bytes.ensures ∙ c.in_ok-text.ensures) c.in-Ok.ensures.hall,
)
