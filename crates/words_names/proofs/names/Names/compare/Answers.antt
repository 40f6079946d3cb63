use Rattle.std.proofs.Common.{ap, sym, ◌∙◌}
use Rattle.words_names.specs.Seats.{ClaimId}
use Rattle.words_names.proofs.Naming.{one_seat}
use Rattle.words_names.proofs.names.Names.compare.Goals as goal

pub returns-clause-one_seat : goal.returns-clause-one_seat
returns-clause-one_seat g c = λ same.
    ap (λ (x : ClaimId). x.number) (sym c.one.view_is)
    ∙ one_seat _ _ c.compare.ensures.reported (ap (λ (x : ClaimId). x.name) c.one.view_is ∙ same ∙ sym (ap (λ (x : ClaimId). x.name) c.other.view_is))
    ∙ ap (λ (x : ClaimId). x.number) c.other.view_is
