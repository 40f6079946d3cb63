use Rattle.std.proofs.Common.{ap, subst, arith}
use Rattle.words_names.specs.NameLaw.{NameSpec}
use Rattle.words_names.specs.Seats.{RenamedId, DealerId}
use Rattle.words_names.proofs.Naming.{name_law}
use Rattle.words_names.proofs.names.Names.tally.Goals as goal

pub returns-clause-low : goal.returns-clause-low
returns-clause-low g c =
    let few = c.tally.ensures.counted in
    let entered = ap (λ (e : RenamedId). e.entered) c.renamed.view_is in
    let dealt = ap (λ (d : DealerId). d.dealt) c.dealer.view_is in
    let high = (subst NameSpec c.renamed.view_is (name_law _ c.renamed.invariant)).to in
    omega arith
