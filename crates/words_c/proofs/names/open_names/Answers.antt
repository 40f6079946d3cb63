use Rattle.std.proofs.Common.{rules, ap, sym, ◌∙◌, ◌≡◌}
use Rattle.std.specs.Arc.{arc_value}
use Rattle.words_names.specs.Seats.{DealerId, NamesId}
use Rattle.words_c.proofs.names.open_names.Goals as goal

pub invariant_of-result : goal.invariant_of-result
invariant_of-result c =
    let shared : arc_value c.in_ok-names.names ≡ c.in-Ok.names = search rules in
    record { dealt = ap (λ (d : DealerId). d.names) c.in-Ok.ensures.dealer ∙ sym shared; ours = tt; was = tt }
