use Rattle.std.proofs.Common.{ℕ, ap, ◌∙◌}
use Rattle.words_machine.specs.Ids as machine
use Rattle.words_machine.specs.grid.Seats.{claim_at, claim_of}
use Rattle.words_machine.proofs.grid_lemmas.Places.{outcome_is_place}
use Rattle.words_machine.proofs.grid.word_grid.WordGrid.claim.Goals as goal

pub returns-clause-claim : goal.returns-clause-claim
returns-clause-claim g c =
    let seat = c.entered.inside.seat in
    ap (λ (x : machine.ClaimId ℕ). claim_at x.words x.number x.outcome) c.claim-claim.ensures.claim
    ∙ ap (claim_at seat.words seat.number) (outcome_is_place seat c.entered.invariant)
    ∙ ap claim_of c.entered.view_is
