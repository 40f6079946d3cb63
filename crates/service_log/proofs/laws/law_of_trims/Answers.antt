-- What was decided is never lacking.
use Rattle.service_log.proofs.laws.law_of_trims.Goals as goal

pub returns : goal.returns
returns g c = λ sound below place s t decided keeps under lacking.
    let was = decided place under in
    sound (t, place, (was.0, keeps place was.0 was.1), lacking)
