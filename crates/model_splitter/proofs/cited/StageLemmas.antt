-- how far a visit has come, by the tests
use Rattle.std.proofs.Common.{◌≡◌, true, refl}
use Rattle.model_splitter.proofs.Common.{Right, Down, VisitStage, Gone, went_right, went_down}

pub gone_right : (s : VisitStage) → went_right s ≡ true → s ≡ Gone Right
gone_right (Gone Right) h = refl
gone_right s h = absurd (cc)

pub gone_down : (s : VisitStage) → went_down s ≡ true → s ≡ Gone Down
gone_down (Gone Down) h = refl
gone_down s h = absurd (cc)
