-- A hall is its config and its history.
use Rattle.std.proofs.Common.{◌≡◌, sym, ◌∙◌}
use Rattle.service_hall.specs.HallState.{HallState}
use Rattle.service_follow.proofs.retelling.is_same_hall.Goals as goal

same_hall : (a b : HallState) → a.config ≡ b.config → a.history ≡ b.history → a ≡ b
same_hall a b config history = λ i. record { config = config i; history = history i }

pub returns : goal.returns
returns c = λ same. same_hall c.args.new.now c.args.hall.now
    (sym c.config.ensures.config ∙ (c.is_same_config.ensures c.if-not-is_same_config.false ∙ c.config-2.ensures.config)) (c.is_one_history.ensures same)
