-- Configs of the same world and sizes are the same.
use Rattle.std.proofs.Common.{rules}
use Rattle.service_hall.proofs.cited.Configs.{same_config}
use Rattle.service_follow.proofs.retelling.is_same_config.Goals as goal

pub returns : goal.returns
returns c = λ same. same_config c.args.one c.args.other (search rules) (search rules) (search rules) (search rules)
