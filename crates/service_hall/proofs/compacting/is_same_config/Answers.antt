use Rattle.std.proofs.Common.{rules}
use Rattle.service_hall.proofs.cited.Configs.{same_config}
use Rattle.service_hall.proofs.compacting.is_same_config.Goals as goal

pub returns : goal.returns
returns c = λ same. same_config c.args.one c.args.other (c.is_same_world.ensures c.if-not-is_same_world.false) (search rules) (search rules) (search rules)
