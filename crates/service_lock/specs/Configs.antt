-- a config, for a lock of which nothing was picked
use Rattle.std.proofs.Common.{arith}
use Rattle.model_asked.specs.declared.config.Config.{Config}
use Rattle.model_asked.specs.declared.kind.WorldKind.TheVariants.{Rename}

pub some_config : Config
some_config = record { world = Rename; m = 1; k = 1; limit = 1; in_range = (omega arith, omega arith, omega arith, omega arith, omega arith, omega arith) }
