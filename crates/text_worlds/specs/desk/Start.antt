-- how the pool of a desk begins
use Rattle.model_asked.specs.Config.{numbers_in}
use Rattle.model_asked.specs.declared.config.Config.{Config}
use Rattle.model_pool.specs.PoolState.{PoolStart}

-- the pool of this config: it begins with as many numbers as the config says, and may get as many as its world lets it
abbrev pub pool_start : Config → PoolStart
pool_start config = record { most = numbers_in config.world; size = config.k }
