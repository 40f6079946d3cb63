-- how a server takes numbers, by its options
use Rattle.model_asked.specs.Config.{is_wide}
use Rattle.service_loop.specs.declared.hosting.HostOptions.{HostOptions}
use Rattle.service_loop.specs.declared.manner.Manner.{Manner}

abbrev pub manner_of : HostOptions → Manner
manner_of options = record { wide = is_wide options.kind; tokens = options.tokens }
