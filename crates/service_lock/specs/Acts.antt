-- the events of a session
use Rattle.std.specs.Prelude.{ℕ}
use Rattle.model_asked.specs.declared.event.Event.{Event}
use Rattle.model_asked.specs.declared.event.Event.TheVariants as event
use Rattle.service_lock.specs.declared.act.Act.{Act}
use Rattle.service_lock.specs.declared.act.Act.TheVariants.{Step, Enter, Probe, Leave, Put, Get}

abbrev pub event_of : Act → ℕ → Event
event_of Step id = event.Step id
event_of Enter id = event.Enter id
event_of Probe id = event.Probe id
event_of Leave id = event.Leave id
event_of (Put value) id = event.Put id value
event_of Get id = event.Get id
