-- the desk that a list of accepted exchanges leads to
use Rattle.std.specs.Prelude.{◌≡◌, List, [], ◌∷◌, None}
use Rattle.model_asked.specs.declared.exchange.Exchange.{Exchange}
use Rattle.text_worlds.specs.desk.Desk.{desk_reply, desk_after, desk_refusal}
use Rattle.text_worlds.specs.desk.DeskValue.{DeskValue}

-- the desk after the events of these exchanges
abbrev pub replay : DeskValue → List Exchange → DeskValue
replay w [] = w
replay w (x ∷ xs) = replay (desk_after w x.event) xs

-- each event is accepted, and has the reply that is due after those before it
abbrev pub AreAccepted : DeskValue → List Exchange → Type 0
AreAccepted w [] = Unit {0}
AreAccepted w (x ∷ xs) = (desk_refusal w x.event ≡ None) × (x.reply ≡ desk_reply w x.event) × AreAccepted (desk_after w x.event) xs
