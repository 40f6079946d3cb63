-- what a clerk at its lock may answer as a service
use Rattle.std.specs.Prelude.{◌≡◌, List, ◌++◌, map}
use Rattle.model_asked.specs.declared.config.Config.{Config}
use Rattle.model_asked.specs.declared.exchange.Exchange.{Exchange}
use Rattle.model_asked.specs.Replies.{ShownReply}
use Rattle.model_asked.specs.Requests.{Request}
use Rattle.model_asked.specs.Requests.Request.{Take, OwnerOf}
use Rattle.text_player.specs.Runs.{Runs}
use Rattle.text_player.specs.Turns.{Turn}
use Rattle.service_hall.specs.Serving.{accepted}
use Rattle.service_lock.specs.declared.kept.Kept.{Kept}
use Rattle.service_lock.specs.CallerState.{CallerState}
use Rattle.service_lock.specs.Kepts.{IsTaken, IsReported, IsSound}

-- a clerk at its lock, which has seen a lawful history: an event is taken as any caller's is, and who has a name is reported as to any caller
abbrev pub ClerkServes : Config → CallerState → Request → ShownReply → CallerState → Type 0
ClerkServes c s (Take e) r t = IsSound c s → IsTaken c s e r t
ClerkServes c s (OwnerOf n) r t = IsSound c s → IsReported c s n r t

-- a clerk of which this held has come to hold that by turns that it answered
abbrev pub ClerkGoesOn : Config → CallerState → CallerState → Type 0
ClerkGoesOn c s t = (ts : List Turn) × Runs (ClerkServes c) s ts t

-- a clerk has come to keep also those of these exchanges, in order
abbrev pub exchange_kept : Kept → Exchange
exchange_kept k = k.exchange

abbrev pub KeepsAccepted : List Kept → List Exchange → List Kept → Type 0
KeepsAccepted ks xs new = map exchange_kept new ≡ map exchange_kept ks ++ accepted xs
