-- the turns that a service allows, in order
use Rattle.std.specs.Prelude.{◌≡◌, ◌≢◌, List, [], ◌∷◌}
use Rattle.model_steps.specs.declared.refusal.Refusal.TheVariants as refusal
use Rattle.model_asked.specs.Replies.{ShownReply}
use Rattle.model_asked.specs.declared.reply.Reply.TheVariants as reply
use Rattle.model_asked.specs.Requests.{Request}
use Rattle.model_asked.specs.Requests.Request.{Take, OwnerOf}
use Rattle.text_player.specs.Turns.{Turn}
use Rattle.text_player.specs.Turns.Turn.{Answered, Reported, Ended, Misread}

-- the service may answer these turns in order, from state w to state u. `quit` and bad lines make no request
abbrev pub Runs : {T : Type 0} → (T → Request → ShownReply → T → Type 0) → T → List Turn → T → Type 0
Runs may w [] u = w ≡ u
Runs {T = T} may w (Answered x ∷ ts) u = (mid : T) × may w (Take x.event) x.reply mid × Runs may mid ts u
Runs {T = T} may w (Reported n r ∷ ts) u = (mid : T) × may w (OwnerOf n) r mid × Runs may mid ts u
Runs may w (Ended ∷ ts) u = Runs may w ts u
Runs may w (Misread bad ∷ ts) u = Runs may w ts u

abbrev pub IsRunTo : {T : Type 0} → (T → Request → ShownReply → T → Type 0) → T → T → List Turn → Type 0
IsRunTo may w u ts = Runs may w ts u

-- the service may answer these turns in order, from state w
abbrev pub CanRun : {T : Type 0} → (T → Request → ShownReply → T → Type 0) → T → List Turn → Type 0
CanRun {T = T} may w ts = (u : T) × Runs may w ts u

-- a fresh service may answer these turns in order
pub record CouldRun {T : Type 0} (fresh : T → Type 0) (may : T → Request → ShownReply → T → Type 0) (ts : List Turn) : Type 0 where
  pub start : T
  pub last : T
  pub is_fresh : fresh start
  pub run : Runs may start ts last

-- no reply is `NoMemory`
abbrev pub NoneRefusedGrowth : List Turn → Type 0
NoneRefusedGrowth [] = Unit {0}
NoneRefusedGrowth (Answered x ∷ ts) = (x.reply ≢ reply.Refused refusal.NoMemory) × NoneRefusedGrowth ts
NoneRefusedGrowth (Reported n r ∷ ts) = (r ≢ reply.Refused refusal.NoMemory) × NoneRefusedGrowth ts
NoneRefusedGrowth (Ended ∷ ts) = NoneRefusedGrowth ts
NoneRefusedGrowth (Misread bad ∷ ts) = NoneRefusedGrowth ts
