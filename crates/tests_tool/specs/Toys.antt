-- the rules of the tests' world
use Rattle.std.specs.Prelude.{◌≡◌, ℕ, ◌+◌, ◌⊎◌, List, [], ◌∷◌}
use Rattle.model_steps.specs.declared.refusal.Refusal.TheVariants as refusal
use Rattle.model_asked.specs.declared.exchange.Exchange.{Exchange}
use Rattle.model_asked.specs.Replies.{ShownReply}
use Rattle.model_asked.specs.declared.reply.Reply.TheVariants as reply
use Rattle.model_asked.specs.Requests.{Request}
use Rattle.model_asked.specs.Requests.Request.{Take, OwnerOf}
use Rattle.text_worlds.specs.Visits.{NoName}

-- a shelf, by how many events it took: it takes each, and may be refused memory for each
abbrev pub ShelfMay : ℕ → Request → ShownReply → ℕ → Type 0
ShelfMay w (Take e) r u = ((r ≡ reply.Ok) × (u ≡ w + 1)) ⊎ ((r ≡ reply.Refused refusal.NoMemory) × (u ≡ w))
ShelfMay w (OwnerOf n) r u = NoName w n r u

-- so each reply is one of these
abbrev pub IsShelfRun : List Exchange → Type 0
IsShelfRun [] = Unit {0}
IsShelfRun (x ∷ r) = ((x.reply ≡ reply.Ok) ⊎ (x.reply ≡ reply.Refused refusal.NoMemory)) × IsShelfRun r
